use Rattle.run_log.proofs.cursor.Cursor.+put_number.Given as goal

abbrev pub decreases-put_number : goal.decreases-put_number
decreases-put_number l = l.number
