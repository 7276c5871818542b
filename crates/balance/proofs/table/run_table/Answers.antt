use Rattle.std.proofs.Common.{◌≡◌, None}
use Rattle.sources.specs.Header.{table_fault}
use Rattle.balance.proofs.table.run_table.Goals as goal

pub returns-in-Ok-clause-course : goal.returns-in-Ok-clause-course
returns-in-Ok-clause-course g c =
    let whole : table_fault c.in-Ok.table.bytes.now ≡ None = rw c.in-Ok.ensures.0 c.in-Ok.ensures.1.0 in
    rw (← c.in-Ok.ensures.0) (rw whole (record { stationed = _; lasting = _; course = c.run_column.ensures.course }))
