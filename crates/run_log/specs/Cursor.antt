-- What is put into a buffer that is filled from its start. Assumes nothing.
use Rattle.std.specs.Prelude.{◌≡◌, ℕ, ◌+◌, List, length}
use Rattle.run_log.specs.Log.{written}
use Rattle.run_log.specs.declared.cursor.Cursor.{Cursor}

-- these bytes come next, in the same buffer
pub record Puts (bytes : List ℕ) (a b : Cursor) : Type 0 where
  pub same_buffer : b.buffer.ghost_name ≡ a.buffer.ghost_name
  pub text : b.buffer.now ≡ written bytes a.filled a.buffer.now
  pub filled : b.filled ≡ a.filled + length bytes
