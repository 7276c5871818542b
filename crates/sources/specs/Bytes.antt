-- Little-endian numbers in a list of bytes. Assumes nothing.
use Rattle.std.specs.Prelude.{ℕ, ◌+◌, ◌*◌, List, ℤ, slice_index}
use Rattle.std.specs.Int.{w16}
use Rattle.std.proofs.Common.{to_z}

-- the number of 32 bits that begins at a place
unfoldable pub word_at : List ℕ → ℕ → ℕ
word_at bytes place = slice_index bytes place + slice_index bytes (place + 1) * 256 + slice_index bytes (place + 2) * 65536 + slice_index bytes (place + 3) * 16777216

-- the signed number of 16 bits that begins at a place
unfoldable pub half_at : List ℕ → ℕ → ℤ
half_at bytes place = to_z w16 (slice_index bytes place + slice_index bytes (place + 1) * 256)
