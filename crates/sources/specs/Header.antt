-- Which bytes are a weather table. Assumes nothing.
use Rattle.std.specs.Prelude.{◌≡◌, ℕ, ◌+◌, ◌*◌, ◌≤◌, true, false, not, ◌||◌, List, [], ◌∷◌, length, pos, Some, None, Ok, Err, Option, Result, ◌==◌, nat_lt}
use Rattle.fixed.specs.Limits.{outside, first}
use Rattle.refusals.specs.Refusals.{Refusal, refuse, table_refusal}
use Rattle.refusals.specs.declared.table.HeaderCount.{HeaderCount}
use Rattle.refusals.specs.declared.table.TableFault.{TableFault}
use Rattle.refusals.specs.declared.table.TableFault.TheVariants.{Header}
use Rattle.sources.specs.Bytes.{word_at}
use Rattle.sources.specs.declared.span.Span.{Span}

-- the first that is wrong: the length, a count of the header, or the size that the counts ask for
abbrev pub table_fault : List ℕ → Option Refusal
table_fault bytes = first (
    (nat_lt (length bytes) 20 || not (word_at bytes 16 == length bytes), refuse 21 (length bytes)) ∷
    (outside (pos 1) (pos 64) (pos (word_at bytes 0)), refuse 22 1) ∷
    (outside (pos 1) (pos 36500) (pos (word_at bytes 4)), refuse 22 2) ∷
    (outside (pos 1) (pos 9999) (pos (word_at bytes 8)), refuse 22 3) ∷
    (outside (pos 1) (pos 365) (pos (word_at bytes 12)), refuse 22 4) ∷
    (not (length bytes == 20 + 12 * word_at bytes 0 * word_at bytes 4), refuse 23 0) ∷ [])

-- the header counts the span's stations, days and first date, and the bytes are as many as these ask for
abbrev pub Headed : List ℕ → Span → Type 0
Headed bytes p = (word_at bytes 0 ≡ p.stations) × (word_at bytes 4 ≡ p.days) × (word_at bytes 12 ≡ p.first) × (length bytes ≡ 20 + 12 * p.stations * p.days)

-- the header's length field and first year are right
abbrev pub Stamped : List ℕ → Type 0
Stamped bytes = (word_at bytes 16 ≡ length bytes) × (1 ≤ word_at bytes 8) × (word_at bytes 8 ≤ 9999)

-- the span of a table of these bytes, or the refusal
abbrev pub HeaderRead : List ℕ → Result Span TableFault → Type 0
HeaderRead bytes (Ok p) = (table_fault bytes ≡ None) × Headed bytes p × Stamped bytes
HeaderRead bytes (Err e) = table_fault bytes ≡ Some (table_refusal e)

-- a count of the header within 1 and its greatest, or which of them is outside
abbrev pub CountRead : List ℕ → ℕ → ℕ → HeaderCount → Result ℕ TableFault → Type 0
CountRead bytes place greatest field (Ok n) = (n ≡ word_at bytes place) × (outside (pos 1) (pos greatest) (pos (word_at bytes place)) ≡ false) × (1 ≤ n) × (n ≤ greatest)
CountRead bytes place greatest field (Err e) = (e ≡ Header field) × (outside (pos 1) (pos greatest) (pos (word_at bytes place)) ≡ true)
