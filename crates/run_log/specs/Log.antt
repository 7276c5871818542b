-- The bytes of a run's log, and what becomes of a buffer that it is written into. Assumes nothing.
use Rattle.std.specs.Prelude.{◌≡◌, ℕ, ◌+◌, ◌<◌, ◌≤◌, List, [], ◌∷◌, ◌++◌, length, take, drop, Ok, Err, codes, decimal, Result}
use Rattle.std.specs.List.{flat_map}
use Rattle.refusals.specs.declared.log.BufferShort.{BufferShort}
use Rattle.run_log.specs.declared.figures.LogFigures.{LogFigures}

-- a line: the name, a space, the number as `{n}` writes it, a line feed
abbrev pub line_bytes : List ℕ × ℕ → List ℕ
line_bytes l = l.0 ++ (32 ∷ (decimal l.1 ++ (10 ∷ [])))

-- the nine figures, each with its name, in the order of the log
abbrev pub log_lines : LogFigures → List (List ℕ × ℕ)
log_lines f =
    (codes "days", f.days) ∷
    (codes "readings", f.readings) ∷
    (codes "rain", f.rain) ∷
    (codes "stream", f.stream) ∷
    (codes "vapour", f.vapour) ∷
    (codes "deep", f.deep) ∷
    (codes "start", f.start) ∷
    (codes "end", f.end) ∷
    (codes "stop", f.stop) ∷ []

-- the lines, one after another
unfoldable pub log_bytes : LogFigures → List ℕ
log_bytes f = flat_map line_bytes (log_lines f)

-- a buffer with these bytes over what it held from an index on
abbrev pub written : List ℕ → ℕ → List ℕ → List ℕ
written bytes at buffer = take at buffer ++ (bytes ++ drop (at + length bytes) buffer)

-- the log stands at the start of a buffer that holds it; a shorter one is as it was, and the answer tells the length needed
pub record Logged (log before after : List ℕ) (answer : Result ℕ BufferShort) : Type 0 where
  pub fits : length log ≤ length before → (answer ≡ Ok (length log)) × (after ≡ log ++ drop (length log) before)
  pub short : length before < length log → (answer ≡ Err (record { needed = length log })) × (after ≡ before)
