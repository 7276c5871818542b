-- Where the records of a table lie, and that parts of its bytes hold the same numbers. Assumes nothing.
use Rattle.std.proofs.Common.{◌≡◌, ℕ, ◌+◌, ◌*◌, ◌<◌, ◌≤◌, List, get_or, ap, ◌∙◌, arith}
use Rattle.std.specs.List.{between}
use Rattle.std.proofs.lemmas.List.Edits.{get_or-between}
use Rattle.sources.specs.Bytes.{word_at, half_at}
use Rattle.sources.specs.Records.{block_of, record_of, figures_at}

-- ---- the numbers of a part are those of the whole, further on
byte_part : (bytes : List ℕ) (i j k at : ℕ) → i + k < j → at ≡ i + k → get_or (between i j bytes) k 0 ≡ get_or bytes at 0
byte_part bytes i j k at h e = get_or-between bytes i j k 0 h ∙ ap (λ (n : ℕ). get_or bytes n 0) (omega arith)

word_part : (bytes : List ℕ) (i j k at : ℕ) → i + k + 4 ≤ j → at ≡ i + k → word_at (between i j bytes) k ≡ word_at bytes at
unfolding word_at
word_part bytes i j k at h e =
    let a = byte_part bytes i j k at (omega arith) (omega arith) in
    let b = byte_part bytes i j (k + 1) (at + 1) (omega arith) (omega arith) in
    let c = byte_part bytes i j (k + 2) (at + 2) (omega arith) (omega arith) in
    let d = byte_part bytes i j (k + 3) (at + 3) (omega arith) (omega arith) in
    cc

half_part : (bytes : List ℕ) (i j k at : ℕ) → i + k + 2 ≤ j → at ≡ i + k → half_at (between i j bytes) k ≡ half_at bytes at
unfolding half_at
half_part bytes i j k at h e =
    let a = byte_part bytes i j k at (omega arith) (omega arith) in
    let b = byte_part bytes i j (k + 1) (at + 1) (omega arith) (omega arith) in
    cc

figures_part : (date : ℕ) (bytes : List ℕ) (i j k at : ℕ) → i + k + 12 ≤ j → at ≡ i + k → figures_at date (between i j bytes) k ≡ figures_at date bytes at
figures_part date bytes i j k at h e =
    let a = word_part bytes i j k at (omega arith) (omega arith) in
    let b = half_part bytes i j (k + 4) (at + 4) (omega arith) (omega arith) in
    let c = half_part bytes i j (k + 6) (at + 6) (omega arith) (omega arith) in
    let d = word_part bytes i j (k + 8) (at + 8) (omega arith) (omega arith) in
    cc

-- the record of an index in the block of a station, and its place in the bytes
pub record_figures : (date : ℕ) (bytes : List ℕ) (days s i : ℕ) → i < days → figures_at date (record_of (block_of bytes days s) i) 0 ≡ figures_at date bytes (20 + 12 * (days * s + i))
record_figures date bytes days s i h =
    figures_part date (block_of bytes days s) (12 * i) (12 * i + 12) 0 (12 * i) (omega arith) (omega arith)
    ∙ figures_part date bytes (20 + 12 * days * s) (20 + 12 * days * s + 12 * days) (12 * i) (20 + 12 * (days * s + i)) (omega arith) (omega arith)
