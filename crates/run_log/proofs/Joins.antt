-- Lines one after another, and how long they are. Assumes nothing.
use Rattle.std.proofs.Common.{◌≡◌, ℕ, ◌+◌, ◌*◌, ◌<◌, ◌≤◌, List, [], ◌∷◌, ◌++◌, map, length, decimal, get_or, take, drop, sym, ap, ◌∙◌, subst, zero-add, arith, lit≤, length-append, Bor}
use Rattle.std.specs.List.{flat_map, sum_by, AllByRecursion as All}
use Rattle.std.proofs.lemmas.List.{take_more, take_all, flat_map_more, length-map, get_or-map}
use Rattle.std.proofs.lemmas.List.Concat.{length-flat_map}
use Rattle.std.proofs.lemmas.List.Folds.{flat_map-map, length-flat_map-take}
use Rattle.run_log.specs.declared.figures.LogFigures.{LogFigures}
use Rattle.run_log.specs.Log.{line_bytes, log_lines, log_bytes, written}
use Rattle.run_log.proofs.Overwrites.{written_next}
use Rattle.run_log.proofs.Decimals.{decimal_short}

-- a line has its name, its digits and two bytes more
pub length-line : (l : List ℕ × ℕ) → length (line_bytes l) ≡ length l.0 + length (decimal l.1) + 2
length-line l = omega (arith, length-append l.0 (32 ∷ (decimal l.1 ++ (10 ∷ []))), length-append (decimal l.1) (10 ∷ []))

-- one line more
lines_more : (ls : List (List ℕ × ℕ)) (i : ℕ) (l : List ℕ × ℕ) → i < length ls → flat_map line_bytes (take (i + 1) ls) ≡ flat_map line_bytes (take i ls) ++ line_bytes (get_or ls i l)
lines_more ls i l h = ap (flat_map line_bytes) (take_more ls i l h) ∙ sym (flat_map_more line_bytes [] (take i ls) (get_or ls i l))

-- lines with short names are short
lines_short : (ls : List (List ℕ × ℕ)) → All (λ l. length l.0 ≤ 8) ls → length (flat_map line_bytes ls) ≤ 74 * length ls
lines_short [] h = omega arith
lines_short (l ∷ ls) h = omega (arith, length-append (line_bytes l) (flat_map line_bytes ls), length-line l, decimal_short l.1, h.0, lines_short ls h.1)

-- a log has at most 666 bytes
pub log_short : (f : LogFigures) → length (log_bytes f) ≤ 666
unfolding log_bytes
log_short f = lines_short (log_lines f) (lit≤ tt, (lit≤ tt, (lit≤ tt, (lit≤ tt, (lit≤ tt, (lit≤ tt, (lit≤ tt, (lit≤ tt, (lit≤ tt, tt)))))))))

-- the bytes of the first lines of a log
abbrev pub first_lines : LogFigures → ℕ → List ℕ
first_lines f i = flat_map line_bytes (take i (log_lines f))

-- a line as the code holds it, and an empty one
abbrev pub told : Bor (List ℕ) × ℕ → List ℕ × ℕ
told l = (l.0.now, l.1)

abbrev pub untold : Bor (List ℕ) × ℕ
untold = (record { ref_ptr = (0, 0); now = [] }, 0)

module _ (f : LogFigures) (items : List (Bor (List ℕ) × ℕ)) (e : map told items ≡ log_lines f) where
  -- the lines up to the next one, that one among them
  pub next_line : (i : ℕ) → i < 9 → first_lines f (i + 1) ≡ first_lines f i ++ line_bytes (told (get_or items i untold))
  next_line i h =
      let many : i < length items = omega (arith, length-map items told, ap length e) in
      subst (λ (ls : List (List ℕ × ℕ)). flat_map line_bytes (take (i + 1) ls) ≡ flat_map line_bytes (take i ls) ++ line_bytes (told (get_or items i untold))) e
      (lines_more (map told items) i (told untold) (omega (arith, length-map items told))
      ∙ ap (λ m. flat_map line_bytes (take i (map told items)) ++ line_bytes m) (get_or-map told items i untold (told untold) many))

  -- their length
  pub next_length : (i : ℕ) → i < 9 → length (first_lines f (i + 1)) ≡ length (first_lines f i) + length (line_bytes (told (get_or items i untold)))
  next_length i h = ap length (next_line i h) ∙ length-append (first_lines f i) (line_bytes (told (get_or items i untold)))

  -- the next line has room where the log has
  pub next_room : (i : ℕ) → i < 9 → length (first_lines f i) + length (line_bytes (told (get_or items i untold))) ≤ length (log_bytes f)
  unfolding log_bytes
  next_room i h =
      let many : i < length items = omega (arith, length-map items told, ap length e) in
      subst (λ (ls : List (List ℕ × ℕ)). length (flat_map line_bytes (take i ls)) + length (line_bytes (told (get_or items i untold))) ≤ length (flat_map line_bytes ls)) e
      (subst (λ (l : List ℕ × ℕ). length (flat_map line_bytes (take i (map told items))) + length (line_bytes l) ≤ length (flat_map line_bytes (map told items))) (get_or-map told items i untold (told untold) many)
      (length-flat_map-take line_bytes (map told items) i (told untold) (omega (arith, length-map items told))))

  -- their lengths make that of the log
  pub lengths_sum : sum_by (λ l. length (line_bytes (told l))) items ≡ length (log_bytes f)
  unfolding log_bytes
  lengths_sum =
      sym (length-flat_map (λ (l : Bor (List ℕ) × ℕ). line_bytes (told l)) items)
      ∙ ap length (sym (flat_map-map line_bytes told items))
      ∙ ap (λ (ls : List (List ℕ × ℕ)). length (flat_map line_bytes ls)) e

  -- the next line written after the first ones
  pub next_written : (xs ys : List ℕ) (at i : ℕ) → i < 9 → at ≡ length (first_lines f i) → ys ≡ written (first_lines f i) 0 xs → written (line_bytes (told (get_or items i untold))) at ys ≡ written (first_lines f (i + 1)) 0 xs
  next_written xs ys at i h long first =
      written_next (first_lines f i) (line_bytes (told (get_or items i untold))) xs ys 0 at (omega arith) first (omega arith)
      ∙ ap (λ (l : List ℕ). written l 0 xs) (sym (next_line i h))

-- nine lines are all
pub all_lines : (f : LogFigures) (i : ℕ) → 9 ≤ i → first_lines f i ≡ log_bytes f
unfolding log_bytes
all_lines f i h = ap (flat_map line_bytes) (take_all i (log_lines f) h)

-- all lines written: the log stands at the start, and past it is what lay there
pub all_written : (f : LogFigures) (xs : List ℕ) (i : ℕ) → 9 ≤ i → written (first_lines f i) 0 xs ≡ log_bytes f ++ drop (length (log_bytes f)) xs
all_written f xs i h = ap (λ (l : List ℕ). written l 0 xs) (all_lines f i h) ∙ ap (λ (n : ℕ). log_bytes f ++ drop n xs) (zero-add (length (log_bytes f)))
