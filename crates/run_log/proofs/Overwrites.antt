-- Bytes written over a part of a buffer. Assumes nothing.
use Rattle.std.proofs.Common.{◌≡◌, ℕ, ◌+◌, ◌≤◌, List, ◌++◌, length, sym, refl, ap, ◌∙◌, arith, length-append}
use lib.Seq.{paste}
use Rattle.std.proofs.lemmas.List.Edits.{paste_all, paste-paste, length-paste}
use Rattle.run_log.specs.Log.{written}

-- the same by the library's word
as_paste : (a xs : List ℕ) (at : ℕ) → paste xs at a (length a) ≡ written a at xs
as_paste a xs at = paste_all xs at a (length a) refl

joined : (a b xs : List ℕ) (at : ℕ) → at ≤ length xs → written b (at + length a) (written a at xs) ≡ written (a ++ b) at xs
joined a b xs at h =
    ap (written b (at + length a)) (sym (as_paste a xs at))
    ∙ sym (as_paste b (paste xs at a (length a)) (at + length a))
    ∙ paste-paste xs at a b (length a) (length b) refl refl h
    ∙ ap (paste xs at (a ++ b)) (sym (length-append a b))
    ∙ as_paste (a ++ b) xs at

-- one text and then another after it
pub written_next : (a b xs ys : List ℕ) (at i : ℕ) → at ≤ length xs → ys ≡ written a at xs → i ≡ at + length a → written b i ys ≡ written (a ++ b) at xs
written_next a b xs ys at i h first here =
    ap (λ (l : List ℕ). written b i l) first ∙ ap (λ (n : ℕ). written b n (written a at xs)) here ∙ joined a b xs at h

-- the buffer stays as long as it was
pub length-written : (a xs ys : List ℕ) (at : ℕ) → at + length a ≤ length xs → ys ≡ written a at xs → length ys ≡ length xs
length-written a xs ys at h e = ap length (e ∙ sym (as_paste a xs at)) ∙ length-paste xs at a (length a) h (omega arith)
