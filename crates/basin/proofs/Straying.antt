-- The first refusal over a list, as a loop comes to it: what is left of the list gives it. Assumes nothing.
use Rattle.std.proofs.Common.{◌≡◌, ℕ, suc, ◌+◌, ◌<◌, Bool, true, false, cond, not, ltb, leb, List, [], ◌∷◌, length, get_or, drop, Some, None, Option, sym, refl, ap, ◌∙◌, add-one, arith}
use Rattle.std.proofs.lemmas.List.{at_drop_more}
use Rattle.std.proofs.lemmas.Bool.Decides.{nat_tests}
use Rattle.std.proofs.lemmas.Iterator.Adapters.{position_from-zero}
use Rattle.std.specs.List.{position, position_from, enumerate_from}
use Rattle.std.specs.Option.{option_map}
use Rattle.refusals.specs.Refusals.{Refusal, refuse}
use Rattle.network.specs.declared.site.Site.{Site}
use Rattle.network.specs.declared.reach.Reach.{Reach}
use Rattle.basin.specs.Tables.{or_else, stray_fault, next_fault, lies_ahead}

-- F finds the first refusal of the places, each by t: a place that t does not refuse is passed over
pub first_more : {X : Type 0} (F : ℕ → List X → Option Refusal) (t : ℕ → X → Option Refusal) → ((i : ℕ) (x : X) (xs : List X) → F i (x ∷ xs) ≡ or_else (t i x) (F (suc i) xs)) → (xs : List X) (i : ℕ) (z : X) → i < length xs → t i (get_or xs i z) ≡ None → F i (drop i xs) ≡ F (i + 1) (drop (i + 1) xs)
first_more F t step xs i z h none =
    at_drop_more (F i) xs i z h ∙ (step i (get_or xs i z) (drop (i + 1) xs) ∙ (ap (λ (o : Option Refusal). or_else o (F (suc i) (drop (i + 1) xs))) none ∙ ap (λ (k : ℕ). F k (drop (i + 1) xs)) (sym (add-one i))))

-- ---- sites and reaches
-- a test turned round
turned : {X : Type 0} (a n : ℕ) (x y : X) → cond (ltb a n) x y ≡ cond (leb n a) y x
turned a n x y = grind (arith, nat_tests)

swapped : {X : Type 0} (b : Bool) (x y : X) → cond b x y ≡ cond (not b) y x
swapped true x y = refl
swapped false x y = refl

-- a choice of what is mapped
mapped : {X Y : Type 0} (b : Bool) (f : X → Y) (x : X) (o : Option X) → cond b (Some (f x)) (option_map f o) ≡ option_map f (cond b (Some x) o)
mapped true f x o = refl
mapped false f x o = refl

-- the first site that strays has the first place whose reach is not one of n
stray_from : (n i : ℕ) (ss : List Site) → stray_fault n i ss ≡ option_map (refuse 52) (position_from (λ (s : Site). leb n s.reach) i ss)
stray_from n i [] = refl
stray_from n i (s ∷ ss) =
    turned s.reach n (stray_fault n (suc i) ss) (Some (refuse 52 i))
    ∙ ap (cond (leb n s.reach) (Some (refuse 52 i))) (stray_from n (suc i) ss ∙ ap (λ k. option_map (refuse 52) (position_from (λ (z : Site). leb n z.reach) k ss)) (sym (add-one i)))
    ∙ mapped (leb n s.reach) (refuse 52) i _

pub stray_first : (n : ℕ) (ss : List Site) → stray_fault n 0 ss ≡ option_map (refuse 52) (position (λ (s : Site). leb n s.reach) ss)
stray_first n ss = stray_from n 0 ss ∙ ap (option_map (refuse 52)) (sym (position_from-zero (λ (s : Site). leb n s.reach) ss))

-- the first reach whose next does not lie ahead has the first such place
next_from : (n j : ℕ) (rs : List Reach) → next_fault n j rs ≡ option_map (refuse 53) (position_from (λ (q : ℕ × Reach). not (lies_ahead q.1.channel.next q.0 n)) j (enumerate_from j rs))
next_from n j [] = refl
next_from n j (r ∷ rs) =
    swapped (lies_ahead r.channel.next j n) (next_fault n (suc j) rs) (Some (refuse 53 j))
    ∙ ap (cond (not (lies_ahead r.channel.next j n)) (Some (refuse 53 j))) (next_from n (suc j) rs ∙ ap (λ k. option_map (refuse 53) (position_from (λ (q : ℕ × Reach). not (lies_ahead q.1.channel.next q.0 n)) k (enumerate_from k rs))) (sym (add-one j)))
    ∙ mapped (not (lies_ahead r.channel.next j n)) (refuse 53) j _

pub next_first : (n : ℕ) (rs : List Reach) → next_fault n 0 rs ≡ option_map (refuse 53) (position (λ (q : ℕ × Reach). not (lies_ahead q.1.channel.next q.0 n)) (enumerate_from 0 rs))
next_first n rs = next_from n 0 rs ∙ ap (option_map (refuse 53)) (sym (position_from-zero (λ (q : ℕ × Reach). not (lies_ahead q.1.channel.next q.0 n)) (enumerate_from 0 rs)))
