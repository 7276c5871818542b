-- Sums by index, and what a day does to them. Assumes nothing.
use Rattle.std.proofs.Common.{◌≡◌, ℕ, zero, suc, ◌+◌, ◌*◌, ◌<◌, ◌≤◌, Bool, true, false, cond, eqb, ◌≢◌, List, [], ◌∷◌, length, get_or, set, Some, None, sum_by, Option, refl, ap, mul-add, arith}
use Rattle.std.proofs.lemmas.List.Sums.{sum_by-cons, sum_by-set, get_or-le-sum_by}
use Rattle.std.proofs.lemmas.Bool.{eqb-true, eqb-false}
use Rattle.network.specs.Records.{site0, reach0, unit0}
use Rattle.network.specs.declared.site.Site.{Site}
use Rattle.network.specs.declared.reach.Reach.{Reach}
use Rattle.network.specs.declared.flows.UnitFlow.{UnitFlow}
use Rattle.network.specs.declared.flows.ReachFlow.{ReachFlow}
use Rattle.network.specs.Routing.{sides, names, arriving}
use Rattle.basin.specs.Limits.{over_area, unit_water, reach_water}
use Rattle.basin.specs.Run.{leaving, stream_flow}

-- the sum of g over the numbers below n
unfoldable pub sum_to : ℕ → (ℕ → ℕ) → ℕ
sum_to zero g = 0
sum_to (suc n) g = g n + sum_to n g

-- two sums are one of pairs
pub sum_add : (n : ℕ) (g h : ℕ → ℕ) → sum_to n (λ j. g j + h j) ≡ sum_to n g + sum_to n h
unfolding sum_to
sum_add zero g h = refl
sum_add (suc n) g h = let e = sum_add n g h in omega arith

-- equal terms, equal sums
pub sum_ext : (n : ℕ) (g h : ℕ → ℕ) → ((j : ℕ) → j < n → g j ≡ h j) → sum_to n g ≡ sum_to n h
unfolding sum_to
sum_ext zero g h e = refl
sum_ext (suc n) g h e = let f = sum_ext n g h (λ j l. e j (omega arith)) in let l = e n (omega arith) in omega arith

-- a sum of nothing
sum_none : (n : ℕ) (g : ℕ → ℕ) → ((j : ℕ) → j < n → g j ≡ 0) → sum_to n g ≡ 0
unfolding sum_to
sum_none zero g e = refl
sum_none (suc n) g e = let f = sum_none n g (λ j l. e j (omega arith)) in let l = e n (omega arith) in omega arith

-- the first term first
sum_front : (n : ℕ) (g : ℕ → ℕ) → sum_to (suc n) g ≡ g 0 + sum_to n (λ j. g (suc j))
unfolding sum_to
sum_front zero g = refl
sum_front (suc n) g = let e = sum_front n g in omega arith

-- at another place there is nothing
at_other : (b : Bool) (k j x : ℕ) → eqb k j ≡ b → (k ≡ j → ⊥) → cond b x 0 ≡ 0
at_other true k j x e n = absurd (n (eqb-true k j e))
at_other false k j x e n = refl

-- of all the places below n, one is k
sum_one : (n k x : ℕ) → k < n → sum_to n (λ j. cond (eqb k j) x 0) ≡ x
unfolding sum_to
sum_one zero k x h = absurd (let z : ⊥ = omega arith in z)
sum_one (suc n) k x h = go (eqb k n) refl (λ l. sum_one n k x l)
  where
    go : (b : Bool) → eqb k n ≡ b → (k < n → sum_to n (λ j. cond (eqb k j) x 0) ≡ x) → cond (eqb k n) x 0 + sum_to n (λ j. cond (eqb k j) x 0) ≡ x
    go true e ih =
        let same : k ≡ n = eqb-true k n e in
        let here : cond (eqb k n) x 0 ≡ x = ap (λ b. cond b x 0) e in
        let none = sum_none n (λ j. cond (eqb k j) x 0) (λ j l. at_other (eqb k j) k j x refl (λ q. omega arith)) in
        omega arith
    go false e ih =
        let other : k ≢ n = eqb-false k n e in
        let here : cond (eqb k n) x 0 ≡ 0 = ap (λ b. cond b x 0) e in
        let less : k < n = omega arith in
        let rest = ih less in
        omega arith

-- ---- lists as sums by index
-- a sum over a list
pub list_sum_to : {X : Type 0} (g : X → ℕ) (d : X) (xs : List X) → sum_by g xs ≡ sum_to (length xs) (λ j. g (get_or xs j d))
unfolding sum_to
list_sum_to g d [] = refl
list_sum_to g d (x ∷ xs) =
    let e = list_sum_to g d xs in
    let f = sum_front (length xs) (λ j. g (get_or (x ∷ xs) j d)) in
    let c = sum_by-cons g x xs in
    omega arith

-- a sum that is written place by place is a sum over its list
pub as_sum : {X : Type 0} (F : List X → ℕ) (g : X → ℕ) → F [] ≡ 0 → ((x : X) (xs : List X) → F (x ∷ xs) ≡ g x + F xs) → (xs : List X) → F xs ≡ sum_by g xs
as_sum F g e h [] = e
as_sum F g e h (x ∷ xs) = omega (arith, h x xs, as_sum F g e h xs, sum_by-cons g x xs)

-- so is the water of the reaches
pub reach_sum : (rs : List Reach) → reach_water rs ≡ sum_by (λ r. r.stored) rs
reach_sum = as_sum reach_water (λ r. r.stored) refl (λ r rs. refl)

-- no reach stores more than all together
pub stored_within : (rs : List Reach) (j : ℕ) → j < length rs → (get_or rs j reach0).stored ≤ reach_water rs
stored_within rs j h = omega (arith, reach_sum rs, get_or-le-sum_by (λ (r : Reach). r.stored) rs j reach0 h)

-- what all store, after a write at j
pub reach_set : (rs : List Reach) (j : ℕ) (r : Reach) → j < length rs → reach_water (set rs j r) + (get_or rs j reach0).stored ≡ reach_water rs + r.stored
reach_set rs j r h = omega (arith, reach_sum rs, reach_sum (set rs j r), sum_by-set (λ (r : Reach). r.stored) rs j r reach0 h)

-- ---- where the water of a day comes to
-- each site's side flow comes to one reach
pub sides_all : (n : ℕ) (ss : List Site) (fs : List UnitFlow) → ((i : ℕ) → i < length ss → (get_or ss i site0).reach < n) → sum_to n (λ j. sides j ss fs) ≡ over_area (λ f. f.side) ss fs
sides_all n [] fs h = sum_none n (λ j. sides j [] fs) (λ j l. refl)
sides_all n (s ∷ ss) [] h = sum_none n (λ j. sides j (s ∷ ss) []) (λ j l. refl)
sides_all n (s ∷ ss) (f ∷ fs) h =
    let rest = sides_all n ss fs (λ i l. h (suc i) (omega arith)) in
    let one = sum_one n s.reach (s.area * f.side) (h 0 (omega arith)) in
    let both = sum_add n (λ j. cond (eqb s.reach j) (s.area * f.side) 0) (λ j. sides j ss fs) in
    omega arith

-- one outflow goes to one place
one_out : (n : ℕ) (o : Option ℕ) (x : ℕ) → ((k : ℕ) → o ≡ Some k → k < n) → sum_to n (λ j. cond (names o j) x 0) + leaving o x ≡ x
one_out n None x h = let e = sum_none n (λ j. cond (names None j) x 0) (λ j l. refl) in omega arith
one_out n (Some k) x h = let e = sum_one n k x (h k refl) in omega arith

-- each reach's outflow comes to its next, or to the stream
pub arriving_all : (n : ℕ) (rs : List Reach) (fs : List ReachFlow) → length fs ≡ length rs → ((j k : ℕ) → j < length rs → (get_or rs j reach0).channel.next ≡ Some k → k < n) → sum_to n (λ j. arriving j rs fs) + stream_flow rs fs ≡ sum_by (λ f. f.outflow) fs
arriving_all n [] [] e h = let z = sum_none n (λ j. arriving j [] []) (λ j l. refl) in omega arith
arriving_all n [] (f ∷ fs) e h = absurd (let z : ⊥ = omega arith in z)
arriving_all n (r ∷ rs) [] e h = absurd (let z : ⊥ = omega arith in z)
arriving_all n (r ∷ rs) (f ∷ fs) e h =
    let rest = arriving_all n rs fs (omega arith) (λ j k l. h (suc j) k (omega arith)) in
    let one = one_out n r.channel.next f.outflow (λ k q. h 0 k (omega arith) q) in
    let both = sum_add n (λ j. cond (names r.channel.next j) f.outflow 0) (λ j. arriving j rs fs) in
    let c = sum_by-cons (λ (x : ReachFlow). x.outflow) f fs in
    omega arith

-- ---- units that each keep their water
-- a balance in micrometres is one in millilitres over an area
over_area_lem : (area after side vapour deep before rain : ℕ) → after + (side + vapour + deep) ≡ before + rain → area * after + (area * side + area * vapour + area * deep) ≡ area * before + area * rain
over_area_lem area after side vapour deep before rain e =
    let whole : area * (after + (side + vapour + deep)) ≡ area * (before + rain) = ap (λ x. area * x) e in
    let p = mul-add area after (side + vapour + deep) in
    let q = mul-add area (side + vapour) deep in
    let r = mul-add area side vapour in
    let s = mul-add area before rain in
    omega arith

-- the units together
pub units_balance : {S : Type 0} (water : S → ℕ) (ss : List Site) (us vs : List S) (fs : List UnitFlow) → length vs ≡ length us → length fs ≡ length us →
    ((i : ℕ) (z : S) → i < length us → water (get_or vs i z) + ((get_or fs i unit0).side + (get_or fs i unit0).vapour + (get_or fs i unit0).deep) ≡ water (get_or us i z) + (get_or fs i unit0).rain) →
    unit_water water ss vs + (over_area (λ f. f.side) ss fs + over_area (λ f. f.vapour) ss fs + over_area (λ f. f.deep) ss fs) ≡ unit_water water ss us + over_area (λ f. f.rain) ss fs
units_balance water [] us vs fs e f h = refl
units_balance water (s ∷ ss) [] [] [] e f h = refl
units_balance water (s ∷ ss) [] [] (x ∷ fs) e f h = absurd (let z : ⊥ = omega arith in z)
units_balance water (s ∷ ss) [] (v ∷ vs) fs e f h = absurd (let z : ⊥ = omega arith in z)
units_balance water (s ∷ ss) (u ∷ us) [] fs e f h = absurd (let z : ⊥ = omega arith in z)
units_balance water (s ∷ ss) (u ∷ us) (v ∷ vs) [] e f h = absurd (let z : ⊥ = omega arith in z)
units_balance water (s ∷ ss) (u ∷ us) (v ∷ vs) (x ∷ fs) e f h =
    let one = over_area_lem s.area (water v) x.side x.vapour x.deep (water u) x.rain (h 0 u (omega arith)) in
    let rest = units_balance water ss us vs fs (omega arith) (omega arith) (λ i z l. h (suc i) z (omega arith)) in
    omega arith
