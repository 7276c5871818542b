-- Sums over the areas of the sites. Assumes nothing.
use Rattle.std.proofs.Common.{◌≡◌, ℕ, suc, ◌+◌, ◌*◌, ◌<◌, ◌≤◌, List, [], ◌∷◌, length, get_or, drop, sum_by, sym, refl, ap, ◌∙◌, mul-le-mul, arith}
use Rattle.std.specs.List.{zip}
use Rattle.std.proofs.lemmas.List.Sums.{sum_by-cons}
use Rattle.std.proofs.lemmas.List.{at_drop_more}
use Rattle.weather.specs.Meaning.{Meaning}
use Rattle.network.specs.Records.{site0}
use Rattle.network.specs.declared.site.Site.{Site}
use Rattle.weather.specs.declared.day.Day.{Day}
use Rattle.basin.specs.Limits.{over_area}
use Rattle.basin.specs.Loops.{area_sums_most, rain_fallen}
use Rattle.basin.specs.Questions.{rain_at, rain_volume}

-- two lists from the place i on are what stands there and what comes after it
pub at_drops : {X Y : Type 0} (F : List X → List Y → ℕ) (xs : List X) (ys : List Y) (i : ℕ) (x : X) (y : Y) → i < length xs → i < length ys → F (drop i xs) (drop i ys) ≡ F (get_or xs i x ∷ drop (i + 1) xs) (get_or ys i y ∷ drop (i + 1) ys)
at_drops F xs ys i x y h l = at_drop_more (λ zs. F zs (drop i ys)) xs i x h ∙ at_drop_more (F (get_or xs i x ∷ drop (i + 1) xs)) ys i y l

-- it is the sum over the pairs
pub over_area_sum : {X : Type 0} (figure : X → ℕ) (ss : List Site) (xs : List X) → over_area figure ss xs ≡ sum_by (λ (p : Site × X). p.0.area * figure p.1) (zip ss xs)
over_area_sum figure [] xs = refl
over_area_sum figure (s ∷ ss) [] = refl
over_area_sum {X} figure (s ∷ ss) (x ∷ xs) =
    ap (λ (n : ℕ). s.area * figure x + n) (over_area_sum figure ss xs) ∙ sym (sum_by-cons (λ (p : Site × X). p.0.area * figure p.1) (s, x) (zip ss xs))

-- a figure that is the source's rain at every site sums to the source's rain over the basin
pub over_area_rain : {X : Type 0} (figure : X → ℕ) (m : Meaning) (index : ℕ) (ss : List Site) (xs : List X) → length xs ≡ length ss → ((i : ℕ) (z : X) → i < length ss → figure (get_or xs i z) ≡ rain_at m (get_or ss i site0).station index) → over_area figure ss xs ≡ rain_volume m index ss
over_area_rain figure m index [] xs e h = omega arith
over_area_rain figure m index (s ∷ ss) [] e h = absurd (let z : ⊥ = omega arith in z)
over_area_rain figure m index (s ∷ ss) (x ∷ xs) e h =
    let one : s.area * figure x ≡ s.area * rain_at m s.station index = ap (λ n. s.area * n) (h 0 x (omega arith)) in
    let rest = over_area_rain figure m index ss xs (omega arith) (λ i z l. h (suc i) z (omega arith)) in
    omega arith

-- the rain of at most 1,024 units
pub rain_most : (ss : List Site) (ws : List Day) → length ss ≤ 1024 → rain_fallen ss ws ≤ area_sums_most
rain_most ss ws few = let all = below ss ws in omega arith
  where
    below : (ss : List Site) (ws : List Day) → rain_fallen ss ws ≤ length ss * 18446744073709551616
    below [] ws = omega arith
    below (s ∷ ss) [] = omega arith
    below (s ∷ ss) (w ∷ ws) =
        let one = mul-le-mul s.sized.1 w.wet in
        let rest = below ss ws in
        omega arith
