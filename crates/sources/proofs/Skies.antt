-- What a record says, from what `Day::new` says of its figures. Assumes nothing.
use Rattle.std.proofs.Common.{◌≡◌, ℕ, ◌<◌, Bool, true, false, cond, eqb, ℤ, pos, Ok, Err, Option, Result, sym, ap, ◌∙◌, subst, arith, w16, w64, SFits, to_z, of_z}
use Rattle.std.proofs.lemmas.Int.{to_z-of_z, to_z_pos}
use Rattle.std.proofs.lemmas.Bool.Decides.{nat_tests}
use Rattle.std.specs.Result.{MatchResult, IsErrAnd}
use Rattle.refusals.specs.Refusals.{Refusal, told, weather_refusal}
use Rattle.refusals.specs.declared.day.DayFault.{DayFault}
use Rattle.refusals.specs.declared.weather.WeatherFault.{WeatherFault}
use Rattle.refusals.specs.declared.weather.WeatherFault.TheVariants.{Outside}
use Rattle.weather.specs.declared.day.Day.{Day}
use Rattle.weather.specs.Days.{Figures, figures, DayMade}
use Rattle.weather.specs.Meaning.{known, missing, outside, seen}
use Rattle.sources.specs.Records.{judged, figures_fault, sky_of}

-- a day asked for with these figures
abbrev pub MadeOf : Figures → Result Day DayFault → Type 0
MadeOf f r = DayMade (pos f.date) (pos f.rain) f.highest f.lowest (pos f.demand) r

pub sky_missing : (f : Figures) → f.rain ≡ 4294967295 → sky_of f ≡ missing
unfolding sky_of
sky_missing f h =
    let b : eqb f.rain 4294967295 ≡ true = grind (arith, nat_tests) in
    ap (λ (t : Bool). cond t missing (judged (figures_fault f) f)) b

sky_told : (f : Figures) → (f.rain ≡ 4294967295 → ⊥) → sky_of f ≡ judged (figures_fault f) f
unfolding sky_of
sky_told f h =
    let b : eqb f.rain 4294967295 ≡ false = grind (arith, nat_tests) in
    ap (λ (t : Bool). cond t missing (judged (figures_fault f) f)) b

sky_known : (f : Figures) (w : Day) → (f.rain ≡ 4294967295 → ⊥) → MadeOf f (Ok w) → sky_of f ≡ known (figures w)
sky_known f w h m =
    let same : ◌≡◌ {A = Figures} (record { date = f.date; rain = f.rain; highest = f.highest; lowest = f.lowest; demand = f.demand }) (figures w) = cc in
    sky_told f h ∙ ap (λ (o : Option Refusal). judged o f) m.0 ∙ ap known same

sky_outside : (f : Figures) (e : DayFault) → (f.rain ≡ 4294967295 → ⊥) → MadeOf f (Err e) → sky_of f ≡ outside
sky_outside f e h m = sky_told f h ∙ ap (λ (o : Option Refusal). judged o f) m

-- what a caller is told of a day asked for: the day, or that a figure is outside
pub sky_made : (s i : ℕ) (f : Figures) (r : Result Day DayFault) (x : Result Day WeatherFault) → (f.rain ≡ 4294967295 → ⊥) → MadeOf f r → MatchResult r (λ w. x ≡ Ok w) (λ e. IsErrAnd x (λ t. t ≡ Outside s i)) → told figures weather_refusal x ≡ seen s i (sky_of f)
sky_made s i f (Ok w) x h m e = ap (told figures weather_refusal) e ∙ ap (seen s i) (sym (sky_known f w h m))
sky_made s i f (Err d) (Ok w) h m e = absurd e
sky_made s i f (Err d) (Err t) h m e = ap (λ (v : WeatherFault). Err (weather_refusal v)) e ∙ ap (seen s i) (sym (sky_outside f d h m))

-- ---- figures as the code hands them over, at 64 bits
wide : (n m : ℕ) → n < 4294967296 → n ≡ m → to_z w64 n ≡ pos m
wide n m h e = to_z_pos w64 n (omega arith) ∙ ap pos e

wide_signed : (z y : ℤ) → SFits w16 z → z ≡ y → to_z w64 (of_z w64 (to_z w16 (of_z w16 z))) ≡ y
wide_signed z y s e =
    let t : SFits w64 z = record { sfits = omega (arith, s.sfits) } in
    simp to_z-of_z e

-- five equal arguments
same_five : (P : ℤ → ℤ → ℤ → ℤ → ℤ → Type 0) (a b d e f a' b' d' e' f' : ℤ) → a ≡ a' → b ≡ b' → d ≡ d' → e ≡ e' → f ≡ f' → P a b d e f → P a' b' d' e' f'
same_five P a b d e f a' b' d' e' f' p q r s t h =
    subst (λ (x : ℤ). P a' b' d' e' x) t (subst (λ (x : ℤ). P a' b' d' x f) s (subst (λ (x : ℤ). P a' b' x e f) r (subst (λ (x : ℤ). P a' x d e f) q (subst (λ (x : ℤ). P x b d e f) p h))))

-- what `Day::new` said of the figures that it was handed, it said of the record's
pub handed : (r : Result Day DayFault) (f : Figures) (date rain : ℕ) (highest lowest : ℤ) (demand : ℕ) → date < 4294967296 → rain < 4294967296 → SFits w16 highest → SFits w16 lowest → demand < 4294967296 → date ≡ f.date → rain ≡ f.rain → highest ≡ f.highest → lowest ≡ f.lowest → demand ≡ f.demand → DayMade (to_z w64 date) (to_z w64 rain) (to_z w64 (of_z w64 (to_z w16 (of_z w16 highest)))) (to_z w64 (of_z w64 (to_z w16 (of_z w16 lowest)))) (to_z w64 demand) r → MadeOf f r
handed r f date rain highest lowest demand a b d e g p q s t u h =
    same_five (λ (v w x y z : ℤ). DayMade v w x y z r) _ _ _ _ _ _ _ _ _ _ (wide date _ a p) (wide rain _ b q) (wide_signed highest _ d s) (wide_signed lowest _ e t) (wide demand _ g u) h
