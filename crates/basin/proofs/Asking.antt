-- The questions of a day, as a loop asks them. Assumes nothing.
use Rattle.std.proofs.Common.{◌≡◌, ℕ, suc, ◌+◌, ◌<◌, List, [], ◌∷◌, length, get_or, drop, set, Ok, Err, Result, sym, refl, ap, ◌∙◌, zero-add}
use Rattle.std.proofs.lemmas.List.{get_or_default}
use Rattle.refusals.specs.declared.basin.BasinFault.{BasinFault}
use Rattle.weather.specs.Days.{figures}
use Rattle.weather.specs.Meaning.{Meaning, asked}
use Rattle.weather.specs.declared.day.Day.{Day}
use Rattle.network.specs.Records.{site0, reach0}
use Rattle.network.specs.declared.site.Site.{Site}
use Rattle.network.specs.declared.reach.Reach.{Reach}
use Rattle.basin.specs.Questions.{answer_fault, site_questions, reach_questions, place_questions, demand_of}
use Rattle.basin.specs.Tables.{or_else}
use Rattle.basin.specs.Loops.{SitesAnswered, ReachesAnswered, KeptAt, PlacesAnswered}
use Rattle.basin.proofs.Places.{written_more}
use Rattle.basin.proofs.Straying.{first_more}

-- the places below i are answered, so that the first refusal is one of those from i on
pub record Told {P K : Type 0} (station : P → ℕ) (kept : Day → K) (first : ℕ) (m : Meaning) (index : ℕ) (ps : List P) (i : ℕ) (ks : List K) : Type 0 where
  pub left : place_questions station first m index 0 ps ≡ place_questions station first m index i (drop i ps)
  pub told : (k : ℕ) (p : P) (z : K) → k < i → KeptAt kept m (station (get_or ps k p)) index (get_or ks k z)

module _ {P K : Type 0} {station : P → ℕ} {kept : Day → K} {first : ℕ} {m : Meaning} {index : ℕ} {ps : List P} {i : ℕ} {ks : List K} (t : Told station kept first m index ps i ks) where
  -- one place more is answered
  pub told_more : (x : P) (w : Day) (y : K) → i < length ps → i < length ks → x ≡ get_or ps i x → Ok (figures w) ≡ asked m (station x) index → y ≡ kept w → Told station kept first m index ps (i + 1) (set ks i y)
  told_more x w y h l is answered keeps =
      let told : asked m (station (get_or ps i x)) index ≡ Ok (figures w) = sym (answered ∙ ap (λ (p : P). asked m (station p) index) is) in
      record {
        left = t.left ∙ first_more (place_questions station first m index) (λ (k : ℕ) (p : P). answer_fault (first + k) (asked m (station p) index)) (λ k p qs. refl) ps i x h (ap (answer_fault (first + i)) told);
        told = λ k p z b. written_more (λ (k : ℕ) (v : K). (p : P) → KeptAt kept m (station (get_or ps k p)) index v) ks i y l (λ k z b p. t.told k p z b)
            (λ p. record { day = w; seen = ap (λ (q : P). asked m (station q) index) (get_or_default ps i p x h) ∙ told; is = keeps }) k z b p;
      }

-- ---- sites and reaches
site_questions_are : (m : Meaning) (index i : ℕ) (ss : List Site) → place_questions (λ (s : Site). s.station) 0 m index i ss ≡ site_questions m index i ss
site_questions_are m index i [] = refl
site_questions_are m index i (s ∷ ss) =
    ap (λ (n : ℕ). or_else (answer_fault n (asked m s.station index)) (place_questions (λ (z : Site). z.station) 0 m index (suc i) ss)) (zero-add i)
    ∙ ap (or_else (answer_fault i (asked m s.station index))) (site_questions_are m index (suc i) ss)

reach_questions_are : (m : Meaning) (index j : ℕ) (rs : List Reach) → place_questions (λ (r : Reach). r.channel.station) 1024 m index j rs ≡ reach_questions m index j rs
reach_questions_are m index j [] = refl
reach_questions_are m index j (r ∷ rs) = ap (or_else (answer_fault (1024 + j) (asked m r.channel.station index))) (reach_questions_are m index (suc j) rs)

-- sites keep all of their weather
pub sites_answered : (m : Meaning) (index : ℕ) (ss : List Site) (ws : List Day) (r : Result (Unit {0}) BasinFault) → PlacesAnswered (λ (s : Site). s.station) (λ w. w) 0 m index ss ws r → SitesAnswered m index ss ws r
sites_answered m index ss ws (Ok u) a = record {
  no_fault = sym (site_questions_are m index 0 ss) ∙ a.no_fault;
  weather = λ i z h. let one = a.told i site0 z h in one.seen ∙ ap (λ (w : Day). Ok (figures w)) (sym one.is);
}
sites_answered m index ss ws (Err e) a = sym (site_questions_are m index 0 ss) ∙ a

-- reaches keep the demand
pub reaches_answered : (m : Meaning) (index : ℕ) (rs : List Reach) (ds : List ℕ) (r : Result (Unit {0}) BasinFault) → PlacesAnswered (λ (r : Reach). r.channel.station) (λ w. w.demand) 1024 m index rs ds r → ReachesAnswered m index rs ds r
reaches_answered m index rs ds (Ok u) a = record {
  no_fault = sym (reach_questions_are m index 0 rs) ∙ a.no_fault;
  demands = λ j h. let one = a.told j reach0 0 h in ap demand_of one.seen ∙ sym one.is;
}
reaches_answered m index rs ds (Err e) a = sym (reach_questions_are m index 0 rs) ∙ a
