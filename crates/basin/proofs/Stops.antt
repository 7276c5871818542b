-- The numbers of refusals: those of a call are 51 to 56, those of a day 57 to 59. Assumes nothing.
use Rattle.std.proofs.Common.{◌≡◌, ℕ, suc, ◌+◌, ◌≤◌, Bool, true, false, cond, not, ◌&&◌, eqb, ltb, leb, List, [], ◌∷◌, length, Some, None, Ok, Err, Option, Result, sym, refl, ap, ◌∙◌, subst, arith}
use Rattle.std.proofs.lemmas.Bool.{le-leb, lt-leb, and_from, and_right, not_from_true, not_from_false}
use Rattle.refusals.specs.Refusals.{Refusal, refuse, basin_refusal}
use Rattle.refusals.specs.declared.basin.BasinFault.{BasinFault}
use Rattle.weather.specs.Days.{Figures}
use Rattle.weather.specs.Meaning.{Meaning, asked}
use Rattle.stores.specs.Meaning.{limit}
use Rattle.network.specs.declared.site.Site.{Site}
use Rattle.network.specs.declared.reach.Reach.{Reach}
use Rattle.basin.specs.Tables.{State, View, or_else, refused_unless, stray_fault, lies_ahead, next_fault, areas, tables_fault, lengths_fit}
use Rattle.basin.specs.Limits.{total, unit_fault, most, limit_fault}
use Rattle.basin.specs.Questions.{answer_fault, site_questions, reach_questions, questions, site_rain, rain_volume, day_stop}
use Rattle.basin.specs.Run.{Ends}
use Rattle.basin.specs.Law.{stop_number, writes}
use Rattle.basin.specs.Calls.{run_fault, Unstarted}
use Rattle.basin.specs.declared.answer.Answer.{Answer}

-- a refusal, if there is one, has a number from low to high
abbrev Between : ℕ → ℕ → Option Refusal → Type 0
Between low high None = Unit {0}
Between low high (Some e) = (low ≤ e.number) × (e.number ≤ high)

-- the first of two
between_or : (low high : ℕ) (p q : Option Refusal) → Between low high p → Between low high q → Between low high (or_else p q)
between_or low high None q x y = y
between_or low high (Some e) q x y = x

-- a test
between_unless : (low high : ℕ) (b : Bool) (e : Refusal) → low ≤ e.number → e.number ≤ high → Between low high (refused_unless b e)
between_unless low high true e x y = tt
between_unless low high false e x y = (x, y)

-- a test before further ones
between_cond : (low high : ℕ) (b : Bool) (p : Option Refusal) (e : Refusal) → Between low high p → low ≤ e.number → e.number ≤ high → Between low high (cond b p (Some e))
between_cond low high true p e z x y = z
between_cond low high false p e z x y = (x, y)

-- ---- what a call is refused with before it starts
-- a site without a reach
stray_number : (n i : ℕ) (ss : List Site) → Between 51 56 (stray_fault n i ss)
stray_number n i [] = tt
stray_number n i (s ∷ ss) = between_cond 51 56 (ltb s.reach n) (stray_fault n (suc i) ss) (refuse 52 i) (stray_number n (suc i) ss) (omega arith) (omega arith)

-- a wrong next reach
next_number : (n j : ℕ) (rs : List Reach) → Between 51 56 (next_fault n j rs)
next_number n j [] = tt
next_number n j (r ∷ rs) = between_cond 51 56 (lies_ahead r.channel.next j n) (next_fault n (suc j) rs) (refuse 53 j) (next_number n (suc j) rs) (omega arith) (omega arith)

-- the tables
tables_number : (fit : Bool) (ss : List Site) (rs : List Reach) → Between 51 56 (tables_fault fit ss rs)
tables_number fit ss rs =
    let areas-test = refused_unless (leb (areas ss) 1000000000) (refuse 54 0) in
    let nexts = next_fault (length rs) 0 rs in
    let strays = stray_fault (length rs) 0 ss in
    between_or 51 56 (refused_unless fit (refuse 51 0)) (or_else strays (or_else nexts areas-test)) (between_unless 51 56 fit (refuse 51 0) (omega arith) (omega arith))
    (between_or 51 56 strays (or_else nexts areas-test) (stray_number (length rs) 0 ss)
    (between_or 51 56 nexts areas-test (next_number (length rs) 0 rs) (between_unless 51 56 (leb (areas ss) 1000000000) (refuse 54 0) (omega arith) (omega arith))))

-- the tables and the number of days of a run
run_number : {S : Type 0} (fit : Bool) (a : View S) (n : ℕ) → Between 51 56 (or_else (tables_fault fit a.sites a.state.reaches) (refused_unless (leb n 3660) (refuse 56 0)))
run_number fit a n = between_or 51 56 (tables_fault fit a.sites a.state.reaches) (refused_unless (leb n 3660) (refuse 56 0)) (tables_number fit a.sites a.state.reaches) (between_unless 51 56 (leb n 3660) (refuse 56 0) (omega arith) (omega arith))

-- ---- what a day is refused with
-- a unit over its limit
unit_number : {S : Type 0} (water : S → ℕ) (rain : ℕ → ℕ) (i : ℕ) (us : List S) → Between 57 59 (unit_fault water rain i us)
unit_number water rain i [] = tt
unit_number water rain i (u ∷ us) = between_cond 57 59 (leb (water u + rain i) limit) (unit_fault water rain (suc i) us) (refuse 58 i) (unit_number water rain (suc i) us) (omega arith) (omega arith)

-- a unit or the basin over its limit
limit_number : {S : Type 0} (water : S → ℕ) (rain : ℕ → ℕ) (added : ℕ) (ss : List Site) (a : State S) → Between 57 59 (limit_fault water rain added ss a)
limit_number water rain added ss a = between_or 57 59 (unit_fault water rain 0 a.units) (refused_unless (leb (total water ss a + added) most) (refuse 59 0)) (unit_number water rain 0 a.units) (between_unless 57 59 (leb (total water ss a + added) most) (refuse 59 0) (omega arith) (omega arith))

-- a question
answer_number : (place : ℕ) (r : Result Figures Refusal) → Between 57 59 (answer_fault place r)
answer_number place (Ok f) = tt
answer_number place (Err e) = (omega arith, omega arith)

-- the sites' questions
site_number : (m : Meaning) (index i : ℕ) (ss : List Site) → Between 57 59 (site_questions m index i ss)
site_number m index i [] = tt
site_number m index i (s ∷ ss) = between_or 57 59 (answer_fault i (asked m s.station index)) (site_questions m index (suc i) ss) (answer_number i (asked m s.station index)) (site_number m index (suc i) ss)

-- the reaches' questions
reach_number : (m : Meaning) (index j : ℕ) (rs : List Reach) → Between 57 59 (reach_questions m index j rs)
reach_number m index j [] = tt
reach_number m index j (r ∷ rs) = between_or 57 59 (answer_fault (1024 + j) (asked m r.channel.station index)) (reach_questions m index (suc j) rs) (answer_number (1024 + j) (asked m r.channel.station index)) (reach_number m index (suc j) rs)

-- a day
day_number : {S : Type 0} (water : S → ℕ) (m : Meaning) (index : ℕ) (ss : List Site) (a : State S) → Between 57 59 (day_stop water m index ss a)
day_number water m index ss a =
    between_or 57 59 (questions m index ss a.reaches) (limit_fault water (site_rain m index ss) (rain_volume m index ss) ss a)
    (between_or 57 59 (site_questions m index 0 ss) (reach_questions m index 0 a.reaches) (site_number m index 0 ss) (reach_number m index 0 a.reaches))
    (limit_number water (site_rain m index ss) (rain_volume m index ss) ss a)

-- ---- whether a run wrote its flow lists
-- the test on the number of its stop
abbrev pub listed_by : ℕ → Bool
listed_by n = not (leb 51 n && leb n 56)

-- 51 to 56: it did not
not_listed : (n : ℕ) → 51 ≤ n → n ≤ 56 → listed_by n ≡ false
not_listed n x y = not_from_true (leb 51 n && leb n 56) (and_from (leb 51 n) (leb n 56) (le-leb 51 n x) (le-leb n 56 y))

-- a run refused by its tables or numbers wrote none
pub unlisted : {S : Type 0} (a : View S) {b : View S} (u r n : ℕ) {e : Refusal} {q : Answer} → run_fault a u r n ≡ Some e → Unstarted e a b q → writes q ≡ false
unlisted a u r n {e} {q} is x =
    let fit = lengths_fit (length a.sites) (length a.state.units) (length a.state.reaches) && (eqb u (length a.sites) && eqb r (length a.state.reaches)) in
    let number : Between 51 56 (Some (basin_refusal x.why)) = subst (Between 51 56) (is ∙ ap {B = Option Refusal} Some (sym x.why_is)) (run_number fit a n) in
    ap writes x.nothing_else ∙ not_listed (basin_refusal x.why).number number.0 number.1

-- 57 and more: it did
is_listed : (n : ℕ) → 57 ≤ n → listed_by n ≡ true
is_listed n x = not_from_false (leb 51 n && leb n 56) (and_right (leb 51 n) (leb n 56) (lt-leb n 56 (omega arith)))

-- a run that starts writes them, however it ends
pub ends_listed : {S : Type 0} (water : S → ℕ) (m : Meaning) (from n : ℕ) (ss : List Site) (b : State S) (days : ℕ) (o : Option BasinFault) → Ends water m from n ss b days o → listed_by (stop_number o) ≡ true
ends_listed water m from n ss b days None e = refl
ends_listed water m from n ss b days (Some x) e =
    let number : Between 57 59 (Some (basin_refusal x)) = subst (Between 57 59) e.1 (day_number water m (from + days) ss b) in
    is_listed (basin_refusal x).number number.0
