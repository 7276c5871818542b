-- A run put together from its tests and its days. Assumes nothing.
use Rattle.std.proofs.Common.{◌≡◌, ℕ, ◌+◌, ◌<◌, ◌≤◌, ◌&&◌, eqb, leb, List, length, get_or, Some, None, Option, sym, ap, ◌∙◌, subst, arith}
use Rattle.std.proofs.lemmas.Bool.{leb-true, eqb-true, and_parts}
use Rattle.refusals.specs.Refusals.{Refusal, refuse}
use Rattle.weather.specs.Meaning.{Meaning}
use Rattle.weather.specs.declared.day.Day.{Day}
use Rattle.stores.specs.declared.flows.Flows.{Flows}
use Rattle.network.specs.Records.{unit0, flow0}
use Rattle.network.specs.declared.flows.UnitFlow.{UnitFlow}
use Rattle.network.specs.declared.flows.ReachFlow.{ReachFlow}
use Rattle.basin.specs.declared.answer.Answer.{Answer}
use Rattle.basin.specs.Tables.{View, refused_unless, lengths_fit, tables_fault}
use Rattle.basin.specs.Loops.{RanBy, Sound}
use Rattle.basin.specs.Calls.{RunBy, run_fault}
use Rattle.basin.proofs.Refusing.{both_none, unless_none}
use Rattle.basin.proofs.Soundness.{sound_with}

module _ {S : Type 0} (water : S → ℕ) (turns : S → ℕ → ℕ → Day → S → Flows → Type 0) (m : Meaning) (n : ℕ) (r : Answer) (a b : View S) where
  -- only the lengths of the lists before a run matter once it is not refused
  any_lists : (limits : Option Refusal) (us vs us' : List UnitFlow) (rs ts rs' : List ReachFlow) → length us ≡ length vs → length rs ≡ length ts → RunBy None limits water turns m n us us' rs rs' r a b → RunBy None limits water turns m n vs us' ts rs' r a b
  any_lists None us vs us' rs ts rs' lu lr x = record { ran = x.ran; unit_list = x.unit_list ∙ lu; reach_list = x.reach_list ∙ lr; sites = x.sites; day = x.day }
  any_lists (Some e) us vs us' rs ts rs' lu lr x = record { not_started = x.not_started; unit_list = (x.unit_list.0 ∙ lu, x.unit_list.1); reach_list = (x.reach_list.0 ∙ lr, x.reach_list.1) }

  -- a run that they do not refuse, its lists cleared first
  pub passed_run : (fault limits : Option Refusal) (us vs us' : List UnitFlow) (rs ts rs' : List ReachFlow) → None ≡ fault → length us ≡ length vs → length rs ≡ length ts → RunBy None limits water turns m n us us' rs rs' r a b → RunBy fault limits water turns m n vs us' ts rs' r a b
  passed_run fault limits us vs us' rs ts rs' is lu lr x = subst (λ (o : Option Refusal). RunBy o limits water turns m n vs us' ts rs' r a b) is (any_lists limits us vs us' rs ts rs' lu lr x)

  -- what the tables became is what the basin became
  pub advanced : (limits : Option Refusal) (us us' : List UnitFlow) (rs rs' : List ReachFlow) → ((k : ℕ) → k < length us → get_or us k unit0 ≡ unit0) × ((k : ℕ) → k < length rs → get_or rs k flow0 ≡ flow0) → length us' ≡ length us → length rs' ≡ length rs → b.sites ≡ a.sites → b.day ≡ a.day + r.days →
      RanBy limits water turns m a.day n a.sites a.state b.state us us' rs rs' r → RunBy None limits water turns m n us us' rs rs' r a b
  advanced None us us' rs rs' clear lu lr sites day x = record { ran = x; unit_list = lu; reach_list = lr; sites = sites; day = day }
  advanced (Some e) us us' rs rs' clear lu lr sites day x = record {
    not_started = record { why = x.why; why_is = x.why_is; nothing_else = x.nothing_else; same = λ i. record { sites = sites i; state = x.same i; day = still i } };
    unit_list = (lu, subst (λ (l : List UnitFlow). (k : ℕ) → k < length l → get_or l k unit0 ≡ unit0) (sym x.unit_list) clear.0);
    reach_list = (lr, subst (λ (l : List ReachFlow). (k : ℕ) → k < length l → get_or l k flow0 ≡ flow0) (sym x.reach_list) clear.1);
  }
    where
      still : b.day ≡ a.day
      still = let none : r.days ≡ 0 = ap (λ (q : Answer). q.days) x.nothing_else in omega (arith, day)

-- a run that is not refused: its tables fit together, its lists have their lengths, and it has few days
pub record Startable {S : Type 0} (a : View S) (u r n : ℕ) : Type 0 where
  pub sound : Sound (length a.state.units) a.sites a.state.reaches
  pub unit_flows : u ≡ length a.sites
  pub reach_flows : r ≡ length a.state.reaches
  pub few : n ≤ 3660

pub run_passed : {S : Type 0} (a : View S) (u r n : ℕ) → run_fault a u r n ≡ None → Startable a u r n
run_passed a u r n e =
    let ss = a.sites in
    let rs = a.state.reaches in
    let units = length a.state.units in
    let lists = eqb u (length ss) && eqb r (length rs) in
    let both = both_none (tables_fault (lengths_fit (length ss) units (length rs) && lists) ss rs) (refused_unless (leb n 3660) (refuse 56 0)) e in
    let fit = sound_with lists units ss rs both.0 in
    let long = and_parts (eqb u (length ss)) (eqb r (length rs)) fit.1 in
    record {
      sound = fit.0;
      unit_flows = eqb-true u (length ss) long.0;
      reach_flows = eqb-true r (length rs) long.1;
      few = leb-true n 3660 (unless_none (leb n 3660) (refuse 56 0) both.1);
    }
