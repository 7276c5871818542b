-- Over units with one outcome a list of calls on a basin has one. Assumes nothing.
use Rattle.std.proofs.Common.{◌≡◌, ℕ, ◌+◌, List, length, Some, None, Option, sym, refl, ap, ◌∙◌, subst, arith}
use Rattle.std.proofs.lemmas.List.{ext_get_or}
use Rattle.refusals.specs.Refusals.{Refusal}
use Rattle.weather.specs.Meaning.{Meaning}
use Rattle.weather.specs.declared.day.Day.{Day}
use Rattle.stores.specs.Outcome.{Single}
use Rattle.stores.specs.declared.flows.Flows.{Flows}
use Rattle.network.specs.Records.{unit0, flow0}
use Rattle.network.specs.declared.flows.UnitFlow.{UnitFlow}
use Rattle.network.specs.declared.flows.ReachFlow.{ReachFlow}
use Rattle.basin.specs.declared.answer.Answer.{Answer}
use Rattle.basin.specs.Tables.{View}
use Rattle.basin.specs.Run.{only_stop, nothing}
use Rattle.basin.specs.Loops.{Sound}
use Rattle.basin.specs.Calls.{Call, run_fault, start_fault, Unstarted, Cleared, Started, RunBy, Step, History, fresh, then}
use Rattle.basin.proofs.Starting.{run_passed}
use Rattle.law.specs.Agreement.{Fixed, fixed, SameAnswer, same_run, same_pour, same_draw, SameCall, run_again, pour_again, draw_again, CallsAgree, Each, done, next, SuppliersAgree}
use Rattle.law.proofs.Single.{SameRun, ran_same}

-- basins with equal fields
view_same : {S : Type 0} (a b : View S) → a.sites ≡ b.sites → a.state ≡ b.state → a.day ≡ b.day → a ≡ b
view_same a b s t d j = record { sites = s j; state = t j; day = d j }

-- two lists of zeros, cleared from one list
cleared_same : {X : Type 0} (x : X) (xs ys zs : List X) → Cleared x xs ys → Cleared x xs zs → ys ≡ zs
cleared_same x xs ys zs p q = ext_get_or x ys zs (p.0 ∙ sym q.0) (λ i h. p.1 i h ∙ sym (q.1 i (omega arith)))

-- runs that were not started
unstarted_same : {S : Type 0} (e : Refusal) (a b c : View S) (r q : Answer) → Unstarted e a b r → Unstarted e a c q → (b ≡ c) × (fixed r ≡ fixed q)
unstarted_same e a b c r q x y =
    let why = x.why_is ∙ sym y.why_is in
    let middle : fixed (only_stop x.why) ≡ fixed (only_stop y.why) = λ j. record { days = 0; sums = nothing; start = 0; end = 0; stop = Some (why j) } in
    (x.same ∙ sym y.same, ap fixed x.nothing_else ∙ middle ∙ sym (ap fixed y.nothing_else))

module _ {S : Type 0} (water : S → ℕ) (turns : S → ℕ → ℕ → Day → S → Flows → Type 0) (single : Single turns) where
  -- runs that were started
  started_same : (m : Meaning) (n : ℕ) (us us' vs' : List UnitFlow) (rs rs' ts' : List ReachFlow) (r q : Answer) (a b c : View S) → Sound (length a.state.units) a.sites a.state.reaches → Started water turns m n us us' rs rs' r a b → Started water turns m n us vs' rs ts' q a c → SameRun b c us' vs' rs' ts' r q
  started_same m n us us' vs' rs rs' ts' r q a b c fit x y =
      let same = ran_same water turns single m a.day a.sites a.state fit n b.state c.state us' vs' rs' ts' r q (x.unit_list ∙ sym y.unit_list) (x.reach_list ∙ sym y.reach_list) x.ran y.ran in
      record {
        basin = view_same b c (x.sites ∙ sym y.sites) same.basin (x.day ∙ ap (λ (f : Fixed). a.day + f.days) same.told ∙ sym y.day);
        unit_list = same.unit_list;
        reach_list = same.reach_list;
        told = same.told;
      }

  -- by what was refused at the start, which is the same for both
  runs_same : (o p : Option Refusal) (m : Meaning) (n : ℕ) (us us' vs' : List UnitFlow) (rs rs' ts' : List ReachFlow) (r q : Answer) (a b c : View S) → run_fault a (length us) (length rs) n ≡ o → RunBy o p water turns m n us us' rs rs' r a b → RunBy o p water turns m n us vs' rs ts' q a c → SameRun b c us' vs' rs' ts' r q
  runs_same (Some e) p m n us us' vs' rs rs' ts' r q a b c h x y =
      let both = unstarted_same e a b c r q x.not_started y.not_started in
      record { basin = both.0; unit_list = x.unit_list ∙ sym y.unit_list; reach_list = x.reach_list ∙ sym y.reach_list; told = both.1 }
  runs_same None (Some e) m n us us' vs' rs rs' ts' r q a b c h x y =
      let both = unstarted_same e a b c r q x.not_started y.not_started in
      record { basin = both.0; unit_list = cleared_same unit0 us us' vs' x.unit_list y.unit_list; reach_list = cleared_same flow0 rs rs' ts' x.reach_list y.reach_list; told = both.1 }
  runs_same None None m n us us' vs' rs rs' ts' r q a b c h x y = started_same m n us us' vs' rs rs' ts' r q a b c (run_passed a (length us) (length rs) n h).sound x y

  -- one call
  call_same : (a b c : View S) {x y : Call} → SameCall x y → Step water turns a x b → Step water turns a y c → (b ≡ c) × SameAnswer x y
  call_same a b c (run_again {m} {n} {us} {us'} {vs'} {rs} {rs'} {ts'} {r} {q}) s t =
      let same = runs_same (run_fault a (length us) (length rs) n) (start_fault water a) m n us us' vs' rs rs' ts' r q a b c refl s t in
      (same.basin, same_run same.unit_list same.reach_list same.told)
  call_same a b c pour_again s t = (s.after ∙ sym t.after, same_pour (s.refused ∙ sym t.refused))
  call_same a b c draw_again s t = (s.after ∙ sym t.after, same_draw (s.refused ∙ sym t.refused))

  -- calls one after another
  calls_same : {a : View S} {xs ys : List Call} {b c : View S} → Each SameCall xs ys → History water turns a xs b → History water turns a ys c → (b ≡ c) × Each SameAnswer xs ys
  calls_same done fresh fresh = (refl, done)
  calls_same {a} (next {x} {y} e es) (then {b} {c} p s) (then {b = d} {c = f} q t) =
      let before = calls_same es p q in
      let here : Step water turns b y f = subst (λ (v : View S). Step water turns v y f) (sym before.0) t in
      let now = call_same b c f e s here in
      (now.0, next now.1 before.1)

  -- one call on one basin has one outcome
  pub calls_agree : CallsAgree water turns
  calls_agree a b c x y e s t = call_same a b c e s t

  -- and so has one list of calls
  pub suppliers_agree : SuppliersAgree water turns
  suppliers_agree a b c xs ys e p q = calls_same e p q
