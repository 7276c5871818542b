-- The units turned in place, one after another. Assumes nothing.
use Rattle.std.proofs.Common.{◌≡◌, ℕ, ◌+◌, ◌<◌, ◌≤◌, ◌≢◌, List, length, get_or, set, sym, ◌∙◌, subst, arith, get_or-set_other, get_or-set_same, below_more}
use Rattle.std.proofs.lemmas.List.{get_or_default}
use Rattle.weather.specs.declared.day.Day.{Day}
use Rattle.stores.specs.declared.flows.Flows.{Flows}
use Rattle.network.specs.Records.{unit0}
use Rattle.network.specs.declared.flows.UnitFlow.{UnitFlow}
use Rattle.basin.specs.Loops.{TurnedIn}

-- the units below i are turned, those from i on are as they were
pub record Turning {S : Type 0} (water : S → ℕ) (turns : S → ℕ → ℕ → Day → S → Flows → Type 0) (ws : List Day) (us : List S) (i : ℕ) (vs : List S) (gs : List UnitFlow) : Type 0 where
  pub done : (k : ℕ) (z : S) (w : Day) → k < i → TurnedIn water turns (get_or ws k w) (get_or us k z) (get_or vs k z) (get_or gs k unit0)
  pub rest : (k : ℕ) (z : S) → i ≤ k → get_or vs k z ≡ get_or us k z

-- one turn more: the unit at i with the day d of its place, and its day's record
pub turning_more : {S : Type 0} {water : S → ℕ} {turns : S → ℕ → ℕ → Day → S → Flows → Type 0} {ws : List Day} {us : List S} {i : ℕ} {vs : List S} {gs : List UnitFlow} (x v : S) (d : Day) (g : UnitFlow) →
    Turning water turns ws us i vs gs → i < length ws → i < length vs → i < length gs → d ≡ get_or ws i d → TurnedIn water turns d (get_or vs i x) v g →
    Turning water turns ws us (i + 1) (set vs i v) (set gs i g)
turning_more {S} {water} {turns} {ws} {us} {i} {vs} {gs} x v d g t hw hv hg is turned =
    let P : ℕ → Type 0 = λ k. (z : S) (w : Day) → TurnedIn water turns (get_or ws k w) (get_or us k z) (get_or (set vs i v) k z) (get_or (set gs i g) k unit0) in
    let all = below_more P i
    (λ k h z w.
    let ne : k ≢ i = omega arith in
    subst (λ (y : S). TurnedIn water turns (get_or ws k w) (get_or us k z) y (get_or (set gs i g) k unit0)) (sym (get_or-set_other vs i k v z ne))
    (subst (λ (y : UnitFlow). TurnedIn water turns (get_or ws k w) (get_or us k z) (get_or vs k z) y) (sym (get_or-set_other gs i k g unit0 ne)) (t.done k z w h)))
    (λ z w.
    let le : i ≤ i = omega arith in
    let was : get_or vs i x ≡ get_or us i z = get_or_default vs i x z hv ∙ t.rest i z le in
    let here : TurnedIn water turns (get_or ws i w) (get_or us i z) v g =
    subst (λ (y : S). TurnedIn water turns (get_or ws i w) y v g) was (subst (λ (y : Day). TurnedIn water turns y (get_or vs i x) v g) (is ∙ get_or_default ws i d w hw) turned) in
    subst (λ (y : S). TurnedIn water turns (get_or ws i w) (get_or us i z) y (get_or (set gs i g) i unit0)) (sym (get_or-set_same vs i v z hv))
    (subst (λ (y : UnitFlow). TurnedIn water turns (get_or ws i w) (get_or us i z) v y) (sym (get_or-set_same gs i g unit0 hg)) here)) in
    record {
      done = λ k z w h. all k h z w;
      rest = λ k z h. let ne : k ≢ i = omega arith in get_or-set_other vs i k v z ne ∙ t.rest k z (omega arith);
    }
