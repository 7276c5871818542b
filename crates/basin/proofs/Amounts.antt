-- Pours and draws. Assumes nothing.
use Rattle.std.proofs.Common.{◌≡◌, ℕ, ◌<◌, ltb, leb, length, None, Ok, Err, Option, sym, ap, ◌∙◌}
use Rattle.std.proofs.lemmas.Bool.{ltb-true}
use Rattle.refusals.specs.Refusals.{Refusal, refuse}
use Rattle.refusals.specs.declared.basin.BasinFault.{BasinFault}
use Rattle.basin.specs.Tables.{View, or_else, refused_unless, lengths_fit, tables_fault}
use Rattle.basin.specs.Calls.{Amounted, amount_fault, filled, unless}
use Rattle.basin.proofs.Refusing.{both_none, unless_none}

-- the reach of a pour or a draw that passes its first tests exists
pub reach_there : {S : Type 0} (a : View S) (j x : ℕ) → amount_fault a j x ≡ None → j < length a.state.reaches
reach_there a j x e =
    let n = length a.state.reaches in
    let tables = tables_fault (lengths_fit (length a.sites) (length a.state.units) n) a.sites a.state.reaches in
    let named = refused_unless (ltb j n) (refuse 55 j) in
    let amount = refused_unless (leb x 1000000000000000) (refuse 56 0) in
    ltb-true j n (unless_none (ltb j n) (refuse 55 j) (both_none named amount (both_none tables (or_else named amount) e).1).0)

-- one that was accepted wrote its reach
pub taken : {S : Type 0} {fault : Option Refusal} {j x : ℕ} {u : Unit {0}} {a b : View S} → Amounted fault j x (Ok u) a b → b ≡ filled j x a
taken {S} {fault} {j} {x} {u} {a} {b} s = s.after ∙ ap (λ (o : Option Refusal). unless o a (filled j x a)) (sym s.refused)

-- and one that was refused left all as it was
pub left : {S : Type 0} {fault : Option Refusal} {j x : ℕ} {e : BasinFault} {a b : View S} → Amounted fault j x (Err e) a b → b ≡ a
left {S} {fault} {j} {x} {e} {a} {b} s = s.after ∙ ap (λ (o : Option Refusal). unless o a (filled j x a)) (sym s.refused)
