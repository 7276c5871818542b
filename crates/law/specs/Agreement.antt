-- Two suppliers who keep the contract agree. Assumes nothing.
use Rattle.std.specs.Prelude.{◌≡◌, ℕ, List, [], ◌∷◌, Option, Result}
use Rattle.std.specs.Option.{option_map}
use Rattle.refusals.specs.Refusals.{Refusal, basin_refusal}
use Rattle.refusals.specs.declared.basin.BasinFault.{BasinFault}
use Rattle.weather.specs.Meaning.{Meaning}
use Rattle.weather.specs.declared.day.Day.{Day}
use Rattle.stores.specs.declared.flows.Flows.{Flows}
use Rattle.network.specs.declared.flows.UnitFlow.{UnitFlow}
use Rattle.network.specs.declared.flows.ReachFlow.{ReachFlow}
use Rattle.basin.specs.declared.answer.Sums.{Sums}
use Rattle.basin.specs.declared.answer.Answer.{Answer}
use Rattle.basin.specs.Tables.{View, refused_by}
use Rattle.basin.specs.Calls.{Call, run, pour, draw, History, Step}

-- the figures of an answer that the rules fix: all but the readings; the stop by number and values
pub record Fixed : Type 0 where
  pub days : ℕ
  pub sums : Sums
  pub start : ℕ
  pub end : ℕ
  pub stop : Option Refusal

abbrev pub fixed : Answer → Fixed
fixed r = record { days = r.days; sums = r.sums; start = r.start; end = r.end; stop = option_map basin_refusal r.stop }

-- the same call with answers and flow lists that agree
pub data SameAnswer : Call → Call → Type 0 where
  same_run : {m : Meaning} {n : ℕ} {us us' vs' : List UnitFlow} {rs rs' ts' : List ReachFlow} {r q : Answer} → us' ≡ vs' → rs' ≡ ts' → fixed r ≡ fixed q → SameAnswer (run m n us rs us' rs' r) (run m n us rs vs' ts' q)
  same_pour : {j x : ℕ} {r q : Result (Unit {0}) BasinFault} → refused_by r ≡ refused_by q → SameAnswer (pour j x r) (pour j x q)
  same_draw : {j x : ℕ} {r q : Result (Unit {0}) BasinFault} → refused_by r ≡ refused_by q → SameAnswer (draw j x r) (draw j x q)

-- the same call, whatever was answered
pub data SameCall : Call → Call → Type 0 where
  run_again : {m : Meaning} {n : ℕ} {us us' vs' : List UnitFlow} {rs rs' ts' : List ReachFlow} {r q : Answer} → SameCall (run m n us rs us' rs' r) (run m n us rs vs' ts' q)
  pour_again : {j x : ℕ} {r q : Result (Unit {0}) BasinFault} → SameCall (pour j x r) (pour j x q)
  draw_again : {j x : ℕ} {r q : Result (Unit {0}) BasinFault} → SameCall (draw j x r) (draw j x q)

-- one call on one basin has one outcome
abbrev pub CallsAgree : {S : Type 0} → (S → ℕ) → (S → ℕ → ℕ → Day → S → Flows → Type 0) → Type 0
CallsAgree {S} water turns = (a b c : View S) (x y : Call) → SameCall x y → Step water turns a x b → Step water turns a y c → (b ≡ c) × SameAnswer x y

-- calls one by one alike
pub data Each (R : Call → Call → Type 0) : List Call → List Call → Type 0 where
  done : Each R [] []
  next : {x y : Call} {xs ys : List Call} → R x y → Each R xs ys → Each R (x ∷ xs) (y ∷ ys)

-- two suppliers: one basin and one list of calls end in one basin, with the same figures, tables and lists
abbrev pub SuppliersAgree : {S : Type 0} → (S → ℕ) → (S → ℕ → ℕ → Day → S → Flows → Type 0) → Type 0
SuppliersAgree {S} water turns = (a b c : View S) (xs ys : List Call) → Each SameCall xs ys → History water turns a xs b → History water turns a ys c → (b ≡ c) × Each SameAnswer xs ys
