-- The tables of a basin, and which of them fit together. Assumes nothing.
use Rattle.std.specs.Prelude.{ℕ, suc, ◌+◌, Bool, true, false, cond, ◌&&◌, List, [], ◌∷◌, length, Some, None, Ok, Err, Option, Result, ◌==◌, nat_le, nat_lt, vec_items}
use Rattle.refusals.specs.Refusals.{Refusal, refuse, basin_refusal}
use Rattle.refusals.specs.declared.basin.BasinFault.{BasinFault}
use Rattle.network.specs.declared.site.Site.{Site}
use Rattle.network.specs.declared.reach.Reach.{Reach}
use Rattle.basin.specs.declared.tables.Tables.{Tables}

-- what the days and the calls change
pub record State (S : Type 0) : Type 0 where
  pub units : List S
  pub reaches : List Reach

-- tables as plain lists
abbrev pub sites_of : {S : Type 0} → Tables S → List Site
sites_of t = vec_items t.sites

abbrev pub state_of : {S : Type 0} → Tables S → State S
state_of t = record { units = vec_items t.units; reaches = vec_items t.reaches }

-- what a basin holds
pub record View (S : Type 0) : Type 0 where
  pub sites : List Site
  pub state : State S
  pub day : ℕ

-- ---- the first refusal of several
abbrev pub or_else : Option Refusal → Option Refusal → Option Refusal
or_else None q = q
or_else (Some e) q = Some e

abbrev pub refused_unless : Bool → Refusal → Option Refusal
refused_unless true e = None
refused_unless false e = Some e

-- what a call that may refuse answered
abbrev pub refused_by : {X : Type 0} → Result X BasinFault → Option Refusal
refused_by (Ok x) = None
refused_by (Err e) = Some (basin_refusal e)

-- ---- 51: how many sites, units and reaches go together
abbrev pub lengths_fit : ℕ → ℕ → ℕ → Bool
lengths_fit sites units reaches = nat_le 1 sites && (nat_le sites 1024 && (units == sites && (nat_le 1 reaches && nat_le reaches 256)))

-- ---- 52: the first site, counted from i, whose reach is not one of n
abbrev pub stray_fault : ℕ → ℕ → List Site → Option Refusal
stray_fault n i [] = None
stray_fault n i (s ∷ ss) = cond (nat_lt s.reach n) (stray_fault n (suc i) ss) (Some (refuse 52 i))

-- ---- 53
-- whether a next reach, if there is one, has a place above j and is one of n
abbrev pub lies_ahead : Option ℕ → ℕ → ℕ → Bool
lies_ahead None j n = true
lies_ahead (Some k) j n = nat_lt j k && nat_lt k n

-- the first reach, counted from j, of which that is not so
abbrev pub next_fault : ℕ → ℕ → List Reach → Option Refusal
next_fault n j [] = None
next_fault n j (r ∷ rs) = cond (lies_ahead r.channel.next j n) (next_fault n (suc j) rs) (Some (refuse 53 j))

-- ---- 54: the area of all sites together
abbrev pub areas : List Site → ℕ
areas [] = 0
areas (s ∷ ss) = s.area + areas ss

-- the first of 51 to 54 that fits; `fit` says whether the lengths go together
abbrev pub tables_fault : Bool → List Site → List Reach → Option Refusal
tables_fault fit ss rs =
    or_else (refused_unless fit (refuse 51 0))
    (or_else (stray_fault (length rs) 0 ss)
    (or_else (next_fault (length rs) 0 rs)
    (refused_unless (nat_le (areas ss) 1000000000) (refuse 54 0))))
