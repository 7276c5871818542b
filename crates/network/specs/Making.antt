-- Sites and reaches made of settings, and the refusal of the first setting outside. Assumes nothing.
use Rattle.std.specs.Prelude.{◌≡◌, ℕ, Bool, true, false, [], ◌∷◌, ℤ, pos, Some, None, Ok, Err, Option, Result}
use Rattle.std.specs.Option.{option_map}
use Rattle.fixed.specs.Limits.{outside, first}
use Rattle.refusals.specs.Refusals.{Refusal, refuse, site_refusal, reach_refusal}
use Rattle.refusals.specs.declared.site.SiteSetting.{SiteSetting}
use Rattle.refusals.specs.declared.reach.ReachSetting.{ReachSetting}
use Rattle.network.specs.Nexts.{is_first}
use Rattle.network.specs.declared.site.Site.{Site}
use Rattle.network.specs.declared.reach.Reach.{Reach}

-- ---- a site: area, reach, station
abbrev pub site_fault : ℤ → ℤ → ℤ → Option Refusal
site_fault area reach station = first (
    (outside (pos 1) (pos 1000000000) area, refuse 12 1) ∷
    (outside (pos 0) (pos 255) reach, refuse 12 2) ∷
    (outside (pos 0) (pos 63) station, refuse 12 3) ∷ [])

abbrev pub SiteMade : ℤ → ℤ → ℤ → Result Site SiteSetting → Type 0
SiteMade area reach station (Ok s) = (site_fault area reach station ≡ None) × (pos s.area ≡ area) × (pos s.reach ≡ reach) × (pos s.station ≡ station)
SiteMade area reach station (Err e) = site_fault area reach station ≡ Some (site_refusal e)

-- ---- a reach: next, station, stored water, outflow share, greatest loss, water surface, evaporation share
-- a next reach is 1 to 255, or there is none
abbrev pub next_outside : Option ℤ → Bool
next_outside None = false
next_outside (Some z) = outside (pos 1) (pos 255) z

abbrev pub reach_fault : Option ℤ → ℤ → ℤ → ℤ → ℤ → ℤ → ℤ → Option Refusal
reach_fault next station stored outflow loss surface evaporation = first (
    (next_outside next, refuse 12 1) ∷
    (outside (pos 0) (pos 63) station, refuse 12 2) ∷
    (outside (pos 0) (pos 1000000000000000) stored, refuse 12 3) ∷
    (outside (pos 0) (pos 1000000) outflow, refuse 12 4) ∷
    (outside (pos 0) (pos 1000000000000000) loss, refuse 12 5) ∷
    (outside (pos 0) (pos 100000000) surface, refuse 12 6) ∷
    (outside (pos 0) (pos 1000000) evaporation, refuse 12 7) ∷ [])

abbrev pub NextMade : Option ℤ → Result (Option ℕ) ReachSetting → Type 0
NextMade next (Ok n) = (next_outside next ≡ false) × (option_map pos n ≡ next) × (is_first n ≡ false)
NextMade next (Err e) = (next_outside next ≡ true) × (reach_refusal e ≡ refuse 12 1)

abbrev pub ReachMade : Option ℤ → ℤ → ℤ → ℤ → ℤ → ℤ → ℤ → Result Reach ReachSetting → Type 0
ReachMade next station stored outflow loss surface evaporation (Ok r) =
    (reach_fault next station stored outflow loss surface evaporation ≡ None) ×
    (option_map pos r.channel.next ≡ next) × (pos r.channel.station ≡ station) × (pos r.stored ≡ stored) × (pos r.channel.outflow.millionths ≡ outflow) ×
    (pos r.channel.loss ≡ loss) × (pos r.channel.surface ≡ surface) × (pos r.channel.evaporation.millionths ≡ evaporation)
ReachMade next station stored outflow loss surface evaporation (Err e) = reach_fault next station stored outflow loss surface evaporation ≡ Some (reach_refusal e)
