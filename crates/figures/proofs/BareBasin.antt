-- A basin of the program's settings is the small basin. Assumes nothing.
use Rattle.std.proofs.Common.{◌≡◌, ℕ, false, List, [], ◌∷◌, map, Option, refl, ap}
use mathlib.Core.Bool.{Bool-set}
use mathlib.Core.HLevel.{is_prop→PathP}
use Rattle.fixed.proofs.Bounds.{le_at, share_same}
use Rattle.stores.specs.declared.rock.Rock.{Rock}
use Rattle.snow.specs.declared.snowpack.Snowpack.{Snowpack}
use Rattle.snow.specs.Same.{pack_same}
use Rattle.network.specs.declared.site.Site.{Site}
use Rattle.network.specs.Nexts.{is_first}
use Rattle.network.specs.declared.channel.Channel.{Channel}
use Rattle.network.specs.declared.reach.Reach.{Reach}
use Rattle.basin.specs.Tables.{View}
use Rattle.trial.specs.Bare.{Bare, site_settings, pack_settings, reach_settings}
use Rattle.figures.specs.Small.{small_site, cold_unit, dry_basin}
use Rattle.figures.proofs.SmallDays.{reach_with}

-- ---- settings tell their records apart
-- sites with equal settings are equal
site_same : (s t : Site) → site_settings s ≡ site_settings t → s ≡ t
site_same s t e =
    let area : s.area ≡ t.area = cc in
    let reach : s.reach ≡ t.reach = cc in
    let station : s.station ≡ t.station = cc in
    λ j. record {
      area = area j;
      reach = reach j;
      station = station j;
      sized = (le_at refl area s.sized.0 t.sized.0 j, le_at area refl s.sized.1 t.sized.1 j);
      stationed = le_at station refl s.stationed t.stationed j;
    }

-- so are packs over rock
unit_same : (u v : Snowpack Rock) → pack_settings u ≡ pack_settings v → u ≡ v
unit_same u v e =
    let pack = pack_same u.pack v.pack (cc) (cc) (cc) (cc) (cc) (cc) in
    λ j. record { pack = pack j; lower = record {} }

-- and channels, by their figures one by one
channel_same : (c d : Channel) → c.next ≡ d.next → c.station ≡ d.station → c.outflow.millionths ≡ d.outflow.millionths → c.loss ≡ d.loss → c.surface ≡ d.surface → c.evaporation.millionths ≡ d.evaporation.millionths → c ≡ d
channel_same c d n s o l w v j = record {
  next = n j;
  station = s j;
  outflow = share_same c.outflow d.outflow o j;
  loss = l j;
  surface = w j;
  evaporation = share_same c.evaporation d.evaporation v j;
  onward = is_prop→PathP (λ k. is_first (n k) ≡ false) (λ k. Bool-set (is_first (n k)) false) c.onward d.onward j;
  stationed = le_at s refl c.stationed d.stationed j;
  lossy = le_at l refl c.lossy d.lossy j;
  wide = le_at w refl c.wide d.wide j;
}

-- and reaches
reach_same : (r q : Reach) → reach_settings r ≡ reach_settings q → r ≡ q
reach_same r q e =
    let next = ap (λ (p : Option ℕ × List ℕ). p.0) e in
    let rest = ap (λ (p : Option ℕ × List ℕ). p.1) e in
    let channel = channel_same r.channel q.channel next (cc) (cc) (cc) (cc) (cc) in
    let stored : r.stored ≡ q.stored = cc in
    λ j. record { channel = channel j; stored = stored j }

-- ---- the basin
-- lists are equal where their settings are, if settings tell records apart
map_same : {A B : Type 0} (f : A → B) → ((x y : A) → f x ≡ f y → x ≡ y) → (xs ys : List A) → map f xs ≡ map f ys → xs ≡ ys
map_same f h [] [] e = refl
map_same f h [] (y ∷ ys) e = cc
map_same f h (x ∷ xs) [] e = cc
map_same f h (x ∷ xs) (y ∷ ys) e =
    let first = h x y (cc) in
    let rest = map_same f h xs ys (cc) in
    λ j. first j ∷ rest j

-- the program's settings are met by the small basin
pub bare_dry : Bare dry_basin
bare_dry = record { one_site = refl; one_unit = refl; one_reach = refl; new = refl }

-- and by no other
pub bare_is : (a : View (Snowpack Rock)) → Bare a → a ≡ dry_basin
bare_is a h =
    let sites = map_same site_settings site_same a.sites (small_site ∷ []) h.one_site in
    let units = map_same pack_settings unit_same a.state.units (cold_unit ∷ []) h.one_unit in
    let reaches = map_same reach_settings reach_same a.state.reaches (reach_with 0 ∷ []) h.one_reach in
    λ j. record { sites = sites j; state = record { units = units j; reaches = reaches j }; day = h.new j }
