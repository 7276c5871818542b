-- The records of a weather table: twelve bytes of a station and a day. Assumes nothing.
use Rattle.std.specs.Prelude.{◌≡◌, ℕ, ◌+◌, ◌*◌, Bool, true, false, cond, List, pos, Some, None, Option, ◌==◌}
use Rattle.std.proofs.Common.{subst}
use Rattle.std.specs.List.{between}
use Rattle.refusals.specs.Refusals.{Refusal}
use Rattle.weather.proofs.Limited.{possible_from}
use Rattle.weather.specs.Days.{Figures, Possible, day_fault}
use Rattle.weather.specs.Meaning.{Sky, known, missing, outside}
use Rattle.sources.specs.Bytes.{word_at, half_at}

-- the block of a station: its days one after another
abbrev pub block_of : List ℕ → ℕ → ℕ → List ℕ
block_of bytes days s = between (20 + 12 * days * s) (20 + 12 * days * s + 12 * days) bytes

-- the record of an index in a block
abbrev pub record_of : List ℕ → ℕ → List ℕ
record_of block i = between (12 * i) (12 * i + 12) block

-- the figures of the record that begins at a place, as of a date
abbrev pub figures_at : ℕ → List ℕ → ℕ → Figures
figures_at date bytes place = record { date = date; rain = word_at bytes place; highest = half_at bytes (place + 4); lowest = half_at bytes (place + 6); demand = word_at bytes (place + 8) }

-- figures that no test refuses are known
abbrev pub judged : Option Refusal → Figures → Sky
judged None f = known f
judged (Some r) f = outside

abbrev pub figures_fault : Figures → Option Refusal
figures_fault f = day_fault (pos f.date) (pos f.rain) f.highest f.lowest (pos f.demand)

-- what the figures of a record say; all bits of the rain set: they are missing
unfoldable pub sky_of : Figures → Sky
sky_of f = cond (f.rain == 4294967295) missing (judged (figures_fault f) f)

-- what the record that begins at a place says of a date
abbrev pub sky_at : ℕ → List ℕ → ℕ → Sky
sky_at date bytes place = sky_of (figures_at date bytes place)

judged_known : (fault : Option Refusal) (g f : Figures) → judged fault g ≡ known f → (fault ≡ None) × (g ≡ f)
judged_known None g f e = ((cc), (cc))
judged_known (Some r) g f e = ((cc), (cc))

present : (b : Bool) (x : Sky) (f : Figures) → cond b missing x ≡ known f → x ≡ known f
present true x f e = cc
present false x f e = e

-- what is known are the record's figures, and no test refuses them
known_figures : (g f : Figures) → sky_of g ≡ known f → (figures_fault g ≡ None) × (g ≡ f)
unfolding sky_of
known_figures g f e = judged_known _ _ _ (present _ _ _ e)

pub sky_possible : (date : ℕ) (bytes : List ℕ) (place : ℕ) (f : Figures) → sky_at date bytes place ≡ known f → Possible f
sky_possible date bytes place f e =
    let g = figures_at date bytes place in
    let k = known_figures g f e in
    subst Possible k.1 (possible_from g.date g.rain g.highest g.lowest g.demand k.0)

pub sky_dated : (date : ℕ) (bytes : List ℕ) (place : ℕ) (f : Figures) → sky_at date bytes place ≡ known f → f.date ≡ date
sky_dated date bytes place f e = let k = (known_figures (figures_at date bytes place) f e).1 in cc
