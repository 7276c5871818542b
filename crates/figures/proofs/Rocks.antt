-- A column of rock has one outcome for every turn. Assumes nothing.
use Rattle.std.proofs.Common.{◌≡◌, sym, refl, ◌∙◌}
use Rattle.stores.specs.Groundwater.{rock_gives}
use Rattle.stores.specs.Outcome.{Single}
use Rattle.stores.specs.declared.rock.Rock.{Rock}
use Rattle.snow.specs.Same.{snow_single}
use Rattle.columns.specs.Columns.{rock_turns}

-- bare rock
rock_alone : Single {S = Rock} (λ a n m v b g. g ≡ rock_gives n)
rock_alone s i d w t u f e x y = (refl, x ∙ sym y)

-- rock under a pack
pub rock_single : Single rock_turns
rock_single s i d w t u f e x y =
    let z = snow_single (λ a n m v b g. g ≡ rock_gives n) rock_alone t.pack u.pack t.lower u.lower f e x y in
    (λ j. record { pack = z.0 j; lower = z.1 j }, z.2)
