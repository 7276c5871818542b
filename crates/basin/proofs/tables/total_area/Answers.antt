use Rattle.std.proofs.Common.{rules, refl}
use Rattle.std.proofs.lemmas.List.Recursion.{is_sum_by}
use Rattle.basin.specs.Tables.{areas}
use Rattle.basin.proofs.tables.total_area.Goals as goal

pub returns : goal.returns
returns c = search (rules, is_sum_by areas (λ s. s.area) refl (λ _ _. refl))
