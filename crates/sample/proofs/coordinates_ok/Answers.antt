-- `sample::coordinates_ok` meets its contract. Assumes nothing.
use mathlib.Core.Path.{◌∙◌}
use lib.IntN.{pos}
use lib.ListN.{take}
use Rattle.std.proofs.Common.{rules, tests}
use Rattle.std.proofs.lemmas.Iterator.{YieldsList-from_slice}
use Rattle.std.proofs.lemmas.Iterator.Search.{all_from_yields_List}
use Rattle.refusal.proofs.Laws.{all_taken}
use Rattle.sample.specs.Coordinate.{coordinate_ok, coordinates_ok}
use Rattle.sample.proofs.coordinates_ok.Goals as goal

pub returns : goal.returns
unfolding coordinates_ok
returns c =
    let a = c.args in
    all_from_yields_List coordinate_ok _ _ _ c.all.ensures.ran (YieldsList-from_slice (take a.n a.s.now) cc) (λ x b q k. search (rules, tests))
    ∙ all_taken coordinate_ok (pos 0) a.s.now a.n c.requires
