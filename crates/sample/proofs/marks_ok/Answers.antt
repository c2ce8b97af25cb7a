-- `sample::marks_ok` meets its contract. Assumes nothing.
use mathlib.Core.Path.{◌∙◌}
use lib.ListN.{take}
use Rattle.std.proofs.Common.{rules, tests}
use Rattle.std.proofs.lemmas.Iterator.{YieldsList-from_slice}
use Rattle.std.proofs.lemmas.Iterator.Search.{all_from_yields_List}
use Rattle.refusal.proofs.Laws.{all_taken}
use Rattle.sample.specs.Mark.{mark_ok, marks_ok}
use Rattle.sample.proofs.marks_ok.Goals as goal

pub returns : goal.returns
unfolding marks_ok
returns c =
    let a = c.args in
    all_from_yields_List mark_ok _ _ _ c.all.ensures.ran (YieldsList-from_slice (take a.n a.s.now) cc) (λ x b q k. search (rules, tests))
    ∙ all_taken mark_ok 0 a.s.now a.n c.requires
