-- `sample::mark_ok` meets its contract. Assumes nothing.
use mathlib.Core.Path.{refl}
use Rattle.sample.specs.Mark.{mark_ok}
use Rattle.sample.proofs.mark_ok.Goals as goal

pub returns : goal.returns
unfolding mark_ok
returns c = refl
