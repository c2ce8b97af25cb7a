-- `sizes::held_with` meets its contract. Assumes nothing.
use mathlib.Core.Path.{sym}
use native.Mathlib.Omega.{arith}
use Rattle.sizes.proofs.Held.{held_corrected, held_added}
use Rattle.sizes.proofs.held_with.Goals as goal

pub returns-then-v-n : goal.returns-then-v-n
returns-then-v-n c = sym (held_corrected _ _ (omega arith))

pub returns-else-v-n : goal.returns-else-v-n
returns-else-v-n c = sym (held_added _ _ (omega arith))
