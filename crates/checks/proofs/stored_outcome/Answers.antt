-- `checks::stored_outcome` meets its contract: where it goes on checks 1 to 4 have passed, so all is long enough. Assumes nothing.
use mathlib.Core.Path.{sym, ◌∙◌}
use Rattle.sample.specs.Samples.{lent}
use Rattle.checks.proofs.Checks.{lent_done, table_held}
use Rattle.checks.proofs.stored_outcome.Goals as goal

pub stored_ok-requires : goal.stored_ok-requires
stored_ok-requires c =
    let a = c.args in
    let l = lent_done a.s a.long (sym c.lent_outcome.ensures ∙ c.in_ok-lent_outcome.was) in
    let h = table_held a.s (lent a.samples) a.table.now l (c.requires l.long) in
    record { held_in_bounds = h.0; levels_bound = h.1 }
