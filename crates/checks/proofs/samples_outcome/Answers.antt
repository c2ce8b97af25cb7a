-- `checks::samples_outcome` meets its contract. Assumes nothing.
use mathlib.Core.Path.{sym, ap, ◌∙◌}
use Rattle.sample.specs.Samples.{lent}
use Rattle.checks.specs.Rows.{samples_lent, lent_outcome}
use Rattle.checks.proofs.Checks.{samples_held}
use Rattle.checks.proofs.samples_outcome.Goals as goal

pub all_ok-requires : goal.all_ok-requires
all_ok-requires c =
    let long = c.samples_lent.ensures ∙ ap (samples_lent _) c.lengths_of.ensures in
    samples_held c.args.s (lent c.args.samples) (sym (c.lent_outcome.ensures ∙ ap (lent_outcome _) long) ∙ c.in_ok-lent_outcome.was)
