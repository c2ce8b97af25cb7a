-- `readout::count_level` meets its contract. Assumes nothing.
use Rattle.std.proofs.Common.{◌≡◌, ◌-◌, ◌∙◌, rules, arith, length, take, drop}
use Rattle.std.proofs.lemmas.Grind.{common_steps}
use Rattle.std.proofs.lemmas.List.Sums.{count_by-le-length}
use lib.Dec.{leb}
use Rattle.std.specs.List.{count_by}
use Rattle.readout.proofs.Count.{segments_by}
use Rattle.readout.proofs.count_level.Goals as goal

pub returns : goal.returns
returns c =
    let h : c.count.result ≡ count_by (λ y. leb c.args.k y) (take (length c.args.ranks.now - 1) (drop 1 c.args.ranks.now)) = search rules in
    (h ∙ segments_by _ _ _ (omega arith), grind (arith, common_steps, count_by-le-length))
