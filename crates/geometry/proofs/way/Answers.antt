-- `geometry::way` meets its contract: signed numbers are read back from their bits. Assumes nothing.
use native.Mathlib.Omega.{arith}
use Rattle.geometry.proofs.Ways.{way_back, way_small}
use Rattle.geometry.proofs.way.Goals as goal

pub invariant_of-result : goal.invariant_of-result
invariant_of-result c =
    let p = c.requires in
    record {
      in_range = record {
        across = way_small (p.0.each _ (omega arith)) (p.0.each _ (omega arith));
        up = way_small (p.1.each _ (omega arith)) (p.1.each _ (omega arith));
      };
    }

pub returns : goal.returns
returns c =
    let p = c.requires in
    (way_back (p.0.each _ (omega arith)) (p.0.each _ (omega arith)), way_back (p.1.each _ (omega arith)) (p.1.each _ (omega arith)))
