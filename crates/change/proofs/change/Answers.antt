-- `change::change` meets its contract: the stores are `store`, and the walk does the rest. Assumes nothing.
use mathlib.Core.Path.{◌≡◌, refl, sym, subst}
use Prim.Native.Nat.{ℕ}
use lib.IntN.{ℤ}
use lib.ListN.{set, length-set}
use mir.Syntax.{w16}
use mir.Val.{to_z, of_z}
use Rattle.std.proofs.Common.{rules}
use Rattle.sample.specs.declared.Sample.{Sample}
use Rattle.sample.specs.Samples.{Samples, samples, store}
use Rattle.sample.specs.Sweep.{Ranged}
use Rattle.change.proofs.change.Goals as goal

-- a coordinate that was handed on by its bits
abbrev back : ℤ → ℤ
back z = to_z w16 (of_z w16 z)

stored : (xs : Samples) (v : ℕ) (x : Sample) → back x.across ≡ x.across → back x.up ≡ x.up
    → samples (set xs.across v (back x.across)) (set xs.up v (back x.up)) (set xs.marks v x.mark) ≡ store xs v x
stored xs v x e f = rw (e, f) refl

pub rewrite-requires : goal.rewrite-requires
rewrite-requires c =
    let a = c.args in
    let p = c.requires in
    let z = p.sizes in record {
      le_levels = (z.0, z.1, z.2, z.3, z.4, p.rising);
      ranged = (
        subst (λ xs. Ranged xs a.s.held) (sym (stored (samples a.xs.now a.ys.now a.marks.now) a.v a.sample (search rules) (search rules))) p.ranged,
        rw (length-set a.marks.now a.v a.sample.mark) p.marks,
        p.room,
      );
      low_steps = p.steps;
    }

pub returns : goal.returns
returns c =
    let a = c.args in
    let e = stored (samples a.xs.now a.ys.now a.marks.now) a.v a.sample (search rules) (search rules) in
    let w = c.rewrite.ensures in
    record { samples = e; cells = rw e at w.rewritten; count = w.value }
