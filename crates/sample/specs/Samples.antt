-- A sample, and the buffers that hold the samples of a trace. Assumes nothing.
use Rattle.std.specs.Prelude.{ℕ, List, ℤ, pos, get_or, set}
use Rattle.sample.specs.declared.Sample.{Sample}
use Rattle.sample.specs.declared.Lent.{Lent}

-- a sample's coordinates, and its mark: 1 for the first sample of a new boot, else 0
abbrev pub sample : ℤ → ℤ → ℕ → Sample
sample x y mark = record { across = x; up = y; mark = mark }

pub record Samples : Type 0 where
  pub across : List ℤ
  pub up : List ℤ
  pub marks : List ℕ

abbrev pub samples : List ℤ → List ℤ → List ℕ → Samples
samples xs ys ms = record { across = xs; up = ys; marks = ms }

-- those that are lent to a call
abbrev pub lent : Lent → Samples
lent l = samples l.across.now l.up.now l.marks.now

-- sample q of them
abbrev pub sample_at : Samples → ℕ → Sample
sample_at xs q = sample (get_or xs.across q (pos 0)) (get_or xs.up q (pos 0)) (get_or xs.marks q 0)

-- the buffers with sample v made x
abbrev pub store : Samples → ℕ → Sample → Samples
store xs v x = samples (set xs.across v x.across) (set xs.up v x.up) (set xs.marks v x.mark)
