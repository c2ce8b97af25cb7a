-- What the change of a sample asks, and what it leaves, by sizes that hold it. No public contract cites it. Assumes nothing.
use Rattle.std.specs.Prelude.{ℕ, ◌*◌, ◌≤◌, ◌<◌, ◌≡◌, List, length}
use Rattle.sample.specs.declared.Sample.{Sample}
use Rattle.sample.specs.Samples.{Samples, store}
use Rattle.sample.specs.Sweep.{Ranged}
use Rattle.sizes.specs.declared.Sizes.{Sizes}
use Rattle.costs.specs.Costs.{Named, named}
use Rattle.permission.specs.Finest.{perm, Rising}
use Rattle.costs.specs.Walk.{LowSteps, Rewritten}

-- what the change of sample v asks, of the samples held after it
pub record Ready (s : Sizes) (xs : Samples) (t : List ℕ) (v : ℕ) (x : Sample) : Type 0 where
  pub sizes : (1 ≤ s.levels) × (s.levels ≤ 16) × (s.capacity ≤ 256) × (v < s.held) × (s.held ≤ s.capacity)
  pub rising : Rising s.tolerances s.levels
  pub ranged : Ranged (store xs v x) s.held
  pub marks : s.held ≤ length xs.marks
  pub room : s.levels * (s.capacity * s.capacity) ≤ length t
  pub steps : LowSteps t s.capacity s.levels v s.held

-- and what it leaves: the sample stored, the cells of the stretches with it rewritten, and counted
pub record Changes (s : Sizes) (xs : Samples) (t : List ℕ) (v : ℕ) (x : Sample) (r : ℕ) (xs' : Samples) (t' : List ℕ) : Type 0 where
  pub samples : xs' ≡ store xs v x
  pub cells : Rewritten s.capacity (perm (store xs v x) s.tolerances) (Named s.levels v s.held) t t'
  pub count : r ≡ named s.levels v s.held
