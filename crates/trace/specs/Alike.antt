-- What a call may read: two entries are alike where they agree on it, whatever the tolerances past m, the places from n on and the cells of other stretches hold. Assumes nothing.
use Rattle.std.specs.Prelude.{◌≡◌, List, ℕ, ◌≤◌, ◌<◌, pos, length, get_or}
use Rattle.sample.specs.Samples.{Samples}
use Rattle.table.specs.Table.{cell}
use Rattle.trace.specs.declared.Trace.{Trace}
use Rattle.trace.specs.declared.Changed.{Changed}
use Rattle.trace.specs.declared.Uploaded.{Uploaded}
use Rattle.trace.specs.Calls.{Buffers}

-- setups with the same m, N, n and tolerances of levels 1 to m
pub record AlikeTraces (a c : Trace) : Type 0 where
  pub levels : a.levels ≡ c.levels
  pub capacity : a.capacity ≡ c.capacity
  pub held : a.held ≡ c.held
  pub tolerances : (l : ℕ) → l < a.levels → get_or a.tolerances l 0 ≡ get_or c.tolerances l 0

-- buffers of one length with the same first n places
pub record AlikePlaces {A : Type 0} (z : A) (n : ℕ) (s u : List A) : Type 0 where
  pub length : length s ≡ length u
  pub each : (q : ℕ) → q < n → get_or s q z ≡ get_or u q z

-- those of coordinates and marks
pub record AlikeSamples (n : ℕ) (xs us : Samples) : Type 0 where
  pub across : AlikePlaces (pos 0) n xs.across us.across
  pub up : AlikePlaces (pos 0) n xs.up us.up
  pub marks : AlikePlaces 0 n xs.marks us.marks

-- tables of one length with the same cells of stretches i < j < n, at levels 1 to m
pub record AlikeCells (N m n : ℕ) (t u : List ℕ) : Type 0 where
  pub length : length t ≡ length u
  pub each : (k i j : ℕ) → 1 ≤ k → k ≤ m → i < j → j < n → cell t N k i j ≡ cell u N k i j

pub record AlikeBuffers (a : Trace) (b d : Buffers) : Type 0 where
  pub samples : AlikeSamples a.held b.samples d.samples
  pub table : AlikeCells a.capacity a.levels a.held b.table d.table

-- answers of put that agree, with all that the next call may read
pub record AlikeChanges (r q : Changed) (e f : Buffers) : Type 0 where
  pub outcome : r.outcome ≡ q.outcome
  pub cells : r.cells ≡ q.cells
  pub trace : AlikeTraces r.trace q.trace
  pub lent : AlikeBuffers r.trace e f

-- and those of upload
pub record AlikeUploads (r q : Uploaded) (e f : Buffers) : Type 0 where
  pub stop : r.stop ≡ q.stop
  pub added : r.added ≡ q.added
  pub cells : r.cells ≡ q.cells
  pub trace : AlikeTraces r.trace q.trace
  pub lent : AlikeBuffers r.trace e f
