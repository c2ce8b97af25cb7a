-- What each call gives and leaves: its number, its answer, and every lent buffer after the call. Assumes nothing.
use Rattle.std.specs.Prelude.{◌≡◌, List, ℕ, ◌-◌, get_or, replicate, Ok, Err, Result}
use Rattle.refusal.specs.declared.Refusal.{Refusal}
use Rattle.refusal.specs.Number.{number, code}
use Rattle.geometry.specs.declared.Verdict.{Verdict}
use Rattle.geometry.specs.Spoiler.{Says as VerdictSays}
use Rattle.sample.specs.declared.Sample.{Sample}
use Rattle.sample.specs.Samples.{Samples, store}
use Rattle.sizes.specs.declared.Sizes.{Sizes}
use Rattle.sizes.specs.Setup.{kept, held_with}
use Rattle.checks.specs.Numbers.{StartNumber, PutNumber, AskNumber, ReadNumber}
use Rattle.costs.specs.Costs.{Permit, CellsWritten, named}
use Rattle.readout.specs.Read.{RanksRead}
use Rattle.trace.specs.declared.Trace.{Trace}
use Rattle.trace.specs.declared.Started.{Started}
use Rattle.trace.specs.declared.Changed.{Changed}
use Rattle.trace.specs.declared.Levels.{Levels}

-- what the checks know of a trace
abbrev pub sizes : Trace → Sizes
sizes a = record { levels = a.levels; capacity = a.capacity; held = a.held; tolerances = a.tolerances }

-- ---- start
abbrev pub empty_trace : ℕ → ℕ → List ℕ → Trace
empty_trace m N tols = record { levels = m; capacity = N; held = 0; tolerances = kept m tols }

abbrev pub no_trace : Trace
no_trace = record { levels = 0; capacity = 0; held = 0; tolerances = replicate 16 0 }

pub record StartGives (m N : ℕ) (tols : List ℕ) (r : Started) : Type 0 where
  pub number : StartNumber m N tols (code r.outcome)
  pub done : r.outcome ≡ Ok tt → r.trace ≡ empty_trace m N tols
  pub refused : (why : Refusal) → r.outcome ≡ Err why → r.trace ≡ no_trace

-- ---- put
-- the buffers that are lent
pub record Buffers : Type 0 where
  pub samples : Samples
  pub table : List ℕ

abbrev pub buffers : Samples → List ℕ → Buffers
buffers xs t = record { samples = xs; table = t }

-- the trace with n samples
abbrev pub holding : Trace → ℕ → Trace
holding a n = record { levels = a.levels; capacity = a.capacity; held = n; tolerances = a.tolerances }

-- of n samples after the call, sample v is now x, and exactly the cells of stretches with it are written, and counted
pub record Put (a : Trace) (b : Buffers) (v n : ℕ) (x : Sample) (r : Changed) (e : Buffers) : Type 0 where
  pub trace : r.trace ≡ holding a n
  pub samples : e.samples ≡ store b.samples v x
  pub cells : CellsWritten a.capacity (Permit e.samples a.tolerances) a.levels v n b.table e.table
  pub count : r.cells ≡ named a.levels v n

-- nothing is written, and the trace is the one given
pub record NotPut (a : Trace) (b : Buffers) (r : Changed) (e : Buffers) : Type 0 where
  pub trace : r.trace ≡ a
  pub lent : e ≡ b
  pub count : r.cells ≡ 0

-- a sample is put at place v
pub record PutGives (a : Trace) (b : Buffers) (v : ℕ) (x : Sample) (r : Changed) (e : Buffers) : Type 0 where
  pub number : PutNumber (sizes a) b.samples b.table v x (code r.outcome)
  pub done : r.outcome ≡ Ok tt → Put a b v (held_with a.held v) x r e
  pub refused : (why : Refusal) → r.outcome ≡ Err why → NotPut a b r e

-- ---- ask
-- yes or no, or the refusal
abbrev pub Asked : Type 0
Asked = Result Verdict Refusal

-- the paper's number of an answer, 0 for a yes and for a no
abbrev pub asked : Asked → ℕ
asked (Ok verdict) = 0
asked (Err why) = number why

-- what an answer says of the stretch (i, j) at a tolerance: yes that it is permitted, no with q that q is the lowest sample that is marked or lies too far away, a refusal neither
abbrev pub Says : Samples → ℕ → ℕ → ℕ → Asked → Type 0
Says xs i j e (Ok verdict) = VerdictSays xs i j e verdict
Says xs i j e (Err why) = Unit {0}

pub record AskGives (a : Trace) (xs : Samples) (k i j : ℕ) (r : Asked) (xs' : Samples) : Type 0 where
  pub number : AskNumber (sizes a) xs k i j (asked r)
  pub says : Says xs i j (get_or a.tolerances (k - 1) 0) r
  pub lent : xs' ≡ xs

-- ---- read
-- no ranks are written, and every count is zero
pub record NotRead (ranks : List ℕ) (r : Levels) (ranks' : List ℕ) : Type 0 where
  pub kept : ranks' ≡ ranks
  pub segments : r.segments ≡ replicate 16 0
  pub total : r.total ≡ 0

pub record ReadGives (a : Trace) (b : Buffers) (ranks : List ℕ) (r : Levels) (e : Buffers) (ranks' : List ℕ) : Type 0 where
  pub number : ReadNumber (sizes a) b.samples b.table ranks (code r.outcome)
  pub done : r.outcome ≡ Ok tt → RanksRead b.table a.capacity a.levels a.held ranks ranks' r.segments r.total
  pub refused : (why : Refusal) → r.outcome ≡ Err why → NotRead ranks r ranks'
  pub lent : e ≡ b
