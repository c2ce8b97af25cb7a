-- Exactly when each number is given, call by call: `k ≡ number ↔ (what passed before it) × (its row)`; 0 where every check passes. Assumes nothing.
use mathlib.Core.Path.{◌≡◌}
use mathlib.Core.Logic.{◌↔◌}
use mathlib.Core.Bool.{Bool}
use mathlib.Core.List.{List}
use Prim.Native.Nat.{ℕ, ◌≤◌, ◌<◌}
use native.Mathlib.Omega.{arith}
use lib.ListN.{length}
use Rattle.refusal.specs.Check.{Decides, First}
use Rattle.refusal.proofs.Rows.{Above, above_none, above_first, reached_none, reached_next, reached_row, reached_all}
use Rattle.sample.specs.declared.Sample.{Sample}
use Rattle.sample.specs.Samples.{Samples}
use Rattle.sizes.specs.declared.Sizes.{Sizes}
use Rattle.sample.specs.Valid.{Valid}
use Rattle.sizes.specs.Setup.{Sized, Tolerances, SetupNumber}
use Rattle.checks.specs.Numbers.{LentSamples, LentTable, StoredSamples, StoredCells, Absent, Good, TraceNumber, StartNumber, PutNumber, AskNumber, ReadNumber}
use Rattle.sample.proofs.Decided.{samples_decided}
use Rattle.checks.proofs.Decided.{lent_samples, lent_table, lent_ranks, stored_decided}
use Rattle.checks.specs.Rows.{Passed, PassedTable}
use Rattle.checks.proofs.Passed.{past_1, past_2, past_3, past_4, samples_past, table_past, sample_past, ranks_past, put_past, ask_past, read_past}

-- ---- 1 and 2, of every call
pub record SetupRows (m N : ℕ) (tols : List ℕ) (k : ℕ) : Type 0 where
  -- m or N outside its range
  pub row_1 : k ≡ 1 ↔ (Sized m N → ⊥)
  -- a tolerance outside its range, or not larger than the one before
  pub row_2 : k ≡ 2 ↔ Sized m N × (Tolerances m tols → ⊥)

-- where the rows that follow give 0 or a number above 2
pub setup_rows : (m N : ℕ) (tols : List ℕ) {rest : ℕ → Type 0} {k : ℕ} → Above 2 rest → SetupNumber m N tols rest k → SetupRows m N tols k
setup_rows m N tols above h =
    let first = reached_row 1 (omega arith) (above_first 1 2 (omega arith) above) (reached_none h) in
    record { row_1 = (λ e. (first.0 e).1, λ n. first.1 (tt, n)); row_2 = reached_row 2 (omega arith) above (past_1 m N tols h) }

-- ---- 3 to 5, of every call on a trace, by what it is to be lent and what is to be stored
pub record TraceRows (a : Sizes) (Lent Stored : Type 0) (k : ℕ) : Type 0 where
  pub setup : SetupRows a.levels a.capacity a.tolerances k
  -- a lent buffer shorter than the call needs
  pub row_3 : k ≡ 3 ↔ (Sized a.levels a.capacity × Tolerances a.levels a.tolerances) × (Lent → ⊥)
  -- n greater than N
  pub row_4 : k ≡ 4 ↔ (Sized a.levels a.capacity × Tolerances a.levels a.tolerances × Lent) × (a.capacity < a.held)
  -- a stored coordinate out of range, a stored mark above 1 or, where a table is lent, a cell of a stretch i < j < n that is neither 65,535 nor
  -- from k to 1 + (k - 1) (j - i), or 65,535 for neighbours
  pub row_5 : k ≡ 5 ↔ (Sized a.levels a.capacity × Tolerances a.levels a.tolerances × Lent × (a.held ≤ a.capacity)) × (Stored → ⊥)

-- where the rows that follow give 0 or a number above 5
pub trace_rows : (a : Sizes) {Lent Stored : Type 0} {s t : Bool} → Decides Lent s → Decides Stored t → {rest : ℕ → Type 0} {k : ℕ} → Above 5 rest
    → TraceNumber a Lent Stored rest k → TraceRows a Lent Stored k
trace_rows a {Stored = Stored} lent stored {rest} above h =
    let above_4 : Above 4 (First 5 (Stored → ⊥) rest) = above_first 4 5 (omega arith) above in
    let above_3 = above_first 3 4 (omega arith) above_4 in
    record {
      setup = setup_rows a.levels a.capacity a.tolerances (above_first 2 3 (omega arith) above_3) h;
      row_3 = reached_row 3 (omega arith) above_3 (past_2 a.levels a.capacity a.tolerances h);
      row_4 = reached_row 4 (omega arith) above_4 (past_3 a lent stored h);
      row_5 = reached_row 5 (omega arith) above (past_4 a lent stored h);
    }

-- ---- start
pub record StartRows (m N : ℕ) (tols : List ℕ) (k : ℕ) : Type 0 where
  pub setup : SetupRows m N tols k
  -- every check passes
  pub row_0 : k ≡ 0 ↔ Sized m N × Tolerances m tols

pub start_rows : (m N : ℕ) (tols : List ℕ) {k : ℕ} → StartNumber m N tols k → StartRows m N tols k
start_rows m N tols h = record { setup = setup_rows m N tols (above_none 2) h; row_0 = reached_all (past_2 m N tols h) }

-- ---- put
pub record PutRows (a : Sizes) (xs : Samples) (t : List ℕ) (v : ℕ) (x : Sample) (k : ℕ) : Type 0 where
  pub trace : TraceRows a (LentSamples a xs × LentTable a t) (StoredSamples a xs × StoredCells a t) k
  -- a new coordinate out of range, or a new mark above 1
  pub row_6 : k ≡ 6 ↔ (Passed a xs × PassedTable a t) × (Valid x → ⊥)
  -- v = n = N
  pub row_7 : k ≡ 7 ↔ (Passed a xs × PassedTable a t × Valid x) × ((v ≡ a.held) × (a.held ≡ a.capacity))
  -- v above n
  pub row_8 : k ≡ 8 ↔ (Passed a xs × PassedTable a t × Valid x) × (a.held < v)
  -- every check passes
  pub row_0 : k ≡ 0 ↔ Passed a xs × PassedTable a t × Valid x × (v ≤ a.held) × (v < a.capacity)

pub put_rows : (a : Sizes) (xs : Samples) (t : List ℕ) (v : ℕ) (x : Sample) {k : ℕ} → PutNumber a xs t v x k → PutRows a xs t v x k
put_rows a xs t v x h =
    let eight = reached_row 8 (omega arith) (above_none 8) (reached_next 7 (omega arith) (sample_past a xs t x h)) in
    let above_7 : Above 7 (First 8 (a.held < v) Good) = above_first 7 8 (omega arith) (above_none 8) in
    let above_6 = above_first 6 7 (omega arith) above_7 in
    record {
      trace = trace_rows a (lent_table a xs t) (stored_decided a xs t) (above_first 5 6 (omega arith) above_6) h;
      row_6 = reached_row 6 (omega arith) above_6 (table_past a xs t h);
      row_7 = reached_row 7 (omega arith) above_7 (sample_past a xs t x h);
      row_8 = (λ e. let p = eight.0 e in (p.0.0, p.1), λ q. eight.1 ((q.0, λ e. omega (arith, q.1)), q.1));
      row_0 = reached_all (put_past a xs t v x h);
    }

-- ---- ask, which is lent no table
pub record AskRows (a : Sizes) (xs : Samples) (k i j : ℕ) (n : ℕ) : Type 0 where
  pub trace : TraceRows a (LentSamples a xs) (StoredSamples a xs) n
  -- no such stretch or level
  pub row_8 : n ≡ 8 ↔ Passed a xs × Absent a k i j
  -- every check passes
  pub row_0 : n ≡ 0 ↔ Passed a xs × (i < j) × (j < a.held) × (1 ≤ k) × (k ≤ a.levels)

pub ask_rows : (a : Sizes) (xs : Samples) (k i j : ℕ) {n : ℕ} → AskNumber a xs k i j n → AskRows a xs k i j n
ask_rows a xs k i j h =
    record {
      trace = trace_rows a (lent_samples a xs) (samples_decided xs a.held) (above_first 5 8 (omega arith) (above_none 8)) h;
      row_8 = reached_row 8 (omega arith) (above_none 8) (samples_past a xs h);
      row_0 = reached_all (ask_past a xs k i j h);
    }

-- ---- read, which is lent the ranks as well
pub record ReadRows (a : Sizes) (xs : Samples) (t ranks : List ℕ) (k : ℕ) : Type 0 where
  pub trace : TraceRows a (LentSamples a xs × LentTable a t × (a.held ≤ length ranks)) (StoredSamples a xs × StoredCells a t) k
  -- n below 2
  pub row_9 : k ≡ 9 ↔ (Passed a xs × PassedTable a t × (a.held ≤ length ranks)) × (a.held < 2)
  -- every check passes
  pub row_0 : k ≡ 0 ↔ Passed a xs × PassedTable a t × (a.held ≤ length ranks) × (2 ≤ a.held)

pub read_rows : (a : Sizes) (xs : Samples) (t ranks : List ℕ) {k : ℕ} → ReadNumber a xs t ranks k → ReadRows a xs t ranks k
read_rows a xs t ranks h =
    record {
      trace = trace_rows a (lent_ranks a xs t ranks) (stored_decided a xs t) (above_first 5 9 (omega arith) (above_none 9)) h;
      row_9 = reached_row 9 (omega arith) (above_none 9) (ranks_past a xs t ranks h);
      row_0 = reached_all (read_past a xs t ranks h);
    }
