-- What holds once a call is not refused: what the rest of every call, and every theorem about calls, may use. Assumes nothing.
use mathlib.Core.Path.{◌≡◌, refl, ap}
use mathlib.Core.Logic.{inl, ◌↔◌}
use mathlib.Core.Bool.{Bool}
use mathlib.Core.List.{List}
use Prim.Native.Nat.{ℕ, ◌≤◌, ◌<◌}
use native.Mathlib.Nat.{le_trans, lt_of_not-le}
use native.Mathlib.Numerals.{lt_of_le_of_ne}
use native.Mathlib.Omega.{arith}
use lib.ListN.{length}
use Rattle.std.specs.Prelude.{Ok}
use Rattle.refusal.specs.Number.{code}
use Rattle.refusal.specs.Check.{Decides, First}
use Rattle.refusal.proofs.Rows.{Reached, reached_none, reached_as, reached_next, reached_more, reached_unless, reached_all, code_one}
use Rattle.sample.specs.declared.Sample.{Sample}
use Rattle.sample.specs.Samples.{Samples}
use Rattle.sample.specs.Sweep.{Ranged}
use Rattle.sizes.specs.declared.Sizes.{Sizes}
use Rattle.sample.specs.Valid.{Valid}
use Rattle.sizes.specs.Setup.{Sized, Tolerances, SetupNumber}
use Rattle.checks.specs.Numbers.{LentSamples, LentTable, StoredSamples, StoredCells, Good, TraceNumber, StartNumber, PutNumber, AskNumber, ReadNumber}
use Rattle.checks.specs.Rows.{trace_outcome, Passed, PassedTable}
use Rattle.sample.proofs.Decided.{samples_decided, sample_decided}
use Rattle.sizes.proofs.Decided.{setup_decided, tolerances_decided}
use Rattle.checks.proofs.Decided.{lent_samples, lent_table, lent_ranks, stored_decided, not_both, there}
use Rattle.checks.proofs.Numbers.{trace_number}

-- ---- how far a call came, by its number: past checks 1 and 2
module _ (m N : ℕ) (tols : List ℕ) {rest : ℕ → Type 0} {k : ℕ} (h : SetupNumber m N tols rest k) where
  pub past_1 : Reached (Sized m N) 1 (First 2 (Tolerances m tols → ⊥) rest) k
  past_1 = reached_unless 1 (omega arith) _ (setup_decided m N) (λ p. p.1, λ q. (tt, q)) (reached_none h)

  pub past_2 : Reached (Sized m N × Tolerances m tols) 2 rest k
  past_2 = reached_unless 2 (omega arith) _ (tolerances_decided m tols) (λ p. p, λ q. q) past_1

-- past 3 to 5, by the tests of what is lent and what is stored
module _ (a : Sizes) {Lent Stored : Type 0} {s t : Bool} (lent : Decides Lent s) (stored : Decides Stored t) {rest : ℕ → Type 0} {k : ℕ} (h : TraceNumber a Lent Stored rest k) where
  pub past_3 : Reached (Sized a.levels a.capacity × Tolerances a.levels a.tolerances × Lent) 3 (First 4 (a.capacity < a.held) (First 5 (Stored → ⊥) rest)) k
  past_3 = reached_unless 3 (omega arith) s lent (λ p. (p.0.0, p.0.1, p.1), λ q. ((q.0, q.1), q.2)) (past_2 a.levels a.capacity a.tolerances h)

  pub past_4 : Reached (Sized a.levels a.capacity × Tolerances a.levels a.tolerances × Lent × (a.held ≤ a.capacity)) 4 (First 5 (Stored → ⊥) rest) k
  past_4 = reached_more 4 (omega arith) (λ p. (p.0.0, p.0.1, p.0.2, omega (arith, lt_of_not-le p.1)), λ q. ((q.0, q.1, q.2), λ l. omega (arith, q.3))) past_3

  pub past_5 : Reached (Sized a.levels a.capacity × Tolerances a.levels a.tolerances × Lent × (a.held ≤ a.capacity) × Stored) 5 rest k
  past_5 = reached_unless 5 (omega arith) t stored (λ p. (p.0.0, p.0.1, p.0.2, p.0.3, p.1), λ q. ((q.0, q.1, q.2, q.3), q.4)) past_4

-- and past the last, of each call: ask is lent no table, and read the ranks as well
module _ (a : Sizes) (xs : Samples) where
  pub samples_past : {rest : ℕ → Type 0} {k : ℕ} → TraceNumber a (LentSamples a xs) (StoredSamples a xs) rest k → Reached (Passed a xs) 5 rest k
  samples_past h =
      reached_as
      (λ p. record { sized = p.0; tolerances = p.1; lent = p.2; held = p.3; stored = p.4 }, λ q. (q.sized, q.tolerances, q.lent, q.held, q.stored))
      (past_5 a (lent_samples a xs) (samples_decided xs a.held) h)

  pub ask_past : {n : ℕ} (k i j : ℕ) → AskNumber a xs k i j n → Reached (Passed a xs × (i < j) × (j < a.held) × (1 ≤ k) × (k ≤ a.levels)) 8 Good n
  ask_past k i j h = reached_more 8 (omega arith) (λ p. let s = there a k i j p.1 in (p.0, s.0, s.1, s.2, s.3), λ q. (q.0, λ n. not_both a k i j n (q.1, q.2, q.3, q.4))) (samples_past h)

  module _ (t : List ℕ) where
    pub table_past : {rest : ℕ → Type 0} {k : ℕ} → TraceNumber a (LentSamples a xs × LentTable a t) (StoredSamples a xs × StoredCells a t) rest k
        → Reached (Passed a xs × PassedTable a t) 5 rest k
    table_past h =
        reached_as (
          λ p. (record { sized = p.0; tolerances = p.1; lent = p.2.0; held = p.3; stored = p.4.0 }, record { room = p.2.1; cells = p.4.1 }),
          λ q. (q.0.sized, q.0.tolerances, (q.0.lent, q.1.room), q.0.held, (q.0.stored, q.1.cells)),
        )
        (past_5 a (lent_table a xs t) (stored_decided a xs t) h)

    pub sample_past : {rest : ℕ → Type 0} {k : ℕ} (x : Sample)
        → TraceNumber a (LentSamples a xs × LentTable a t) (StoredSamples a xs × StoredCells a t) (First 6 (Valid x → ⊥) rest) k
        → Reached (Passed a xs × PassedTable a t × Valid x) 6 rest k
    sample_past x h =
        reached_unless 6 (omega arith) _ (sample_decided x) (λ p. (p.0.0, p.0.1, p.1), λ q. ((q.0, q.1), q.2)) (table_past h)

    -- past 7 and 8 there is a place v
    pub put_past : {k : ℕ} (v : ℕ) (x : Sample) → PutNumber a xs t v x k
        → Reached (Passed a xs × PassedTable a t × Valid x × (v ≤ a.held) × (v < a.capacity)) 8 Good k
    put_past v x h =
        reached_more 8 (omega arith) (
          λ p.
              let P = p.0.0 in
              let o : v ≤ a.held = omega (arith, lt_of_not-le p.1) in
              (P.0, P.1, P.2, o, lt_of_le_of_ne (le_trans o P.0.held) (λ e. p.0.1 (omega (arith, P.0.held), omega (arith, P.0.held)))),
          λ q. (((q.0, q.1, q.2), λ e. omega (arith, q.4)), λ l. omega (arith, q.3)),
        )
        (reached_next 7 (omega arith) (sample_past x h))

    pub ranks_past : {k : ℕ} (ranks : List ℕ) → ReadNumber a xs t ranks k → Reached (Passed a xs × PassedTable a t × (a.held ≤ length ranks)) 5 (First 9 (a.held < 2) Good) k
    ranks_past ranks h =
        reached_as (
          λ p. (record { sized = p.0; tolerances = p.1; lent = p.2.0; held = p.3; stored = p.4.0 }, record { room = p.2.1; cells = p.4.1 }, p.2.2),
          λ q. (q.0.sized, q.0.tolerances, (q.0.lent, q.1.room, q.2), q.0.held, (q.0.stored, q.1.cells)),
        )
        (past_5 a (lent_ranks a xs t ranks) (stored_decided a xs t) h)

    pub read_past : {k : ℕ} (ranks : List ℕ) → ReadNumber a xs t ranks k → Reached (Passed a xs × PassedTable a t × (a.held ≤ length ranks) × (2 ≤ a.held)) 9 Good k
    read_past ranks h =
        reached_more 9 (omega arith) (λ p. (p.0.0, p.0.1, p.0.2, omega (arith, lt_of_not-le p.1)), λ q. ((q.0, q.1, q.2), λ l. omega (arith, q.3))) (ranks_past ranks h)

-- ---- what number 0 gives
pub start_passed : (m N : ℕ) (tols : List ℕ) → StartNumber m N tols 0 → Sized m N × Tolerances m tols
start_passed m N tols h = (past_2 m N tols {rest = Good} h).passed (inl refl)

-- the row of 1 to 5 ends in Ok exactly when they have passed
pub trace_passed : (a : Sizes) (xs : Samples) (t : List ℕ) → trace_outcome a xs t ≡ Ok tt ↔ Passed a xs × PassedTable a t
trace_passed a xs t =
    let f = reached_all (table_past a xs t {rest = Good} (trace_number a xs t)) in
    (λ e. f.0 (ap code e), λ p. code_one _ (Ok tt) (f.1 p))

pub put_passed : (a : Sizes) (xs : Samples) (t : List ℕ) (v : ℕ) (x : Sample) → PutNumber a xs t v x 0
    → Passed a xs × PassedTable a t × Valid x × (v ≤ a.held) × (v < a.capacity)
put_passed a xs t v x h = (put_past a xs t v x h).passed (inl refl)

pub ask_passed : (a : Sizes) (xs : Samples) (k i j : ℕ) → AskNumber a xs k i j 0 → Passed a xs × (i < j) × (j < a.held) × (1 ≤ k) × (k ≤ a.levels)
ask_passed a xs k i j h = (ask_past a xs k i j h).passed (inl refl)

pub read_passed : (a : Sizes) (xs : Samples) (t ranks : List ℕ) → ReadNumber a xs t ranks 0
    → Passed a xs × PassedTable a t × (a.held ≤ length ranks) × (2 ≤ a.held)
read_passed a xs t ranks h = (read_past a xs t ranks h).passed (inl refl)

-- the samples held are in range
pub in_range : {a : Sizes} {xs : Samples} → Passed a xs → Ranged xs a.held
in_range P = record {
  across = record { held = le_trans P.held P.lent.0; each = λ q l. (P.stored q l).0 };
  up = record { held = le_trans P.held P.lent.1; each = λ q l. (P.stored q l).1 };
}
