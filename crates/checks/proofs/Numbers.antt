-- Each row of tests gives the number that the plain statements say, and these leave no choice. Assumes nothing.
use mathlib.Core.Path.{◌≡◌, refl, sym, ◌∙◌}
use mathlib.Core.Logic.{inl, inr}
use mathlib.Core.Bool.{Bool, true, false, cond}
use mathlib.Core.List.{List}
use Prim.Native.Nat.{ℕ, ◌≤◌, ◌<◌}
use native.Mathlib.Numerals.{lt_of_le_of_ne}
use native.Mathlib.Omega.{arith}
use lib.Dec.{leb, ltb, eqb}
use lib.ListN.{length}
use borrow.Author.Tests.{leb-true, leb-false, ltb-true, ltb-false, eqb-true, eqb-false}
use Rattle.refusal.specs.declared.Refusal.TheVariants.{Buffer, Held, Stored, Coordinate, Full, Missing, Few}
use Rattle.refusal.specs.declared.Refusal.{Refusal}
use Rattle.std.specs.Prelude.{Ok, Err}
use Rattle.refusal.specs.Number.{number, code}
use Rattle.refusal.specs.Check.{unless, Decides, First}
use Rattle.refusal.proofs.Laws.{then_done}
use Rattle.refusal.proofs.Rows.{first_one, Row, test_row, unless_row, then_row, row_number}
use Rattle.sample.specs.declared.Sample.{Sample}
use Rattle.sample.specs.Samples.{Samples}
use Rattle.sizes.specs.declared.Sizes.{Sizes}
use Rattle.sample.specs.Valid.{Valid}
use Rattle.sizes.specs.Setup.{SetupNumber}
use Rattle.checks.specs.Numbers.{LentSamples, LentTable, StoredSamples, StoredCells, TraceNumber, PlaceNumber, Good, StartNumber, PutNumber, AskNumber, ReadNumber}
use Rattle.sizes.specs.Rows.{setup_outcome}
use Rattle.checks.specs.Rows.{lent_outcome, samples_outcome, stored_outcome, trace_outcome, place_outcome, sample_outcome, put_outcome, ask_outcome, read_outcome}
use Rattle.sample.proofs.Decided.{samples_decided, sample_decided}
use Rattle.sizes.proofs.Decided.{setup_row}
use Rattle.checks.proofs.Decided.{lent_samples, lent_table, lent_ranks, stored_decided, there_decided, absent, not_both}
use Rattle.checks.proofs.Checks.{lent_done}

-- ---- the shared rows: 1 and 2, 1 to 4, 1 to 5
pub held_row : (a : Sizes) {Lent : Type 0} (lent : Bool) → Decides Lent lent
    → Row (lent_outcome a lent) (λ rest. SetupNumber a.levels a.capacity a.tolerances (First 3 (Lent → ⊥) (First 4 (a.capacity < a.held) rest)))
unfolding lent_outcome
held_row a lent d =
    then_row _ _ (setup_row a.levels a.capacity a.tolerances)
    (λ e. then_row _ _ (unless_row _ Buffer d)
    (λ f. test_row (leb a.held a.capacity) Held (λ t l. omega (arith, leb-true a.held a.capacity t)) (leb-false a.held a.capacity)))

pub samples_row : (a : Sizes) (xs : Samples) → Row (samples_outcome a xs) (TraceNumber a (LentSamples a xs) (StoredSamples a xs))
unfolding samples_outcome
samples_row a xs = then_row _ _ (held_row a _ (lent_samples a xs)) (λ e. unless_row _ Stored (samples_decided xs a.held))

pub stored_row : (a : Sizes) {Lent : Type 0} (long : Bool) → Decides Lent long → (xs : Samples) (t : List ℕ)
    → Row (stored_outcome a long xs t) (TraceNumber a Lent (StoredSamples a xs × StoredCells a t))
unfolding stored_outcome
stored_row a long d xs t = then_row _ _ (held_row a long d) (λ e. unless_row _ Stored (stored_decided a xs t))

pub trace_row : (a : Sizes) (xs : Samples) (t : List ℕ) → Row (trace_outcome a xs t) (TraceNumber a (LentSamples a xs × LentTable a t) (StoredSamples a xs × StoredCells a t))
unfolding trace_outcome
trace_row a xs t = stored_row a _ (lent_table a xs t) xs t

-- past check 4 no more samples are held than there is room for
pub held_within : (a : Sizes) (xs : Samples) (t : List ℕ) → trace_outcome a xs t ≡ Ok tt → a.held ≤ a.capacity
unfolding trace_outcome stored_outcome
held_within a xs t e = (lent_done a _ (then_done _ _ e).0).held

-- 7 and 8, where that is so
pub place_row : (a : Sizes) (v : ℕ) → a.held ≤ a.capacity → Row (place_outcome a v) (PlaceNumber a v)
unfolding place_outcome
place_row a v h =
    by (eqb v n) (ltb n N) (ltb v n) (eqb-true v n) (eqb-false v n) (ltb-true n N) (ltb-false n N) (ltb-true v n) (ltb-false v n)
  where
    n : ℕ
    n = a.held

    N : ℕ
    N = a.capacity

    by : (next room old : Bool) → (next ≡ true → v ≡ n) → (next ≡ false → v ≡ n → ⊥) → (room ≡ true → n < N) → (room ≡ false → N ≤ n) → (old ≡ true → v < n) → (old ≡ false → n ≤ v)
        → Row (cond next (unless room Full) (unless old Missing)) (PlaceNumber a v)
    by true true old e d r f o g = record { gives = λ rest q k. inr (λ p. omega (arith, r refl), inr (λ l. omega (arith, e refl), k refl)) }
    by true false old e d r f o g = record { gives = λ rest q k. inl ((e refl, omega (arith, f refl)), refl) }
    by false room true e d r f o g = record { gives = λ rest q k. inr (λ p. d refl p.0, inr (λ l. omega (arith, o refl), k refl)) }
    by false room false e d r f o g = record { gives = λ rest q k. inr (λ p. d refl p.0, inl (lt_of_le_of_ne (g refl) (λ z. d refl (sym z)), refl)) }

-- 6 to 8
pub sample_row : (a : Sizes) (v : ℕ) (x : Sample) → a.held ≤ a.capacity → Row (sample_outcome a v x) (λ rest. First 6 (Valid x → ⊥) (PlaceNumber a v rest))
unfolding sample_outcome
sample_row a v x h = then_row _ _ (unless_row _ Coordinate (sample_decided x)) (λ f. place_row a v h)

-- ---- each call
pub trace_number : (a : Sizes) (xs : Samples) (t : List ℕ) → TraceNumber a (LentSamples a xs × LentTable a t) (StoredSamples a xs × StoredCells a t) Good (code (trace_outcome a xs t))
trace_number a xs t = row_number _ _ (trace_row a xs t)

pub start_number : (m N : ℕ) (tols : List ℕ) → StartNumber m N tols (code (setup_outcome m N tols))
start_number m N tols = row_number _ _ (setup_row m N tols)

pub put_number : (a : Sizes) (xs : Samples) (t : List ℕ) (v : ℕ) (x : Sample) → PutNumber a xs t v x (code (put_outcome a xs t v x))
unfolding put_outcome
put_number a xs t v x =
    row_number _ _ (then_row _ _ (trace_row a xs t) (λ e. sample_row a v x (held_within a xs t e)))

-- where 1 to 5 refuse, so is the call
pub put_stopped : (a : Sizes) (xs : Samples) (t : List ℕ) (v : ℕ) (x : Sample) {why : Refusal} → trace_outcome a xs t ≡ Err why → PutNumber a xs t v x (number why)
unfolding put_outcome
put_stopped a xs t v x h = rw h at (put_number a xs t v x)

pub ask_number : (a : Sizes) (xs : Samples) (k i j : ℕ) → AskNumber a xs k i j (code (ask_outcome a xs k i j))
unfolding ask_outcome
ask_number a xs k i j =
    row_number _ _
    (then_row _ _ (samples_row a xs) (λ e. test_row _ Missing (λ b n. not_both a k i j n ((there_decided a k i j).right b)) (absent a k i j)))

pub read_number : (a : Sizes) (xs : Samples) (t ranks : List ℕ) → ReadNumber a xs t ranks (code (read_outcome a xs t (length ranks)))
unfolding read_outcome
read_number a xs t ranks =
    row_number _ _
    (then_row _ _ (stored_row a _ (lent_ranks a xs t ranks) xs t)
    (λ e. test_row _ Few (λ b l. omega (arith, leb-true 2 a.held b)) (leb-false 2 a.held)))

-- ---- two numbers that one of the statements gives are equal
pub good_one : (j k : ℕ) → Good j → Good k → j ≡ k
good_one j k x y = x ∙ sym y

pub setup_one : (m N : ℕ) (tols : List ℕ) (rest : ℕ → Type 0) → ((j k : ℕ) → rest j → rest k → j ≡ k) → (j k : ℕ) → SetupNumber m N tols rest j → SetupNumber m N tols rest k → j ≡ k
setup_one m N tols rest one = first_one 1 _ _ (first_one 2 _ rest one)

pub trace_one : (a : Sizes) (Lent Saved : Type 0) (rest : ℕ → Type 0) → ((j k : ℕ) → rest j → rest k → j ≡ k)
    → (j k : ℕ) → TraceNumber a Lent Saved rest j → TraceNumber a Lent Saved rest k → j ≡ k
trace_one a Lent Saved rest one =
    setup_one a.levels a.capacity a.tolerances _ (first_one 3 _ _ (first_one 4 _ _ (first_one 5 _ rest one)))

pub start_number_one : (m N : ℕ) (tols : List ℕ) (j k : ℕ) → StartNumber m N tols j → StartNumber m N tols k → j ≡ k
start_number_one m N tols = setup_one m N tols Good good_one

pub put_number_one : (a : Sizes) (xs : Samples) (t : List ℕ) (v : ℕ) (x : Sample) (j k : ℕ) → PutNumber a xs t v x j → PutNumber a xs t v x k → j ≡ k
put_number_one a xs t v x = trace_one a _ _ _ (first_one 6 _ _ (first_one 7 _ _ (first_one 8 _ Good good_one)))

pub ask_number_one : (a : Sizes) (xs : Samples) (l i j : ℕ) (p q : ℕ) → AskNumber a xs l i j p → AskNumber a xs l i j q → p ≡ q
ask_number_one a xs l i j = trace_one a _ _ _ (first_one 8 _ Good good_one)

pub read_number_one : (a : Sizes) (xs : Samples) (t ranks : List ℕ) (j k : ℕ) → ReadNumber a xs t ranks j → ReadNumber a xs t ranks k → j ≡ k
read_number_one a xs t ranks = trace_one a _ _ _ (first_one 9 _ Good good_one)
