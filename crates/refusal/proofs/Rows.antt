-- Rows: that a row of tests gives the number of the row of plain statements, that these leave no choice, and exactly when each number is given. Assumes nothing.
use mathlib.Core.Path.{◌≡◌, refl, sym, ap, subst, ◌∙◌}
use mathlib.Core.Logic.{◌⊎◌, inl, inr, ⊎_elim, ◌↔◌}
use mathlib.Core.Bool.{Bool, true, false}
use mathlib.Core.List.{[], ◌∷◌}
use Prim.Native.Nat.{ℕ, ◌-◌, ◌<◌}
use native.Mathlib.Omega.{arith}
use lib.ListN.{get_or}
use Rattle.refusal.specs.declared.Refusal.{Refusal}
use Rattle.refusal.specs.declared.Refusal.TheVariants.{Setup, Tolerance, Buffer, Held, Stored, Coordinate, Full, Missing, Few, Length, Record}
use Rattle.refusal.specs.Number.{Outcome, number, code}
use Rattle.std.specs.Prelude.{Ok, Err}
use Rattle.refusal.specs.Check.{need, unless, and_then, Decides, First}
use Rattle.refusal.proofs.Plain.{not_refuted}

-- ---- numbers
-- no refusal has the number 0
pub numbered : (r : Refusal) → number r ≡ 0 → ⊥
numbered Setup h = omega arith
numbered Tolerance h = omega arith
numbered Buffer h = omega arith
numbered Held h = omega arith
numbered Stored h = omega arith
numbered Coordinate h = omega arith
numbered Full h = omega arith
numbered Missing h = omega arith
numbered Few h = omega arith
numbered Length h = omega arith
numbered Record h = omega arith

-- no two refusals have one number, and no two outcomes
the_one : ℕ → Refusal
the_one k = get_or (Setup ∷ Tolerance ∷ Buffer ∷ Held ∷ Stored ∷ Coordinate ∷ Full ∷ Missing ∷ Few ∷ Length ∷ Record ∷ []) (k - 1) Setup

one_number : (r : Refusal) → the_one (number r) ≡ r
unfolding the_one
one_number Setup = refl
one_number Tolerance = refl
one_number Buffer = refl
one_number Held = refl
one_number Stored = refl
one_number Coordinate = refl
one_number Full = refl
one_number Missing = refl
one_number Few = refl
one_number Length = refl
one_number Record = refl

pub number_one : (r q : Refusal) → number r ≡ number q → r ≡ q
number_one r q h = sym (one_number r) ∙ ap the_one h ∙ one_number q

pub code_one : (o p : Outcome) → code o ≡ code p → o ≡ p
code_one (Ok _) (Ok _) h = refl
code_one (Ok _) (Err q) h = absurd (numbered q (sym h))
code_one (Err r) (Ok _) h = absurd (numbered r h)
code_one (Err r) (Err q) h = ap Err (number_one r q h)

-- a call is carried out or refused
pub by_outcome : {A : Type 0} (o : Outcome) → (o ≡ Ok tt → A) → ((r : Refusal) → o ≡ Err r → A) → A
by_outcome (Ok _) d f = d refl
by_outcome (Err r) d f = f r refl

-- ---- one row
-- a row of tests shows the row of statements, by what a passing and a failing test say of P
pub first_row : {P : Type 0} (b : Bool) (r : Refusal) (o : Outcome) (rest : ℕ → Type 0)
    → (b ≡ true → P → ⊥) → (b ≡ false → P) → rest (code o) → First (number r) P rest (code (need b (Err r) o))
first_row true r o rest passed failed h = inr (passed refl, h)
first_row false r o rest passed failed h = inl (failed refl, refl)

-- and the row of statements leaves no choice
pub first_one : (num : ℕ) (P : Type 0) (rest : ℕ → Type 0) → ((j k : ℕ) → rest j → rest k → j ≡ k) → (j k : ℕ) → First num P rest j → First num P rest k → j ≡ k
first_one num P rest one j k x y =
    ⊎_elim
    (λ a. ⊎_elim (λ b. a.1 ∙ sym b.1) (λ b. absurd (b.0 a.0)) y)
    (λ a. ⊎_elim (λ b. absurd (a.0 b.0)) (λ b. one j k a.1 b.1) y)
    x

-- a statement that holds gives its number
pub first_taken : {num k : ℕ} {P R : Type 0} → P → First num P (λ j. R) k → k ≡ num
first_taken p f = ⊎_elim (λ a. a.1) (λ a. absurd (a.0 p)) f

-- a statement that fails is passed over
pub first_passed : {num k : ℕ} {P R : Type 0} → (P → ⊥) → First num P (λ j. R) k → R
first_passed n f = ⊎_elim (λ a. absurd (n a.0)) (λ a. a.1) f

-- a statement's number is given exactly when it holds, where the later ones do not give it
pub first_is : {num k : ℕ} {P R : Type 0} → (R → k ≡ num → ⊥) → First num P (λ j. R) k → k ≡ num ↔ P
first_is off f = (λ e. ⊎_elim (λ a. a.0) (λ a. absurd (off a.1 e)) f, λ p. first_taken p f)

-- past the last statement 0 is given exactly when it does not hold
pub first_none : {num k : ℕ} {P : Type 0} → (num ≡ 0 → ⊥) → First num P (λ j. k ≡ 0) k → k ≡ 0 ↔ (P → ⊥)
first_none some f = (λ e. ⊎_elim (λ a. absurd (some (sym a.1 ∙ e))) (λ a. a.0) f, λ n. first_passed n f)

-- and a later one's exactly when this one fails and that one's time has come: here this one refuses unless Q holds
pub first_later : {num other k : ℕ} {Q R S : Type 0} (b : Bool) → Decides Q b → (num ≡ other → ⊥) → (R → k ≡ other ↔ S) → First num (Q → ⊥) (λ j. R) k → k ≡ other ↔ Q × S
first_later b d apart later f = (
  λ e. ⊎_elim (λ a. absurd (apart (sym a.1 ∙ e))) (λ a. (not_refuted b d a.0, (later a.1).0 e)) f,
  λ q. (later (first_passed (λ n. n q.0) f)).1 q.1,
)

-- what holds of the number of a statement, and of the number that the later ones give, holds of the number given
pub first_has : {num k : ℕ} {P R : Type 0} (Q : ℕ → Type 0) → Q num → (R → Q k) → First num P (λ j. R) k → Q k
first_has Q q more f = ⊎_elim (λ a. subst Q (sym a.1) q) (λ a. more a.1) f

-- rows of equivalent statements give one number: of two that refuse where P or Q holds, and of two that refuse unless it does
pub first_same : {num k : ℕ} {P Q R S : Type 0} → P ↔ Q → (R → S) → First num P (λ j. R) k → First num Q (λ j. S) k
first_same f more h = ⊎_elim (λ a. inl (f.0 a.0, a.1)) (λ a. inr (λ q. a.0 (f.1 q), more a.1)) h

pub first_unless : {num k : ℕ} {P Q R S : Type 0} → P ↔ Q → (R → S) → First num (P → ⊥) (λ j. R) k → First num (Q → ⊥) (λ j. S) k
first_unless f more h = first_same (λ n q. n (f.1 q), λ n p. n (f.0 p)) more h

-- ---- rows one after another: the tests of o show the statements of S, whatever follows them
pub record Row (o : Outcome) (S : (ℕ → Type 0) → ℕ → Type 0) : Type 1 where
  pub gives : (rest : ℕ → Type 0) (q : Outcome) → (o ≡ Ok tt → rest (code q)) → S rest (code (and_then o q))

-- one test, by what it says of P where it passes and where it fails
pub test_row : {P : Type 0} (b : Bool) (r : Refusal) → (b ≡ true → P → ⊥) → (b ≡ false → P) → Row (unless b r) (λ rest. First (number r) P rest)
test_row true r passed failed = record { gives = λ rest q h. inr (passed refl, h refl) }
test_row false r passed failed = record { gives = λ rest q h. inl (failed refl, refl) }

-- one that refuses unless P holds
pub unless_row : {P : Type 0} (b : Bool) (r : Refusal) → Decides P b → Row (unless b r) (λ rest. First (number r) (P → ⊥) rest)
unless_row b r d = test_row b r (λ e n. n (d.right e)) d.wrong

-- and then another row, which may use that the first was passed
pub then_row : {S T : (ℕ → Type 0) → ℕ → Type 0} (o p : Outcome) → Row o S → (o ≡ Ok tt → Row p T) → Row (and_then o p) (λ rest. S (T rest))
then_row {T = T} (Ok tt) p R Q = record { gives = λ rest q h. R.gives (T rest) (and_then p q) (λ e. (Q e).gives rest q h) }
then_row {T = T} (Err r) p R Q = record { gives = λ rest q h. R.gives (T rest) (and_then p q) (λ e. absurd (numbered r (ap code e))) }

-- a whole row gives its number, and 0 where every test passes
pub row_number : (o : Outcome) (S : (ℕ → Type 0) → ℕ → Type 0) → Row o S → S (λ k. k ≡ 0) (code o)
row_number (Ok _) S R = R.gives (λ k. k ≡ 0) (Ok tt) (λ e. refl)
row_number (Err r) S R = R.gives (λ k. k ≡ 0) (Ok tt) (λ e. refl)

-- ---- exactly when a number is given
-- 0, or a number above n
abbrev pub Later : ℕ → ℕ → Type 0
Later n k = (k ≡ 0) ⊎ (n < k)

later_less : {n num k : ℕ} → n < num → Later num k → Later n k
later_less o (inl e) = inl e
later_less o (inr l) = inr (omega arith)

later_not : {n num k : ℕ} → n < num → Later num k → k ≡ num → ⊥
later_not o (inl z) e = omega arith
later_not o (inr l) e = omega arith

-- later rules that give no other
abbrev pub Above : ℕ → (ℕ → Type 0) → Type 0
Above n rest = (k : ℕ) → rest k → Later n k

pub above_none : (n : ℕ) → Above n (λ k. k ≡ 0)
above_none n k e = inl e

pub above_first : {P : Type 0} {rest : ℕ → Type 0} (n num : ℕ) → n < num → Above num rest → Above n (First num P rest)
above_first n num o later k h = ⊎_elim (λ a. inr (omega (arith, a.1))) (λ a. later_less o (later k a.1)) h

-- k is 0 or above n only where K holds, which says that the checks up to n have passed; and where K holds, k is as the rest of the row says
pub record Reached (K : Type 0) (n : ℕ) (rest : ℕ → Type 0) (k : ℕ) : Type 0 where
  pub passed : Later n k → K
  pub next : K → rest k

pub reached_none : {rest : ℕ → Type 0} {k : ℕ} → rest k → Reached (Unit {0}) 0 rest k
reached_none h = record { passed = λ l. tt; next = λ u. h }

pub reached_as : {K L : Type 0} {rest : ℕ → Type 0} {n k : ℕ} → K ↔ L → Reached K n rest k → Reached L n rest k
reached_as f R = record { passed = λ l. f.0 (R.passed l); next = λ q. R.next (f.1 q) }

-- past the next row its statement does not hold
pub reached_next : {K P : Type 0} {rest : ℕ → Type 0} {n k : ℕ} (num : ℕ) → n < num → Reached K n (First num P rest) k → Reached (K × (P → ⊥)) num rest k
reached_next num o R = record {
  passed = λ l. let p = R.passed (later_less o l) in (p, ⊎_elim (λ a. absurd (later_not o l a.1)) (λ a. a.0) (R.next p));
  next = λ p. ⊎_elim (λ a. absurd (p.1 a.0)) (λ a. a.1) (R.next p.0);
}

-- in other words: L says K and that
pub reached_more : {K L P : Type 0} {rest : ℕ → Type 0} {n k : ℕ} (num : ℕ) → n < num → K × (P → ⊥) ↔ L → Reached K n (First num P rest) k → Reached L num rest k
reached_more num o f R = reached_as f (reached_next num o R)

-- past a row that refuses unless Q holds: L says K and Q
pub reached_unless : {K L Q : Type 0} {rest : ℕ → Type 0} {n k : ℕ} (num : ℕ) → n < num → (b : Bool) → Decides Q b → K × Q ↔ L
    → Reached K n (First num (Q → ⊥) rest) k → Reached L num rest k
reached_unless num o b d f R = reached_more num o (λ p. f.0 (p.0, not_refuted b d p.1), λ q. let p = f.1 q in (p.0, λ n. n p.1)) R

-- the number of the next row is given exactly when the checks before it have passed and its statement holds
pub reached_row : {K P : Type 0} {rest : ℕ → Type 0} {n k : ℕ} (num : ℕ) → n < num → Above num rest → Reached K n (First num P rest) k → k ≡ num ↔ K × P
reached_row {k = k} num o later R = (
  λ e. let p = R.passed (inr (omega arith)) in (p, ⊎_elim (λ a. a.0) (λ a. absurd (later_not o (later k a.1) e)) (R.next p)),
  λ q. ⊎_elim (λ a. a.1) (λ a. absurd (a.0 q.1)) (R.next q.0),
)

-- and 0 exactly when every check has passed
pub reached_all : {K : Type 0} {n k : ℕ} → Reached K n (λ j. j ≡ 0) k → k ≡ 0 ↔ K
reached_all R = (λ e. R.passed (inl e), R.next)
