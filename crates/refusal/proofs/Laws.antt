-- Laws of the tests: of `&&`, of `all_below`, of a row of tests. Assumes nothing.
use mathlib.Core.Path.{◌≡◌, refl, sym, ap, subst, ◌∙◌}
use mathlib.Core.Logic.{◌⊎◌, inl, inr, ⊎_elim}
use mathlib.Core.Bool.{Bool, true, false, ◌&&◌, true≢false}
use mathlib.Core.List.{List}
use Prim.Native.Nat.{ℕ, zero, suc, ◌+◌, ◌≤◌, ◌<◌, zero-le}
use native.Mathlib.Nat.{not-suc-le-zero, le_of_suc-le-suc, eq-or-lt_of_le}
use native.Mathlib.Numerals.{add-one}
use native.Mathlib.Omega.{arith}
use lib.ListN.{length, get_or, take}
use borrow.Author.Count.{below_more}
use Rattle.std.specs.List.{list_all}
use Rattle.std.proofs.lemmas.List.Folds.{list_all_more}
use Rattle.refusal.specs.declared.Refusal.{Refusal}
use Rattle.refusal.specs.Number.{Outcome}
use Rattle.std.specs.Prelude.{Ok, Err}
use Rattle.refusal.specs.Check.{need, unless, and_then, all_below}

pub and_yes : {a b : Bool} → a ≡ true → b ≡ true → a && b ≡ true
and_yes p q = simp (p, q)

pub and_false : (a : Bool) → a && false ≡ false
and_false true = refl
and_false false = refl

pub and_no_left : {a : Bool} (b : Bool) → a ≡ false → a && b ≡ false
and_no_left b p = simp p

pub and_no_right : (a : Bool) {b : Bool} → b ≡ false → a && b ≡ false
and_no_right true p = p
and_no_right false p = refl

pub and_left : (a b : Bool) → a && b ≡ true → a ≡ true
and_left true b p = refl
and_left false b p = p

pub and_right : (a b : Bool) → a && b ≡ true → b ≡ true
and_right true b p = p
and_right false b p = absurd (true≢false (sym p))

-- a conjunction that fails has a part that does
pub and_fails : (a b : Bool) → a && b ≡ false → (a ≡ false) ⊎ (b ≡ false)
and_fails true b h = inr h
and_fails false b h = inl refl

pub all_yes : (n : ℕ) (f : ℕ → Bool) → ((k : ℕ) → k < n → f k ≡ true) → all_below n f ≡ true
unfolding all_below
all_yes zero f h = refl
all_yes (suc n) f h = and_yes (all_yes n f (λ k l. h k (omega arith))) (h n (omega arith))

pub all_no : (n k : ℕ) (f : ℕ → Bool) → k < n → f k ≡ false → all_below n f ≡ false
unfolding all_below
all_no zero k f l p = absurd (not-suc-le-zero l)
all_no (suc n) k f l p =
    ⊎_elim (λ e. and_no_right (all_below n f) (subst (λ (i : ℕ). f i ≡ false) e p))
    (λ lt. and_no_left (f n) (all_no n k f lt p))
    (eq-or-lt_of_le (le_of_suc-le-suc l))

pub all_at : (n : ℕ) (f : ℕ → Bool) → all_below n f ≡ true → (k : ℕ) → k < n → f k ≡ true
unfolding all_below
all_at zero f p k l = absurd (not-suc-le-zero l)
all_at (suc n) f p k l =
    ⊎_elim (λ e. subst (λ (i : ℕ). f i ≡ true) (sym e) (and_right (all_below n f) (f n) p))
    (λ lt. all_at n f (and_left (all_below n f) (f n) p) k lt)
    (eq-or-lt_of_le (le_of_suc-le-suc l))

-- a loop that tests the numbers below n in turn: those below k have passed
pub record Passed (n : ℕ) (f : ℕ → Bool) (k : ℕ) : Type 0 where
  pub upto : k ≤ n
  pub each : (x : ℕ) → x < k → f x ≡ true

pub passed_none : {n : ℕ} {f : ℕ → Bool} → Passed n f 0
passed_none = record { upto = zero-le; each = λ x l. absurd (not-suc-le-zero l) }

pub passed_more : {n : ℕ} {f : ℕ → Bool} {k : ℕ} → Passed n f k → k < n → f k ≡ true → Passed n f (k + 1)
passed_more {n} {f} {k} p h e = record { upto = omega arith; each = below_more (λ (x : ℕ). f x ≡ true) k p.each e }

pub passed_all : {n : ℕ} {f : ℕ → Bool} {k : ℕ} → Passed n f k → n ≤ k → all_below n f ≡ true
passed_all {n} {f} p h = all_yes n f (λ x l. p.each x (omega arith))

-- where not every number below n passes, one fails
pub record Fails (n : ℕ) (f : ℕ → Bool) : Type 0 where
  pub at : ℕ
  pub below : at < n
  pub fails : f at ≡ false

pub some_fails : (n : ℕ) (f : ℕ → Bool) → all_below n f ≡ false → Fails n f
unfolding all_below
some_fails zero f h = absurd (true≢false h)
some_fails (suc n) f h =
    ⊎_elim
    (λ e. let g = some_fails n f e in record { at = g.at; below = omega (arith, g.below); fails = g.fails })
    (λ e. record { at = n; below = omega arith; fails = e })
    (and_fails (all_below n f) (f n) h)

pub all_same : (n : ℕ) (f g : ℕ → Bool) → ((k : ℕ) → k < n → f k ≡ g k) → all_below n f ≡ all_below n g
unfolding all_below
all_same zero f g h = refl
all_same (suc n) f g h = rw (all_same n f g (λ k l. h k (omega arith)), h n (omega arith))

-- the tests of the first n values of a list
pub all_taken : {X : Type 0} (p : X → Bool) (d : X) (xs : List X) (n : ℕ) → n ≤ length xs → list_all p (take n xs) ≡ all_below n (λ k. p (get_or xs k d))
unfolding all_below
all_taken p d xs zero h = refl
all_taken p d xs (suc n) h = ap (λ (m : ℕ). list_all p (take m xs)) (sym (add-one n)) ∙ list_all_more p xs n d (omega arith) ∙ rw (all_taken p d xs n (omega arith)) refl

-- a row of tests is passed only where each test holds
pub need_done : (b : Bool) (r : Refusal) (o : Outcome) → need b (Err r) o ≡ Ok tt → (b ≡ true) × (o ≡ Ok tt)
need_done true r o h = (refl, h)
need_done false r o h = let z : ◌≡◌ {A = ℕ} 0 1 = cc in let f : ⊥ = omega arith in absurd f

pub unless_done : (b : Bool) (r : Refusal) → unless b r ≡ Ok tt → b ≡ true
unless_done b r h = (need_done b r (Ok tt) h).0

-- and in the refusal of a test exactly when that test fails and those before it hold
pub need_refuses : (b : Bool) (r q : Refusal) (o : Outcome) → need b (Err r) o ≡ Err q → ((b ≡ false) × (r ≡ q)) ⊎ ((b ≡ true) × (o ≡ Err q))
need_refuses true r q o h = inr (refl, h)
need_refuses false r q o h = inl (refl, cc)

pub then_done : (p o : Outcome) → and_then p o ≡ Ok tt → (p ≡ Ok tt) × (o ≡ Ok tt)
then_done (Ok _) o h = (refl, h)
then_done (Err r) o h = let z : ◌≡◌ {A = ℕ} 0 1 = cc in let f : ⊥ = omega arith in absurd f

-- a first outcome that is a refusal is the answer
pub then_refused : {p q : Outcome} {r : Refusal} (o : Outcome) → q ≡ p → q ≡ Err r → q ≡ and_then p o
then_refused o e h = h ∙ simp (sym e ∙ h)
