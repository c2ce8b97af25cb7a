-- Tests and plain statements: when a test decides a statement. Assumes nothing.
use mathlib.Core.Path.{◌≡◌, refl, sym, subst}
use mathlib.Core.Logic.{◌⊎◌, inl, inr, ⊎_elim}
use mathlib.Core.Bool.{Bool, true, false, ◌&&◌, ◌||◌, not, cond, true≢false}
use Prim.Native.Nat.{ℕ, zero, suc, ◌≤◌, ◌<◌}
use native.Mathlib.Nat.{not-suc-le-zero, le_step, le_of_suc-le-suc, lt-suc_self, eq-or-lt_of_le, not-le_of_lt}
use native.Mathlib.Omega.{arith}
use lib.Dec.{leb, ltb, eqb}
use borrow.Author.Tests.{leb-true, leb-false, ltb-true, ltb-false, eqb-true, eqb-false, not-true, not-false}
use Rattle.refusal.specs.Check.{all_below, from_to, Decides}

-- by the value of a test
pub by_cond : {A : Type 0} (P : A → Type 0) (t : Bool) {u v : A} → (t ≡ true → P u) → (t ≡ false → P v) → P (cond t u v)
by_cond P true f g = f refl
by_cond P false f g = g refl

pub yes_decides : {P : Type 0} → P → Decides P true
yes_decides p = record { right = λ t. p; wrong = λ t. absurd (true≢false t) }

pub no_decides : {P : Type 0} → (P → ⊥) → Decides P false
no_decides n = record { right = λ t. absurd (true≢false (sym t)); wrong = λ t. n }

-- what is equivalent is decided alike
pub carry : {P Q : Type 0} {t : Bool} → (P → Q) → (Q → P) → Decides P t → Decides Q t
carry f g d = record { right = λ e. f (d.right e); wrong = λ e q. d.wrong e (g q) }

-- any two answers are equal
pub decides_unique : {P : Type 0} (t u : Bool) → Decides P t → Decides P u → t ≡ u
decides_unique true true d f = refl
decides_unique true false d f = absurd (f.wrong refl (d.right refl))
decides_unique false true d f = absurd (d.wrong refl (f.right refl))
decides_unique false false d f = refl

-- what holds is answered with yes
pub decides_true : {P : Type 0} (t : Bool) → Decides P t → P → t ≡ true
decides_true true d p = refl
decides_true false d p = absurd (d.wrong refl p)

pub decided : {P : Type 0} (t : Bool) → Decides P t → Dec P
decided true d = yes (d.right refl)
decided false d = no (d.wrong refl)

-- a test of two numbers decides what is equivalent to their order
pub by_test : (P : Type 0) (m n : ℕ) → (m ≤ n → P) → (P → m ≤ n) → Decides P (leb m n)
by_test P m n f g = record { right = λ t. f (leb-true m n t); wrong = λ t p. not-le_of_lt (leb-false m n t) (g p) }

-- the test of an order decides it
pub by_order : (m n : ℕ) → Decides (m ≤ n) (leb m n)
by_order m n = by_test (m ≤ n) m n (λ h. h) (λ h. h)

pub by_less : (m n : ℕ) → Decides (m < n) (ltb m n)
by_less m n = record { right = ltb-true m n; wrong = λ t p. absurd (omega (arith, ltb-false m n t)) }

pub by_equal : (m n : ℕ) → Decides (m ≡ n) (eqb m n)
by_equal m n = record { right = eqb-true m n; wrong = eqb-false m n }

pub both_decided : {P Q : Type 0} (s t : Bool) → Decides P s → Decides Q t → Decides (P × Q) (s && t)
both_decided true t d f = carry (λ q. (d.right refl, q)) (λ p. p.1) f
both_decided false t d f = no_decides (λ p. d.wrong refl p.0)

pub not_decided : {P : Type 0} {t : Bool} → Decides P t → Decides (P → ⊥) (not t)
not_decided {t = t} d = record { right = λ h. d.wrong (not-true t h); wrong = λ h n. n (d.right (not-false t h)) }

pub either_decided : {P Q : Type 0} (s t : Bool) → Decides P s → Decides Q t → Decides (P ⊎ Q) (s || t)
either_decided true t d f = yes_decides (inl (d.right refl))
either_decided false t d f = carry inr (λ p. ⊎_elim (λ x. absurd (d.wrong refl x)) (λ x. x) p) f

pub from_to_decided : (a b x : ℕ) → Decides ((a ≤ x) × (x ≤ b)) (from_to a b x)
from_to_decided a b x = both_decided (leb a x) (leb x b) (by_order a x) (by_order x b)

-- a test of every number below n
pub all_decided : (P : ℕ → Type 0) (f : ℕ → Bool) (n : ℕ) → ((k : ℕ) → k < n → Decides (P k) (f k)) → Decides ((k : ℕ) → k < n → P k) (all_below n f)
unfolding all_below
all_decided P f zero d = yes_decides (λ k l. absurd (not-suc-le-zero l))
all_decided P f (suc n) d =
    carry
    (λ p k l. ⊎_elim (λ e. subst P (sym e) p.1) (λ m. p.0 k m) (eq-or-lt_of_le (le_of_suc-le-suc l)))
    (λ p. (λ k l. p k (le_step l), p n (lt-suc_self n)))
    (both_decided (all_below n f) (f n) (all_decided P f n (λ k l. d k (le_step l))) (d n (lt-suc_self n)))

-- a statement that is decided and not refuted holds
pub not_refuted : {P : Type 0} (t : Bool) → Decides P t → ((P → ⊥) → ⊥) → P
not_refuted true d h = d.right refl
not_refuted false d h = absurd (h (d.wrong refl))
