-- Laws of `Permitted` and of its test `permits`: a wider tolerance permits more, neighbours are permitted, only the samples from i to j count and of their marks only
-- those between, and no stretch passes over a marked sample. Assumes nothing.
use mathlib.Core.Path.{◌≡◌, sym}
use mathlib.Core.Bool.{true, false}
use mathlib.Core.List.{List}
use mathlib.Core.Logic.{◌↔◌}
use Prim.Native.Nat.{ℕ, suc, ◌*◌, ◌≤◌, ◌<◌}
use native.Mathlib.Nat.{le_trans, le_refl, le_of_lt, mul-le-mul, mul-le-mul_right}
use native.Mathlib.Omega.{arith}
use lib.IntN.{ℤ, pos}
use lib.ListN.{get_or}
use Rattle.refusal.proofs.Plain.{no_decides, carry, decides_true, decides_unique}
use Rattle.sample.specs.Mark.{Marked}
use Rattle.geometry.specs.Near.{Near, Along, Passable, Permitted}
use Rattle.sample.specs.Samples.{Samples}
use Rattle.geometry.specs.Spoiler.{Clear}
use Rattle.geometry.specs.Test.{permits}
use Rattle.geometry.proofs.Spoiler.{permits_told}

-- a wider tolerance
widen : {e f : ℕ} (m n : ℕ) → e ≤ f → m ≤ e * e * n → m ≤ f * f * n
widen m n h k = le_trans k (mul-le-mul_right n (mul-le-mul h h))

pub near_wider : {ax ay bx by qx qy : ℤ} {e f : ℕ} → e ≤ f → Near ax ay bx by qx qy e → Near ax ay bx by qx qy f
near_wider h n = record { s = n.s; r = n.r; along = n.along; whole = n.whole; within = widen _ _ h n.within }

pub along_wider : (xs ys : List ℤ) (i j k : ℕ) {e f : ℕ} → e ≤ f → Clear (Along xs ys i j e) i k → Clear (Along xs ys i j f) i k
along_wider xs ys i j k h c l a b = near_wider h (c l a b)

pub permitted_wider : {xs : Samples} {i j e f : ℕ} → e ≤ f → Permitted xs i j e → Permitted xs i j f
permitted_wider h p = record { each = λ k a b. let q = p.each k a b in (q.0, near_wider h q.1) }

pub permits_wider : (xs : Samples) (i j : ℕ) {e f : ℕ} → e ≤ f → permits xs i j e ≡ true → permits xs i j f ≡ true
permits_wider xs i j {e} {f} h t = decides_true _ (permits_told xs i j f) (permitted_wider h ((permits_told xs i j e).right t))

-- neighbours
pub permitted_adjacent : {xs : Samples} {i e : ℕ} → Permitted xs i (suc i) e
permitted_adjacent = record { each = λ k a b. absurd (omega arith) }

pub permits_adjacent : (xs : Samples) (i e : ℕ) → permits xs i (suc i) e ≡ true
permits_adjacent xs i e = decides_true _ (permits_told xs i (suc i) e) permitted_adjacent

-- the samples from i to j agree, and of their marks which of those strictly between are marked
pub record Same (xs vs : Samples) (i j : ℕ) : Type 0 where
  pub across : (k : ℕ) → i ≤ k → k ≤ j → get_or xs.across k (pos 0) ≡ get_or vs.across k (pos 0)
  pub up : (k : ℕ) → i ≤ k → k ≤ j → get_or xs.up k (pos 0) ≡ get_or vs.up k (pos 0)
  pub marks : (k : ℕ) → i < k → k < j → Marked xs.marks k ↔ Marked vs.marks k

pub same_back : {xs vs : Samples} {i j : ℕ} → Same xs vs i j → Same vs xs i j
same_back h = record { across = λ k a b. sym (h.across k a b); up = λ k a b. sym (h.up k a b); marks = λ k a b. ((h.marks k a b).1, (h.marks k a b).0) }

module _ (xs vs : Samples) (i j : ℕ) (h : Same xs vs i j) where
  pub passable_same : {e : ℕ} (k : ℕ) → i < k → k < j → Passable xs i j e k → Passable vs i j e k
  passable_same k a b p =
      let l = le_of_lt a in
      let r = le_of_lt b in
      let o : i ≤ j = le_trans l r in (
        λ q. p.0 ((h.marks k a b).1 q),
        rw (← h.across i (le_refl i) o, ← h.up i (le_refl i) o, ← h.across j o (le_refl j), ← h.up j o (le_refl j), ← h.across k l r, ← h.up k l r) p.1,
      )

  pub permitted_same : {e : ℕ} → Permitted xs i j e → Permitted vs i j e
  permitted_same p = record { each = λ k a b. passable_same k a b (p.each k a b) }

pub permits_same : (xs vs : Samples) (i j e : ℕ) → Same xs vs i j → permits xs i j e ≡ permits vs i j e
permits_same xs vs i j e h =
    decides_unique _ _ (permits_told xs i j e) (carry (permitted_same vs xs i j (same_back h)) (permitted_same xs vs i j h) (permits_told vs i j e))

-- at no tolerance is a stretch permitted that passes over a marked sample
pub marked_stops : {xs : Samples} {i j e q : ℕ} → Marked xs.marks q → i < q → q < j → Permitted xs i j e → ⊥
marked_stops h a b p = (p.each _ a b).0 h

pub permits_stops : (xs : Samples) (i j e q : ℕ) → Marked xs.marks q → i < q → q < j → permits xs i j e ≡ false
permits_stops xs i j e q h a b = decides_unique _ _ (permits_told xs i j e) (no_decides (marked_stops h a b))
