-- The parts of sums, differences and multiples of integers, so that `omega`, which reads ℕ alone, reads facts about ℤ. Assumes nothing.
use mathlib.Core.Path.{◌≡◌, refl, ap, sym, ◌∙◌}
use mathlib.Core.Bool.{Bool, true, false, not, cond, true≢false}
use Prim.Native.Nat.{ℕ, zero, suc, ◌+◌, ◌*◌, ◌-◌, ◌≤◌, ◌<◌}
use native.Mathlib.Nat.{mul-zero, one-mul}
use native.Mathlib.Omega.{arith}
use lib.Dec.{T, ltb, ltb→lt, nltb→le}
use lib.IntN.{ℤ, pos, negsuc, neg_ℤ, nat_abs, sub_ℕ, ◌+ℤ◌, ◌-ℤ◌, ◌*ℤ◌}
use lib.Signed.{le_z}
use borrow.Author.Tests.{leb-true, leb-false, le-leb, lt-leb}
use mir.Syntax.{w64}
use mir.Val.{SFits}
use Rattle.algebra.specs.Square.{Square}
use Rattle.algebra.specs.Parts.{up, dn, sq, Is}
use Rattle.algebra.proofs.Square.{square_swap, up_sq}

up_cond : (t : Bool) (x y : ℤ) (P : ℤ → Type 0) → (T t → P x) → (T (not t) → P y) → P (cond t x y)
up_cond true x y P f g = f tt
up_cond false x y P f g = g tt

up_sub : (a b : ℕ) → up (sub_ℕ a b) ≡ a - b
up_sub a b = up_cond (ltb a b) (negsuc (b - suc a)) (pos (a - b)) (λ z. up z ≡ a - b)
    (λ t. lo (ltb→lt a b t)) (λ t. refl)
  where
    lo : a < b → 0 ≡ a - b
    lo h = omega arith

dn_sub : (a b : ℕ) → dn (sub_ℕ a b) ≡ b - a
dn_sub a b = up_cond (ltb a b) (negsuc (b - suc a)) (pos (a - b)) (λ z. dn z ≡ b - a)
    (λ t. lo (ltb→lt a b t)) (λ t. hi (nltb→le a b t))
  where
    lo : a < b → suc (b - suc a) ≡ b - a
    lo h = omega arith

    hi : b ≤ a → 0 ≡ b - a
    hi h = omega arith

up_neg : (z : ℤ) → up (neg_ℤ z) ≡ dn z
up_neg (pos zero) = refl
up_neg (pos (suc n)) = refl
up_neg (negsuc n) = refl

dn_neg : (z : ℤ) → dn (neg_ℤ z) ≡ up z
dn_neg (pos zero) = refl
dn_neg (pos (suc n)) = refl
dn_neg (negsuc n) = refl

-- the parts of a sum, of a difference, of a multiple
parts_add : (x y : ℤ) → up (x +ℤ y) + (dn x + dn y) ≡ dn (x +ℤ y) + (up x + up y)
parts_add (pos a) (pos b) = omega arith
parts_add (pos a) (negsuc b) = omega (arith, up_sub a (suc b), dn_sub a (suc b))
parts_add (negsuc a) (pos b) = omega (arith, up_sub b (suc a), dn_sub b (suc a))
parts_add (negsuc a) (negsuc b) = omega arith

parts_sub : (x y : ℤ) → up (x -ℤ y) + (dn x + up y) ≡ dn (x -ℤ y) + (up x + dn y)
parts_sub x y = omega (arith, parts_add x (neg_ℤ y), up_neg y, dn_neg y)

up_mul : (k : ℕ) (z : ℤ) → up (pos k *ℤ z) ≡ k * up z
up_mul k (pos n) = refl
up_mul k (negsuc n) = up_neg (pos (k * suc n)) ∙ sym (mul-zero k)

dn_mul : (k : ℕ) (z : ℤ) → dn (pos k *ℤ z) ≡ k * dn z
dn_mul k (pos n) = sym (mul-zero k)
dn_mul k (negsuc n) = dn_neg (pos (k * suc n))

-- the parts themselves
pub is_own : (z : ℤ) → Is z (up z) (dn z)
is_own z = record { eq = omega arith }

pub is_mul : (r : ℕ) (a : ℤ) (x y : ℕ) → Is a x y → Is (pos r *ℤ a) (r * x) (r * y)
is_mul r a x y h = omega (arith, up_mul r a, dn_mul r a, ap (λ (t : ℕ). r * t) h.eq)

pub is_minus : (a b : ℤ) (x y z w : ℕ) → Is a x y → Is b z w → Is (a -ℤ b) (x + w) (y + z)
is_minus a b x y z w h g = omega (arith, parts_sub a b)

pub is_sq : (z : ℤ) (x y : ℕ) → Is z x y → Square (sq z) x y
is_sq (pos n) x y h = square_swap _ y x (up_sq y x n (omega arith))
is_sq (negsuc n) x y h = up_sq x y (suc n) (omega arith)

pub is_plus : (a b : ℤ) (x y z w : ℕ) → Is a x y → Is b z w → Is (a +ℤ b) (x + z) (y + w)
is_plus a b x y z w h g = omega (arith, parts_add a b)

pub one_times : (z : ℤ) → pos 1 *ℤ z ≡ z
one_times (pos n) = simp one-mul
one_times (negsuc n) = simp one-mul

-- the parts of a product
cross_terms : (m n x y z w : ℕ) → x ≡ m + y → z ≡ n + w → m * n + (x * w + y * z) ≡ x * z + y * w
cross_terms m n x y z w h g = rw (h, g) (omega arith)

pub is_times : (a b : ℤ) (x y z w : ℕ) → Is a x y → Is b z w → Is (a *ℤ b) (x * z + y * w) (x * w + y * z)
is_times (pos m) (pos n) x y z w h g = omega (arith, cross_terms m n x y z w (omega arith) (omega arith))
is_times (pos m) (negsuc n) x y z w h g =
    omega (arith, up_neg (pos (m * suc n)), dn_neg (pos (m * suc n)), cross_terms m (suc n) x y w z (omega arith) (omega arith))
is_times (negsuc m) (pos n) x y z w h g =
    omega (arith, up_neg (pos (suc m * n)), dn_neg (pos (suc m * n)), cross_terms (suc m) n y x z w (omega arith) (omega arith))
is_times (negsuc m) (negsuc n) x y z w h g = omega (arith, cross_terms (suc m) (suc n) y x w z (omega arith) (omega arith))

-- an order of z and 0 is one of its parts
pub is_le : (z : ℤ) (x y : ℕ) → Is z x y → le_z z (pos 0) ≡ true → x ≤ y
is_le (pos n) x y h t = omega (arith, leb-true n 0 t)
is_le (negsuc n) x y h t = omega arith

pub is_more : (z : ℤ) (x y : ℕ) → Is z x y → le_z z (pos 0) ≡ false → (x ≡ y + nat_abs z) × (1 ≤ nat_abs z)
is_more (pos n) x y h t = (omega arith, leb-false n 0 t)
is_more (negsuc n) x y h t = absurd (true≢false t)

-- and one of a natural k and z
pub is_least : (k : ℕ) (z : ℤ) (x y : ℕ) → Is z x y → le_z (pos k) z ≡ true → y + k ≤ x
is_least k (pos n) x y h t = omega (arith, leb-true k n t)
is_least k (negsuc n) x y h t = absurd (true≢false (sym t))

pub is_below : (k : ℕ) (z : ℤ) (x y : ℕ) → Is z x y → le_z (pos k) z ≡ false → x < y + k
is_below k (pos n) x y h t = omega (arith, leb-false k n t)
is_below k (negsuc n) x y h t = omega arith

-- where z is above 0, it is one of k and the size of z
pub above_least : (k : ℕ) (z : ℤ) → le_z z (pos 0) ≡ false → k ≤ nat_abs z → le_z (pos k) z ≡ true
above_least k (pos n) t h = le-leb k n h
above_least k (negsuc n) t h = absurd (true≢false t)

pub above_below : (k : ℕ) (z : ℤ) → le_z z (pos 0) ≡ false → nat_abs z < k → le_z (pos k) z ≡ false
above_below k (pos n) t h = lt-leb k n h
above_below k (negsuc n) t h = absurd (true≢false t)

-- ---- sizes
size_parts : (z : ℤ) → nat_abs z ≡ up z + dn z
size_parts (pos n) = omega arith
size_parts (negsuc n) = omega arith

size_neg : (z : ℤ) → nat_abs (neg_ℤ z) ≡ nat_abs z
size_neg z = omega (arith, size_parts z, size_parts (neg_ℤ z), up_neg z, dn_neg z)

size_diff : (a b : ℕ) → nat_abs (sub_ℕ a b) ≤ a + b
size_diff a b = omega (arith, size_parts (sub_ℕ a b), up_sub a b, dn_sub a b)

pub size_add : (a b : ℤ) → nat_abs (a +ℤ b) ≤ nat_abs a + nat_abs b
size_add (pos a) (pos b) = omega arith
size_add (pos a) (negsuc b) = size_diff a (suc b)
size_add (negsuc a) (pos b) = omega (arith, size_diff b (suc a))
size_add (negsuc a) (negsuc b) = omega arith

pub size_sub : (a b : ℤ) → nat_abs (a -ℤ b) ≤ nat_abs a + nat_abs b
size_sub a b = omega (arith, size_add a (neg_ℤ b), size_neg b)

pub size_mul : (a b : ℤ) → nat_abs (a *ℤ b) ≡ nat_abs a * nat_abs b
size_mul (pos a) (pos b) = refl
size_mul (pos a) (negsuc b) = size_neg (pos (a * suc b))
size_mul (negsuc a) (pos b) = size_neg (pos (suc a * b))
size_mul (negsuc a) (negsuc b) = refl

pub square_is : (z : ℤ) → z *ℤ z ≡ pos (sq z)
square_is (pos n) = refl
square_is (negsuc n) = refl

pub size_fits : (z : ℤ) → nat_abs z < 9223372036854775808 → SFits w64 z
size_fits (pos n) h = record { sfits = h }
size_fits (negsuc n) h = record { sfits = omega arith }
