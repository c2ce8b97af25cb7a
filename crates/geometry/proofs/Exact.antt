-- Laws of the nearest point and of the squared distance, whatever M is: there is one answer to either, and the distance decides what is within reach. Assumes nothing.
use mathlib.Core.Path.{◌≡◌, refl, ap}
use Prim.Native.Nat.{ℕ, ◌*◌, ◌≤◌}
use native.Mathlib.Nat.{mul-le-mul, mul-le-mul_left, le_of_mul-le-mul_left, le_antisymm}
use native.Mathlib.Omega.{arith}
use lib.Dec.{leb}
use Rattle.refusal.specs.Check.{Decides}
use Rattle.refusal.proofs.Plain.{by_test}
use Rattle.geometry.specs.declared.Nearest.{Nearest}
use Rattle.geometry.specs.declared.Nearest.TheVariants.{Beginning, End, Between}
use Rattle.geometry.specs.declared.Fraction.{Fraction}
use Rattle.geometry.specs.Nearest.{NoneNearer, Closest, Lies, Exact}
use Rattle.geometry.specs.Way.{Close}

-- what a positive factor keeps in order
cancel : (k x y : ℕ) → 1 ≤ k → x * k ≤ y * k → x ≤ y
cancel k x y h g = le_of_mul-le-mul_left {k = k} (omega (arith, g)) h

module _ (M : ℕ → ℕ → ℕ) where
  -- a point at which the least distance is attained is a nearest one
  pub attained_closest : (t b r s : ℕ) → 1 ≤ b → NoneNearer M t b → M r s * b ≡ t * (r * r) → Closest M r s
  attained_closest t b r s h n e v u o p = cancel b _ _ h (omega (arith, mul-le-mul_left (r * r) (n v u o p), ap (λ (x : ℕ). x * (v * v)) e))

  -- the nearest point lies in one place
  pub lies_one : (c k : Nearest) → Lies M c → Lies M k → c ≡ k
  lies_one Beginning Beginning l m = refl
  lies_one Beginning End l m = absurd (m.0 l)
  lies_one Beginning Between l m = absurd (m.0 l)
  lies_one End Beginning l m = absurd (l.0 m)
  lies_one End End l m = refl
  lies_one End Between l m = absurd (m.1 l.1)
  lies_one Between Beginning l m = absurd (l.0 m)
  lies_one Between End l m = absurd (l.1 m.1)
  lies_one Between Between l m = refl

  -- any two squared distances are the same fraction
  no_more : (d f : Fraction) → Exact M d → Exact M f → d.top * f.bottom ≤ f.top * d.bottom
  no_more d f x y =
      cancel (y.r * y.r) _ _ (mul-le-mul y.whole y.whole)
      (omega (arith, mul-le-mul_left f.bottom (x.least y.r y.s y.along y.whole), ap (λ (t : ℕ). d.bottom * t) y.attained))

  pub exact_one : (d f : Fraction) → Exact M d → Exact M f → d.top * f.bottom ≡ f.top * d.bottom
  exact_one d f x y = le_antisymm (no_more d f x y) (no_more f d y x)

  -- a point is within reach exactly when top ≤ reach · bottom
  pub exact_decides : (d : Fraction) (reach : ℕ) → Exact M d → Decides (Close M reach) (leb d.top (reach * d.bottom))
  exact_decides d reach x =
      by_test _ _ _
      (λ (h : d.top ≤ reach * d.bottom). record {
        s = x.s;
        r = x.r;
        along = x.along;
        whole = x.whole;
        within = cancel d.bottom _ _ x.divides (omega (arith, x.attained, mul-le-mul_left (x.r * x.r) h));
      })
      (λ c. cancel (c.r * c.r) _ _ (mul-le-mul c.whole c.whole) (omega (arith, x.least c.r c.s c.along c.whole, mul-le-mul_left d.bottom c.within)))
