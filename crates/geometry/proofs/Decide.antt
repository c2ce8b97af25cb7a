-- The case is where the nearest point is, and the fraction is the exact squared distance; so one comparison decides `NearBy`. Assumes nothing.
use mathlib.Core.Path.{◌≡◌, refl}
use mathlib.Core.Bool.{true, false}
use Prim.Native.Nat.{ℕ, ◌+◌, ◌*◌, ◌≤◌, ◌<◌}
use native.Mathlib.Omega.{arith}
use lib.Dec.{leb}
use lib.IntN.{ℤ, pos, nat_abs, ◌-ℤ◌}
use lib.Signed.{le_z}
use Rattle.refusal.specs.Check.{Decides}
use Rattle.refusal.proofs.Plain.{by_cond}
use Rattle.algebra.specs.Parts.{sq}
use Rattle.algebra.proofs.Parts.{one_times, is_le, is_more, is_least, is_below, above_least, above_below}
use Rattle.geometry.specs.declared.Nearest.{Nearest}
use Rattle.geometry.specs.declared.Nearest.TheVariants.{Beginning, End, Between}
use Rattle.geometry.specs.Nearest.{dot, nearest, distance_from, distance, Lies, Exact}
use Rattle.geometry.specs.Test.{reaches}
use Rattle.geometry.specs.Way.{offset_by, NearBy}
use Rattle.geometry.proofs.Core.{lies_beginning, exact_beginning, lies_end, exact_end, lies_between, exact_between}
use Rattle.geometry.proofs.Exact.{exact_decides}
use Rattle.geometry.proofs.Plane.{fore, aft, frame, dot_is}

module _ (dx dy px py : ℤ) where
  -- the three cases, by the two sides of u·v
  cases : (P : Nearest → Type 0) → (fore dx dy px py ≤ aft dx dy px py → P Beginning)
      → (aft dx dy px py < fore dx dy px py → aft dx dy px py + (sq dx + sq dy) ≤ fore dx dy px py → P End)
      → (aft dx dy px py < fore dx dy px py → fore dx dy px py < aft dx dy px py + (sq dx + sq dy) → P Between) → P (nearest dx dy px py)
  unfolding nearest
  cases P f g h =
      by_cond P (le_z (dot dx dy px py) (pos 0))
      (λ t. f (is_le _ _ _ (dot_is dx dy px py) t))
      (λ n. let m = is_more _ _ _ (dot_is dx dy px py) n in
      by_cond P (le_z (pos (sq dx + sq dy)) (dot dx dy px py))
      (λ t. g (omega (arith, m.0, m.1)) (is_least _ _ _ _ (dot_is dx dy px py) t))
      (λ t. h (omega (arith, m.0, m.1)) (is_below _ _ _ _ (dot_is dx dy px py) t)))

  pub nearest_lies : Lies (offset_by dx dy px py) (nearest dx dy px py)
  nearest_lies = cases (Lies (offset_by dx dy px py)) (lies_beginning (frame dx dy px py)) (lies_end (frame dx dy px py)) (lies_between (frame dx dy px py))

  from_end : offset_by dx dy px py 1 1 ≡ sq (px -ℤ dx) + sq (py -ℤ dy)
  from_end = rw (one_times px, one_times py, one_times dx, one_times dy) refl

  pub distance_exact : Exact (offset_by dx dy px py) (distance dx dy px py)
  distance_exact =
      cases (λ c. Exact (offset_by dx dy px py) (distance_from c dx dy px py)) (exact_beginning (frame dx dy px py))
      (λ g h. rw from_end at (exact_end (frame dx dy px py) g h))
      (exact_between (frame dx dy px py))

  pub distance_decides : (reach : ℕ) → Decides (NearBy dx dy px py reach) (leb (distance dx dy px py).top (reach * (distance dx dy px py).bottom))
  distance_decides reach = exact_decides (offset_by dx dy px py) (distance dx dy px py) reach distance_exact

  pub reaches_decided : (reach : ℕ) → Decides (NearBy dx dy px py reach) (reaches dx dy px py reach)
  unfolding reaches
  reaches_decided = distance_decides

  -- as the code's tests tell the case
  pub at_beginning : le_z (dot dx dy px py) (pos 0) ≡ true → nearest dx dy px py ≡ Beginning
  unfolding nearest
  at_beginning t = rw t refl

  module _ (t : le_z (dot dx dy px py) (pos 0) ≡ false) where
    pub at_end : sq dx + sq dy ≤ nat_abs (dot dx dy px py) → nearest dx dy px py ≡ End
    unfolding nearest
    at_end h = rw (t, above_least _ _ t h) refl

    pub at_between : nat_abs (dot dx dy px py) < sq dx + sq dy → nearest dx dy px py ≡ Between
    unfolding nearest
    at_between h = rw (t, above_below _ _ t h) refl
