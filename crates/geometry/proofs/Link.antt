-- What holds of the ways between samples holds of the samples: the case, the squared distance, and `Near`. Assumes nothing.
use mathlib.Core.Bool.{Bool}
use Prim.Native.Nat.{ℕ, ◌*◌}
use lib.IntN.{ℤ, ◌-ℤ◌}
use Rattle.refusal.specs.Check.{Decides}
use Rattle.refusal.proofs.Plain.{carry}
use Rattle.geometry.specs.Near.{offset, Near}
use Rattle.geometry.specs.Nearest.{nearest, distance, Lies, Exact}
use Rattle.geometry.specs.Test.{reaches}
use Rattle.geometry.specs.Way.{NearBy}
use Rattle.geometry.proofs.Decide.{nearest_lies, distance_exact, reaches_decided}

module _ (ax ay bx by qx qy : ℤ) where
  -- over all s and r of `Near`: the case is where the nearest point is, the fraction is the squared distance from the segment
  pub nearest_of : Lies (offset ax ay bx by qx qy) (nearest (bx -ℤ ax) (by -ℤ ay) (qx -ℤ ax) (qy -ℤ ay))
  nearest_of = nearest_lies (bx -ℤ ax) (by -ℤ ay) (qx -ℤ ax) (qy -ℤ ay)

  pub distance_of : Exact (offset ax ay bx by qx qy) (distance (bx -ℤ ax) (by -ℤ ay) (qx -ℤ ax) (qy -ℤ ay))
  distance_of = distance_exact (bx -ℤ ax) (by -ℤ ay) (qx -ℤ ax) (qy -ℤ ay)

module _ {ax ay bx by qx qy : ℤ} {e : ℕ} where
  -- what is decided of the ways is decided of the samples
  pub near_by : {t : Bool} → Decides (NearBy (bx -ℤ ax) (by -ℤ ay) (qx -ℤ ax) (qy -ℤ ay) (e * e)) t → Decides (Near ax ay bx by qx qy e) t
  near_by =
      carry (λ n. record { s = n.s; r = n.r; along = n.along; whole = n.whole; within = n.within })
      (λ n. record { s = n.s; r = n.r; along = n.along; whole = n.whole; within = n.within })

  pub decides_near : Decides (Near ax ay bx by qx qy e) (reaches (bx -ℤ ax) (by -ℤ ay) (qx -ℤ ax) (qy -ℤ ay) (e * e))
  decides_near = near_by (reaches_decided (bx -ℤ ax) (by -ℤ ay) (qx -ℤ ax) (qy -ℤ ay) (e * e))
