-- A coordinate keeps its value when it is moved between widths: it fits 16 bits and 64. Assumes nothing.
use Prim.Native.Nat.{◌<◌}
use native.Mathlib.Omega.{arith}
use lib.IntN.{ℤ, pos, negsuc}
use lib.Signed.{mag}
use mir.Syntax.{w16, w64}
use mir.Val.{SFits}
use Rattle.sample.specs.Coordinate.{Coord}

small : (z : ℤ) → Coord z → mag z < 32768
small (pos n) h = omega arith
small (negsuc n) h = omega arith

pub narrow : {z : ℤ} → Coord z → SFits w16 z
narrow {z} h = record { sfits = small z h }

pub wide : {z : ℤ} → Coord z → SFits w64 z
wide {z} h = record { sfits = omega (arith, small z h) }
