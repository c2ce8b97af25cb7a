-- The tests of coordinates decide what they are named for. Assumes nothing.
use mathlib.Core.Path.{◌≡◌, sym, ap, ◌∙◌}
use Prim.Native.Nat.{ℕ, ◌≤◌, ◌<◌, suc-le-suc}
use native.Mathlib.Nat.{le_trans, lt_of_lt_of_le, le_of_suc-le-suc}
use mathlib.Core.Bool.{Bool, true, and-true}
use mathlib.Core.List.{List}
use lib.IntN.{ℤ, pos, negsuc}
use lib.ListN.{get_or, length}
use lib.Signed.{mag}
use mir.Syntax.{w16}
use mir.Val.{to_z, of_z}
use mir.Facts.{to_z-of_z}
use Rattle.refusal.specs.Check.{Decides}
use Rattle.refusal.proofs.Plain.{by_test, all_decided}
use Rattle.sample.specs.Coordinate.{Coord, InRange, coordinate_ok, coordinates_ok}
use Rattle.sample.specs.Samples.{Samples}
use Rattle.sample.specs.Sweep.{Ranged}

pub coordinate_decided : (z : ℤ) → Decides (Coord z) (coordinate_ok z)
unfolding coordinate_ok
coordinate_decided (pos n) = by_test _ n 16384 (λ h. record { low = h }) (λ c. c.low)
coordinate_decided (negsuc n) = rw and-true (by_test _ n 16383 (λ h. record { low = suc-le-suc h }) (λ c. le_of_suc-le-suc c.low))

pub coordinates_decided : (s : List ℤ) (n : ℕ) → Decides ((k : ℕ) → k < n → Coord (get_or s k (pos 0))) (coordinates_ok s n)
unfolding coordinates_ok
coordinates_decided s n = all_decided _ _ n (λ k l. coordinate_decided (get_or s k (pos 0)))

pub in_range : {s : List ℤ} {n : ℕ} → n ≤ length s → coordinates_ok s n ≡ true → InRange s n
in_range {s} {n} h t = record { held = h; each = (coordinates_decided s n).right t }

pub fewer : {s : List ℤ} {m n : ℕ} → m ≤ n → InRange s n → InRange s m
fewer h r = record { held = le_trans h r.held; each = λ k l. r.each k (lt_of_lt_of_le l h) }

pub fewer_ranged : {xs : Samples} {m n : ℕ} → m ≤ n → Ranged xs n → Ranged xs m
fewer_ranged h r = record { across = fewer h r.across; up = fewer h r.up }

-- a coordinate that was handed on by its bits is tested as itself
pub coordinate_back : {b : Bool} (z : ℤ) → mag z < 32768 → b ≡ coordinate_ok (to_z w16 (of_z w16 z)) → coordinate_ok z ≡ b
coordinate_back z f h = ap coordinate_ok (sym (to_z-of_z {w = w16} (record { sfits = f }))) ∙ sym h
