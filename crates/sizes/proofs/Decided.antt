-- The tests of refusals 1 and 2 decide their statements, and their row gives the number. Assumes nothing.
use mathlib.Core.Path.{◌≡◌}
use mathlib.Core.List.{List}
use Prim.Native.Nat.{ℕ, zero, suc, ◌≤◌, ◌<◌}
use native.Mathlib.Numerals.{add-one}
use native.Mathlib.Omega.{arith}
use lib.ListN.{length, get_or, take}
use lib.Seq.{length-take-le}
use Rattle.std.proofs.lemmas.List.{get_or-take}
use Rattle.refusal.specs.declared.Refusal.TheVariants.{Setup, Tolerance}
use Rattle.std.specs.Prelude.{Ok}
use Rattle.refusal.specs.Check.{Decides, from_to}
use Rattle.refusal.proofs.Laws.{unless_done, then_done, all_same}
use Rattle.refusal.proofs.Plain.{carry, by_less, by_order, both_decided, from_to_decided, all_decided}
use Rattle.refusal.proofs.Rows.{Row, unless_row, then_row}
use Rattle.sizes.specs.Setup.{Sized, Tolerances, SetupNumber}
use Rattle.sizes.specs.Rows.{before, tolerance_ok, setup_ok, tolerances_ok, setup_outcome}

pub setup_decided : (m N : ℕ) → Decides (Sized m N) (setup_ok m N)
unfolding setup_ok
setup_decided m N =
    carry (λ p. (p.0.0, p.0.1, p.1.0, p.1.1)) (λ p. ((p.0, p.1), (p.2, p.3)))
    (both_decided (from_to 1 16 m) (from_to 2 256 N) (from_to_decided 1 16 m) (from_to_decided 2 256 N))

pub tolerances_decided : (m : ℕ) (tols : List ℕ) → Decides (Tolerances m tols) (tolerances_ok m tols)
unfolding tolerances_ok tolerance_ok
tolerances_decided m tols =
    carry
    (λ p. record { low = λ l h. omega (arith, (p l h).0); high = λ l h. (p l h).1; rise = λ l h. rw (add-one l) (p (suc l) (omega arith)).0 })
    (λ T l h. (above T l h, T.high l h))
    (all_decided (λ l. (before tols l < get_or tols l 0) × (get_or tols l 0 ≤ 32768)) _ m
    (λ l h. both_decided _ _ (by_less (before tols l) (get_or tols l 0)) (by_order (get_or tols l 0) 32768)))
  where
    above : Tolerances m tols → (l : ℕ) → l < m → before tols l < get_or tols l 0
    above T zero h = T.low 0 h
    above T (suc l) h = rw (add-one l) at (T.rise l (omega arith))

-- the first m are tested as they stand
pub tolerances_taken : (m : ℕ) (tols : List ℕ) → m ≤ length tols → tolerances_ok (length (take m tols)) (take m tols) ≡ tolerances_ok m tols
unfolding tolerances_ok tolerance_ok
tolerances_taken m tols h = rw (length-take-le m tols h) (all_same m (tolerance_ok (take m tols)) (tolerance_ok tols) same)
  where
    same : (l : ℕ) → l < m → tolerance_ok (take m tols) l ≡ tolerance_ok tols l
    same zero b = rw (get_or-take m tols 0 0 b)
    same (suc l) b = rw (get_or-take m tols l 0 (omega arith), get_or-take m tols (suc l) 0 b)

pub setup_done : (m N : ℕ) (tols : List ℕ) → setup_outcome m N tols ≡ Ok tt → Sized m N
unfolding setup_outcome
setup_done m N tols h = (setup_decided m N).right (unless_done (setup_ok m N) _ (then_done _ _ h).0)

pub setup_row : (m N : ℕ) (tols : List ℕ) → Row (setup_outcome m N tols) (SetupNumber m N tols)
unfolding setup_outcome
setup_row m N tols = then_row _ _ (unless_row _ Setup (setup_decided m N)) (λ e. unless_row _ Tolerance (tolerances_decided m tols))
