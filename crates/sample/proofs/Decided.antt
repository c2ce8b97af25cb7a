-- The tests of marks and of samples decide what they are named for. Assumes nothing.
use mathlib.Core.List.{List}
use Prim.Native.Nat.{ℕ, ◌<◌}
use lib.ListN.{get_or}
use Rattle.refusal.specs.Check.{Decides}
use Rattle.refusal.proofs.Plain.{carry, by_order, both_decided, all_decided}
use Rattle.sample.specs.Mark.{Mark, mark_ok, marks_ok}
use Rattle.sample.specs.declared.Sample.{Sample}
use Rattle.sample.specs.Samples.{Samples}
use Rattle.sample.specs.Valid.{Valid, AllValid, sample_ok, samples_ok}
use Rattle.sample.proofs.Coordinate.{coordinate_decided, coordinates_decided}

pub mark_decided : (mark : ℕ) → Decides (Mark mark) (mark_ok mark)
unfolding mark_ok
mark_decided mark = by_order mark 1

pub marks_decided : (ms : List ℕ) (n : ℕ) → Decides ((k : ℕ) → k < n → Mark (get_or ms k 0)) (marks_ok ms n)
unfolding marks_ok
marks_decided ms n = all_decided _ _ n (λ k l. mark_decided (get_or ms k 0))

pub sample_decided : (x : Sample) → Decides (Valid x) (sample_ok x)
unfolding sample_ok
sample_decided x =
    carry (λ p. (p.0, p.1.0, p.1.1)) (λ p. (p.0, (p.1, p.2)))
    (both_decided _ _ (coordinate_decided x.across) (both_decided _ _ (coordinate_decided x.up) (mark_decided x.mark)))

pub samples_decided : (xs : Samples) (n : ℕ) → Decides (AllValid xs n) (samples_ok xs n)
unfolding samples_ok
samples_decided xs n =
    carry (λ p q h. (p.0 q h, p.1.0 q h, p.1.1 q h)) (λ p. (λ q h. (p q h).0, (λ q h. (p q h).1, λ q h. (p q h).2)))
    (both_decided _ _ (coordinates_decided xs.across n) (both_decided _ _ (coordinates_decided xs.up n) (marks_decided xs.marks n)))
