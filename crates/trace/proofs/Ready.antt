-- Where put is not refused, all holds that the change of a sample asks. Assumes nothing.
use mathlib.Core.Path.{◌≡◌}
use mathlib.Core.List.{List}
use Prim.Native.Nat.{ℕ, ◌≤◌, ◌<◌}
use native.Mathlib.Nat.{le_trans}
use native.Mathlib.Decide.{ℕ_discrete}
use native.Mathlib.Omega.{arith}
use lib.IntN.{ℤ, pos}
use lib.ListN.{length, length-set, get_or, set}
use lib.Seq.{get_or-set_same, get_or-set_other}
use Rattle.sample.specs.Coordinate.{Coord, InRange}
use Rattle.sample.specs.declared.Sample.{Sample}
use Rattle.sample.specs.Samples.{Samples}
use Rattle.sizes.specs.Setup.{Tolerances, held_with}
use Rattle.checks.specs.Numbers.{PutNumber}
use Rattle.checks.proofs.Passed.{put_passed}
use Rattle.permission.specs.Finest.{Rising}
use Rattle.costs.proofs.Exit.{put_steps}
use Rattle.trace.specs.declared.Trace.{Trace}
use Rattle.trace.specs.Calls.{sizes, holding}
use Rattle.change.specs.Change.{Ready}
use Rattle.sizes.proofs.Held.{held_there, held_room, held_others}

-- the tolerances rise, as the walk asks
pub rising : {m : ℕ} {tols : List ℕ} → Tolerances m tols → Rising tols m
rising T = record { rise = T.rise; small = λ l h. omega (arith, T.high l h) }

-- what holds of a new value and of the others holds of each place
pub set_each : {A : Type 0} (z : A) (P : A → Type 0) (s : List A) (v n : ℕ) (x : A) → v < n → n ≤ length s → P x → ((q : ℕ) → q < n → (q ≡ v → ⊥) → P (get_or s q z))
    → (q : ℕ) → q < n → P (get_or (set s v x) q z)
set_each z P s v n x o h c others q l = elim (ℕ_discrete q v) [
  | yes e ↦ rw (e, get_or-set_same s v x z (omega arith)) c
  | no d ↦ rw (get_or-set_other s v q x z d) (others q l d)
]

-- a coordinate in range, put among others
put_range : (xs : List ℤ) (v n : ℕ) (x : ℤ) → v < n → n ≤ length xs → Coord x → ((q : ℕ) → q < n → (q ≡ v → ⊥) → Coord (get_or xs q (pos 0))) → InRange (set xs v x) n
put_range xs v n x o h c others = record { held = rw (length-set xs v x) h; each = set_each (pos 0) Coord xs v n x o h c others }

-- what a change of a sample asks
pub put_ready : (a : Trace) (xs : Samples) (t : List ℕ) (v : ℕ) (x : Sample) → PutNumber (sizes a) xs t v x 0 → Ready (sizes (holding a (held_with a.held v))) xs t v x
put_ready a xs t v x h =
    let p = put_passed (sizes a) xs t v x h in
    let P = p.0 in
    let c = p.2 in
    let n = held_with a.held v in
    let there = held_there a.held v p.3 in
    let room = held_room a.held v a.capacity P.held p.3 p.4 in
    let others = held_others a.held v p.3 in
    record {
      sizes = (P.sized.0, P.sized.1, P.sized.3, there, room);
      rising = rising P.tolerances;
      ranged = record {
        across = put_range xs.across v n x.across there (le_trans room P.lent.0) c.0 (λ q l d. (P.stored q (others q l d)).0);
        up = put_range xs.up v n x.up there (le_trans room P.lent.1) c.1 (λ q l d. (P.stored q (others q l d)).1);
      };
      marks = le_trans room P.lent.2;
      room = p.1.room;
      steps = put_steps a.capacity a.levels v a.held n others t p.1.cells;
    }
