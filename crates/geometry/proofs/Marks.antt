-- The marks of a stretch apart from its distances: where none lies between, distances alone decide, and the lowest marked sample spoils where none before it lies too far away. Assumes nothing.
use mathlib.Core.Logic.{⊎_elim}
use mathlib.Core.List.{List}
use Prim.Native.Nat.{ℕ, ◌+◌, ◌≤◌, ◌<◌}
use native.Mathlib.Nat.{le_refl}
use native.Mathlib.Omega.{arith}
use Rattle.geometry.specs.declared.Verdict.{Verdict}
use Rattle.geometry.specs.declared.Verdict.TheVariants.{Yes, No}
use Rattle.sample.specs.Mark.{Marked}
use Rattle.geometry.specs.Near.{Along, Passable, Permitted}
use Rattle.sample.specs.Samples.{Samples}
use Rattle.geometry.specs.Spoiler.{Clear, Spoiler, Told, Says}
use Rattle.sample.specs.Sweep.{FirstMarked}

-- no sample strictly between i and j is marked
abbrev pub Unmarked : List ℕ → ℕ → ℕ → Type 0
Unmarked ms = Clear (λ k. Marked ms k → ⊥)

module _ (xs : Samples) (i j e : ℕ) where
  pub passable_clear : {k : ℕ} → Unmarked xs.marks i k → Clear (Along xs.across xs.up i j e) i k → Clear (Passable xs i j e) i k
  passable_clear u c l a b = (u l a b, c l a b)

  -- the lowest sample before r that lies too far away is the spoiler, where none before r is marked
  far_spoils : {r k : ℕ} → r ≤ j → Unmarked xs.marks i r → Spoiler (Along xs.across xs.up i j e) i r k → Spoiler (Passable xs i j e) i j k
  far_spoils h u s = record {
    after = s.after;
    before = omega (arith, s.before);
    spoils = λ p. s.spoils p.1;
    lowest = passable_clear (λ l a b. u l a (omega (arith, s.before))) s.lowest;
  }

  -- so where none is marked a verdict by distance is one on the stretch
  pub unmarked_says : Unmarked xs.marks i j → (v : Verdict) → Told (Along xs.across xs.up i j e) i j v → Says xs i j e v
  unmarked_says u Yes c = record { each = passable_clear u c }
  unmarked_says u (No k) s = far_spoils (le_refl j) u s

  module _ {r : ℕ} (f : FirstMarked xs.marks (i + 1) j r) where
    before : Unmarked xs.marks i r
    before l a b = f.lowest l (omega arith) b

    -- what is said of the samples before the lowest marked one, where it is no, is said of the stretch
    pub far_first : {k : ℕ} → Spoiler (Along xs.across xs.up i j e) i r k → Spoiler (Passable xs i j e) i j k
    far_first s = far_spoils (⊎_elim (λ t. omega arith) (λ t. omega arith) f.there) before s

    -- where it is yes, that one spoils
    pub marked_first : r < j → Clear (Along xs.across xs.up i j e) i r → Spoiler (Passable xs i j e) i j r
    marked_first h c = record {
      after = omega (arith, f.from);
      before = h;
      spoils = λ p. ⊎_elim (λ t. p.0 t.1) (λ t. omega arith) f.there;
      lowest = passable_clear before c;
    }

    -- and where there is none the stretch is permitted
    pub none_marked : j ≤ r → Clear (Along xs.across xs.up i j e) i r → Permitted xs i j e
    none_marked h c = record { each = passable_clear (λ l a b. before l a (omega arith)) (λ l a b. c l a (omega arith)) }
