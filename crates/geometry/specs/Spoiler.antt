-- What a verdict says: yes of every sample in turn, or no with the lowest that spoils; of a whole stretch, whether it is permitted. Assumes nothing.
use Rattle.std.specs.Prelude.{Bool, true, false, ℕ, ◌<◌}
use Rattle.geometry.specs.declared.Verdict.{Verdict}
use Rattle.geometry.specs.declared.Verdict.TheVariants.{Yes, No}
use Rattle.geometry.specs.Near.{Passable, Permitted}
use Rattle.sample.specs.Samples.{Samples}

-- each sample strictly between i and k is fine
abbrev pub Clear : (ℕ → Type 0) → ℕ → ℕ → Type 0
Clear Fine i k = (l : ℕ) → i < l → l < k → Fine l

-- of those strictly between i and j, k is the lowest that is not
pub record Spoiler (Fine : ℕ → Type 0) (i j k : ℕ) : Type 0 where
  pub after : i < k
  pub before : k < j
  pub spoils : Fine k → ⊥
  pub lowest : Clear Fine i k

-- what each verdict on those strictly between i and j says
abbrev pub Told : (ℕ → Type 0) → ℕ → ℕ → Verdict → Type 0
Told Fine i j Yes = Clear Fine i j
Told Fine i j (No k) = Spoiler Fine i j k

-- and on the stretch from i to j: it is permitted, or k is the lowest sample that is marked or lies too far away
abbrev pub Says : Samples → ℕ → ℕ → ℕ → Verdict → Type 0
Says xs i j e Yes = Permitted xs i j e
Says xs i j e (No k) = Spoiler (Passable xs i j e) i j k

-- whether an answer is yes
abbrev pub is_yes : Verdict → Bool
is_yes Yes = true
is_yes (No k) = false
