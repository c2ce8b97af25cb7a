-- Laws of the answer about a stretch: there is one and no other, it is yes exactly when the stretch is permitted, and otherwise it is no with the spoiler. The answer by
-- computing is that one. Assumes nothing.
use mathlib.Core.Path.{◌≡◌, refl, ap}
use mathlib.Core.Bool.{Bool, ◌&&◌, not}
use mathlib.Core.List.{List}
use mathlib.Core.Logic.{◌↔◌}
use Prim.Native.Nat.{ℕ, zero, suc, ◌+◌, ◌-◌, ◌≤◌, ◌<◌}
use native.Mathlib.Nat.{le_antisymm}
use native.Mathlib.Decide.{dec_lt}
use native.Mathlib.Omega.{arith}
use lib.ListN.{get_or}
use Rattle.refusal.specs.Check.{Decides}
use Rattle.refusal.proofs.Plain.{by_cond, yes_decides, no_decides, not_decided, by_equal, both_decided}
use Rattle.geometry.specs.declared.Verdict.{Verdict}
use Rattle.geometry.specs.declared.Verdict.TheVariants.{Yes, No}
use Rattle.sample.specs.Mark.{Marked, marked}
use Rattle.geometry.specs.Near.{Passable, Permitted}
use Rattle.sample.specs.Samples.{Samples}
use Rattle.geometry.specs.Spoiler.{Clear, Spoiler, Told, Says, is_yes}
use Rattle.sample.specs.Sweep.{Ranged}
use Rattle.geometry.specs.Test.{lowest, judged, permits}
use Rattle.geometry.proofs.Link.{decides_near}

-- ---- the spoiler
lowest_le : {P : ℕ → Type 0} {i j k l : ℕ} → Spoiler P i j k → Spoiler P i j l → k ≤ l
lowest_le {k = k} {l = l} s t = elim (dec_lt l k) [
  | yes h ↦ absurd (t.spoils (s.lowest l t.after h))
  | no n ↦ omega arith
]

pub spoiler_one : {P : ℕ → Type 0} {i j k l : ℕ} → Spoiler P i j k → Spoiler P i j l → k ≡ l
spoiler_one s t = le_antisymm (lowest_le s t) (lowest_le t s)

not_clear : {P : ℕ → Type 0} {i j k : ℕ} → Spoiler P i j k → Clear P i j → ⊥
not_clear s c = s.spoils (c _ s.after s.before)

-- what is equivalent between i and j has the same
pub spoiler_carried : {P Q : ℕ → Type 0} {i j k : ℕ} → ((l : ℕ) → i < l → l < j → P l ↔ Q l) → Spoiler P i j k → Spoiler Q i j k
spoiler_carried f s = record {
  after = s.after;
  before = s.before;
  spoils = λ q. s.spoils ((f _ s.after s.before).1 q);
  lowest = λ l a b. (f l a (omega (arith, s.before))).0 (s.lowest l a b);
}

-- ---- the answer
pub spoiled : {xs : Samples} {i j e k : ℕ} → Spoiler (Passable xs i j e) i j k → Permitted xs i j e → ⊥
spoiled s p = not_clear s p.each

module _ (xs : Samples) (i j e : ℕ) where
  -- any two are equal
  pub says_one : (v w : Verdict) → Says xs i j e v → Says xs i j e w → v ≡ w
  says_one Yes Yes p q = refl
  says_one Yes (No k) p s = absurd (spoiled s p)
  says_one (No k) Yes s p = absurd (spoiled s p)
  says_one (No k) (No l) s t = ap No (spoiler_one s t)

  -- yes exactly when the stretch is permitted, and no with k exactly when k is the spoiler
  pub says_yes : (v : Verdict) → Says xs i j e v → (v ≡ Yes) ↔ Permitted xs i j e
  says_yes v s = (λ h. rw h at s, λ p. says_one v Yes s p)

  pub says_no : (v : Verdict) (k : ℕ) → Says xs i j e v → (v ≡ No k) ↔ Spoiler (Passable xs i j e) i j k
  says_no v k s = (λ h. rw h at s, λ t. says_one v (No k) s t)

  pub says_decides : (v : Verdict) → Says xs i j e v → Decides (Permitted xs i j e) (is_yes v)
  says_decides Yes p = yes_decides p
  says_decides (No k) s = no_decides (spoiled s)

-- ---- the answer by computing
-- a sample that is not marked, and of which a test decides a statement
unmarked_and : {P : Type 0} (ms : List ℕ) (k : ℕ) (t : Bool) → Decides P t → Decides ((Marked ms k → ⊥) × P) (not (marked ms k) && t)
unfolding marked
unmarked_and ms k t d = both_decided (not (marked ms k)) t (not_decided (by_equal (get_or ms k 0) 1)) d

-- one number more at the beginning
clear_more : (P : ℕ → Type 0) (i j : ℕ) → P (suc i) → Clear P (suc i) j → Clear P i j
clear_more P i j p c l a b = elim (dec_lt (suc i) l) [
  | yes h ↦ c l h b
  | no n ↦ (let e : l ≡ suc i = omega arith in rw e p)
]

told_more : (P : ℕ → Type 0) (i j : ℕ) (v : Verdict) → P (suc i) → Told P (suc i) j v → Told P i j v
told_more P i j Yes p c = clear_more P i j p c
told_more P i j (No k) p s = record { after = omega (arith, s.after); before = s.before; spoils = s.spoils; lowest = clear_more P i k p s.lowest }

lowest_told : (P : ℕ → Type 0) (f : ℕ → Bool) (i j n : ℕ) → n ≡ j - suc i → ((k : ℕ) → i < k → k < j → Decides (P k) (f k)) → Told P i j (lowest f (suc i) n)
unfolding lowest
lowest_told P f i j zero e d = λ l a b. absurd (omega arith)
lowest_told P f i j (suc n) e d =
    by_cond (Told P i j) (f (suc i))
    (λ t. told_more P i j (lowest f (suc (suc i)) n) ((d (suc i) (omega arith) (omega arith)).right t) (lowest_told P f (suc i) j n (omega arith) (λ k a b. d k (omega arith) b)))
    (λ t. record { after = omega arith; before = omega arith; spoils = (d (suc i) (omega arith) (omega arith)).wrong t; lowest = λ l a b. absurd (omega arith) })

pub judged_told : (xs : Samples) (i j e : ℕ) → Says xs i j e (judged xs i j e)
unfolding judged
judged_told xs i j e =
    by (judged xs i j e)
    (lowest_told (Passable xs i j e) _ i j (j - suc i) refl (λ k a b. unmarked_and xs.marks k _ decides_near))
  where
    by : (v : Verdict) → Told (Passable xs i j e) i j v → Says xs i j e v
    by Yes c = record { each = c }
    by (No k) s = s

pub permits_told : (xs : Samples) (i j e : ℕ) → Decides (Permitted xs i j e) (permits xs i j e)
unfolding permits
permits_told xs i j e = says_decides xs i j e (judged xs i j e) (judged_told xs i j e)

-- the same, as it is asked for above: of a stretch in range, which it does not need
pub judged_says : (xs : Samples) (i j e : ℕ) → Ranged xs (j + 1) → i < j → Says xs i j e (judged xs i j e)
judged_says xs i j e h o = judged_told xs i j e

pub permits_decided : (xs : Samples) (i j e : ℕ) → Ranged xs (j + 1) → i < j → Decides (Permitted xs i j e) (permits xs i j e)
permits_decided xs i j e h o = permits_told xs i j e
