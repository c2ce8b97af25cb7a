-- The samples of a file as lists: what stands where, and the levels chosen of buffers that begin with them are those of the lists. Assumes nothing.
use mathlib.Core.Path.{◌≡◌, refl, sym, subst, ◌∙◌}
use mathlib.Core.List.{List, [], ◌∷◌}
use Prim.Native.Nat.{ℕ, zero, suc, ◌-◌, ◌≤◌, ◌<◌}
use native.Mathlib.Decide.{dec_lt}
use native.Mathlib.Omega.{arith}
use lib.IntN.{ℤ, pos}
use lib.ListN.{length, get_or, length-append, get_or-append}
use lib.Seq.{get_or_at}
use Rattle.refusal.specs.Check.{Decides}
use Rattle.sample.specs.Coordinate.{InRange}
use Rattle.sample.specs.Samples.{Samples}
use Rattle.sample.specs.Sweep.{Ranged}
use Rattle.geometry.proofs.Permits.{Same}
use Rattle.family.specs.Levels.{Chosen, levels}
use Rattle.family.proofs.Choices.{chosen_levels}
use Rattle.costs.specs.Costs.{Permit}
use Rattle.permission.specs.Finest.{perm}
use Rattle.permission.proofs.Perm.{perm_same}
use Rattle.costs.proofs.Meaning.{permissions}
use Rattle.day.specs.Day.{listed, day_sample, day_samples}

pub listed_length : {A : Type 0} (f : ℕ → A) (n : ℕ) → length (listed f n) ≡ n
unfolding listed
listed_length f zero = refl
listed_length f (suc n) = simp length-append (omega (arith, listed_length f n))

pub listed_at : {A : Type 0} (z : A) (f : ℕ → A) (n q : ℕ) → q < n → get_or (listed f n) q z ≡ f q
unfolding listed
listed_at z f zero q h = absurd (omega arith)
listed_at z f (suc n) q h = elim (dec_lt q n) [
  | yes y ↦ get_or-append (listed f n) (f n ∷ []) z q (omega (arith, listed_length f n)) ∙ listed_at z f n q y
  | no y ↦ (let e : q ≡ n = omega arith in rw e (get_or_at (listed f n) (f n) [] z n (listed_length f n)))
]

-- buffers that begin with the samples of n records
module _ (s : List ℕ) (xs : Samples) (tols : List ℕ) (m n : ℕ) (ranged : Ranged xs n)
    (across : (q : ℕ) → q < n → get_or xs.across q (pos 0) ≡ (day_sample s q).across)
    (up : (q : ℕ) → q < n → get_or xs.up q (pos 0) ≡ (day_sample s q).up)
    (marks : (q : ℕ) → q < n → get_or xs.marks q 0 ≡ (day_sample s q).mark) where
  listed_range : (h : ℕ → ℤ) (zs : List ℤ) → InRange zs n → ((q : ℕ) → q < n → get_or zs q (pos 0) ≡ h q) → InRange (listed h n) n
  listed_range h zs I e = record { held = omega (arith, listed_length h n); each = λ q o. rw (listed_at (pos 0) h n q o, ← e q o) (I.each q o) }

  listed_ranged : Ranged (day_samples s n) n
  listed_ranged = record {
    across = listed_range (λ q. (day_sample s q).across) xs.across ranged.across across;
    up = listed_range (λ q. (day_sample s q).up) xs.up ranged.up up;
  }

  same : (i j : ℕ) → j < n → Same xs (day_samples s n) i j
  same i j h = record {
    across = λ q u v. across q (omega arith) ∙ sym (listed_at (pos 0) (λ q. (day_sample s q).across) n q (omega arith));
    up = λ q u v. up q (omega arith) ∙ sym (listed_at (pos 0) (λ q. (day_sample s q).up) n q (omega arith));
    marks = λ q u v. let e = marks q (omega arith) ∙ sym (listed_at 0 (λ q. (day_sample s q).mark) n q (omega arith)) in (λ p. sym e ∙ p, λ p. e ∙ p);
  }

  decides : (k i j : ℕ) → 1 ≤ k → k ≤ m → i < j → j < n → Decides (Permit (day_samples s n) tols k i j) (perm xs tols k i j)
  decides k i j a b o h =
      subst (Decides (Permit (day_samples s n) tols k i j)) (sym (perm_same xs (day_samples s n) tols k i j (same i j h)))
      (permissions (day_samples s n) tols m n listed_ranged k i j a b o h)

  pub chosen_listed : 0 < n → (r : ℕ → ℕ) → ((x : ℕ) → x < n → r x ≤ m) → Chosen (Permit xs tols) m 0 (n - 1) (levels r 0 (n - 1))
      → Chosen (Permit (day_samples s n) tols) m 0 (n - 1) (levels r 0 (n - 1))
  chosen_listed some r high C =
      (chosen_levels (Permit (day_samples s n) tols) (perm xs tols) m n decides some r high).0
      ((chosen_levels (Permit xs tols) (perm xs tols) m n (permissions xs tols m n ranged) some r high).1 C)
