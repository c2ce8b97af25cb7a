-- Each test of a check decides the plain statement of its row. Assumes nothing.
use mathlib.Core.Path.{◌≡◌}
use mathlib.Core.Logic.{inl, inr, ⊎_elim}
use mathlib.Core.Bool.{false, ◌&&◌}
use mathlib.Core.List.{List}
use Prim.Native.Nat.{ℕ, ◌*◌, ◌≤◌, ◌<◌}
use native.Mathlib.Nat.{lt_of_not-le}
use native.Mathlib.Omega.{arith}
use lib.Dec.{leb}
use lib.ListN.{length}
use borrow.Author.Tests.{leb-false, ltb-false}
use Rattle.refusal.specs.Check.{Decides}
use Rattle.refusal.proofs.Laws.{and_fails}
use Rattle.refusal.proofs.Plain.{carry, by_less, by_order, by_equal, both_decided, from_to_decided}
use Rattle.sample.specs.Samples.{Samples}
use Rattle.sample.proofs.Decided.{samples_decided}
use Rattle.table.proofs.Check.{cells_decided}
use Rattle.sizes.specs.declared.Sizes.{Sizes}
use Rattle.checks.specs.Numbers.{LentSamples, LentTable, StoredSamples, StoredCells, Absent, OneLength}
use Rattle.checks.specs.Rows.{lengths, samples_lent, table_lent, stored_ok, stretch_ok, lists_ok}

-- what is lent: the samples alone; with the table; with the table and the ranks
pub lent_samples : (a : Sizes) (xs : Samples) → Decides (LentSamples a xs) (samples_lent a.capacity (lengths xs))
lent_samples a xs =
    carry (λ p. (p.0.0, p.0.1, p.1)) (λ p. ((p.0, p.1), p.2))
    (both_decided _ _ (both_decided _ _ (by_order a.capacity (length xs.across)) (by_order a.capacity (length xs.up))) (by_order a.capacity (length xs.marks)))

pub lent_table : (a : Sizes) (xs : Samples) (t : List ℕ) → Decides (LentSamples a xs × LentTable a t) (samples_lent a.capacity (lengths xs) && table_lent a (length t))
lent_table a xs t = both_decided _ _ (lent_samples a xs) (by_order (a.levels * (a.capacity * a.capacity)) (length t))

pub lent_ranks : (a : Sizes) (xs : Samples) (t ranks : List ℕ)
    → Decides (LentSamples a xs × LentTable a t × (a.held ≤ length ranks)) ((samples_lent a.capacity (lengths xs) && table_lent a (length t)) && leb a.held (length ranks))
lent_ranks a xs t ranks =
    carry (λ p. (p.0.0, p.0.1, p.1)) (λ p. ((p.0, p.1), p.2)) (both_decided _ _ (lent_table a xs t) (by_order a.held (length ranks)))

pub stored_decided : (a : Sizes) (xs : Samples) (t : List ℕ)
    → Decides (StoredSamples a xs × StoredCells a t) (stored_ok a xs t)
unfolding stored_ok
stored_decided a xs t = both_decided _ _ (samples_decided xs a.held) (cells_decided t a.capacity a.held a.levels)

pub lists_decided : (us : Samples) → Decides (OneLength us) (lists_ok (lengths us))
lists_decided us = both_decided _ _ (by_equal (length us.across) (length us.up)) (by_equal (length us.across) (length us.marks))

-- ---- a stretch and a level that are there: the opposite of `Absent`
abbrev pub There : Sizes → ℕ → ℕ → ℕ → Type 0
There a k i j = (i < j) × (j < a.held) × (1 ≤ k) × (k ≤ a.levels)

pub there_decided : (a : Sizes) (k i j : ℕ) → Decides (There a k i j) (stretch_ok a k i j)
unfolding stretch_ok
there_decided a k i j =
    carry (λ p. (p.0, p.1.0, p.1.1.0, p.1.1.1)) (λ p. (p.0, (p.1, (p.2, p.3))))
    (both_decided _ _ (by_less i j) (both_decided _ _ (by_less j a.held) (from_to_decided 1 a.levels k)))

pub absent : (a : Sizes) (k i j : ℕ) → stretch_ok a k i j ≡ false → Absent a k i j
unfolding stretch_ok
absent a k i j e =
    ⊎_elim
    (λ t. inl (ltb-false i j t))
    (λ t. inr (⊎_elim
    (λ t. inl (ltb-false j a.held t))
    (λ t. inr (⊎_elim (λ t. inl (leb-false 1 k t)) (λ t. inr (leb-false k a.levels t)) (and_fails _ _ t)))
    (and_fails _ _ t)))
    (and_fails _ _ e)

pub not_both : (a : Sizes) (k i j : ℕ) → Absent a k i j → There a k i j → ⊥
not_both a k i j (inl h) s = omega arith
not_both a k i j (inr (inl h)) s = omega arith
not_both a k i j (inr (inr (inl h))) s = omega arith
not_both a k i j (inr (inr (inr h))) s = omega arith

pub there : (a : Sizes) (k i j : ℕ) → (Absent a k i j → ⊥) → There a k i j
there a k i j h = (
  lt_of_not-le (λ l. h (inl l)),
  lt_of_not-le (λ l. h (inr (inl l))),
  omega (arith, lt_of_not-le (λ l. h (inr (inr (inl l))))),
  omega (arith, lt_of_not-le (λ l. h (inr (inr (inr l))))),
)
