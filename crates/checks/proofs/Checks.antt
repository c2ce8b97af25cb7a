-- What a row of tests that ends in Ok says of the setup, of what is lent and of the samples held; and a table's test by quotients. Assumes nothing.
use mathlib.Core.Path.{◌≡◌}
use mathlib.Core.Bool.{Bool, true}
use mathlib.Core.List.{List}
use Prim.Native.Nat.{ℕ, ◌*◌, ◌/◌, ◌≤◌, ◌<◌}
use native.Mathlib.Nat.{le_trans, mul_assoc, le-div_iff_mul-le}
use lib.Dec.{leb}
use lib.ListN.{length}
use borrow.Author.Tests.{leb-true}
use Rattle.std.specs.Prelude.{Ok}
use Rattle.refusal.proofs.Laws.{unless_done, then_done}
use Rattle.refusal.proofs.Plain.{carry, decides_unique, by_order}
use Rattle.sample.specs.Samples.{Samples}
use Rattle.sizes.specs.declared.Sizes.{Sizes}
use Rattle.sizes.specs.Setup.{Sized}
use Rattle.sizes.specs.Rows.{setup_outcome}
use Rattle.checks.specs.Numbers.{LentSamples, LentTable}
use Rattle.checks.specs.Rows.{lengths, samples_lent, lent_outcome}
use Rattle.sizes.proofs.Decided.{setup_done}
use Rattle.checks.proofs.Decided.{lent_samples}

-- what checks 1 to 4 have shown
pub record Lent (a : Sizes) (lent : Bool) : Type 0 where
  pub sized : Sized a.levels a.capacity
  pub long : lent ≡ true
  pub held : a.held ≤ a.capacity

pub lent_done : (a : Sizes) (lent : Bool) → lent_outcome a lent ≡ Ok tt → Lent a lent
unfolding lent_outcome
lent_done a lent h =
    let s = then_done (setup_outcome a.levels a.capacity a.tolerances) _ h in
    let l = then_done _ _ s.1 in
    record {
      sized = setup_done a.levels a.capacity a.tolerances s.0;
      long = unless_done lent _ l.0;
      held = leb-true a.held a.capacity (unless_done (leb a.held a.capacity) _ l.1);
    }

-- so each sample held has its places
pub samples_held : (a : Sizes) (xs : Samples) → lent_outcome a (samples_lent a.capacity (lengths xs)) ≡ Ok tt
    → (a.held ≤ length xs.across) × (a.held ≤ length xs.up) × (a.held ≤ length xs.marks)
samples_held a xs h =
    let l = lent_done a _ h in
    let p = (lent_samples a xs).right l.long in
    (le_trans l.held p.0, le_trans l.held p.1, le_trans l.held p.2)

-- and, where a table is lent, the stretches their cells, whatever else is lent
pub table_held : (a : Sizes) (xs : Samples) (t : List ℕ) {lent : Bool} → Lent a lent → LentSamples a xs × LentTable a t
    → ((a.held ≤ length xs.across) × (a.held ≤ length xs.up) × (a.held ≤ length xs.marks))
    × ((a.levels ≤ 16) × (a.capacity ≤ 256) × (a.levels * (a.capacity * a.capacity) ≤ length t) × (a.held ≤ a.capacity))
table_held a xs t l p =
    ((le_trans l.held p.0.0, le_trans l.held p.0.1, le_trans l.held p.0.2), (l.sized.1, l.sized.3, p.1, l.held))

-- a product is at most the cells exactly when a factor is at most the quotient
pub quotient : (m N cells : ℕ) → 0 < N → leb m (cells / N / N) ≡ leb (m * (N * N)) cells
quotient m N cells h =
    decides_unique _ _ (by_order m (cells / N / N))
    (carry
    (λ p. (le-div_iff_mul-le h).1 ((le-div_iff_mul-le h).1 (rw (mul_assoc m N N) p)))
    (λ p. rw (mul_assoc m N N) at ((le-div_iff_mul-le h).0 ((le-div_iff_mul-le h).0 p)))
    (by_order (m * (N * N)) cells))
