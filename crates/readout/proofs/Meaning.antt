-- What a read-out means in the paper's words: of a table that passes check 5, and of a table of costs. Assumes nothing.
use mathlib.Core.Path.{◌≡◌, sym, ◌∙◌}
use mathlib.Core.Bool.{Bool, true}
use mathlib.Core.List.{List}
use Prim.Native.Nat.{ℕ, suc, ◌-◌, ◌*◌, ◌≤◌, ◌<◌, zero-le}
use native.Mathlib.Omega.{arith}
use lib.ListN.{length, get_or}
use Rattle.refusal.specs.Check.{Decides}
use Rattle.family.specs.Lists.{none}
use Rattle.family.specs.Fine.{Checked}
use Rattle.family.specs.Path.{ReadsBest}
use Rattle.family.specs.Levels as Levels
use Rattle.family.specs.Levels.{levels, size}
use Rattle.family.proofs.Checks.{room, checked_most}
use Rattle.family.proofs.Foreign.{readout_best, best_readout}
use Rattle.family.proofs.Levels.{levels_segments, levels_total}
use Rattle.family.proofs.Promise.{read_promised}
use Rattle.table.specs.Table.{cell}
use Rattle.readout.specs.Read.{rank, RanksRead}
use Rattle.readout.specs.Lay.{ReadBy}
use Rattle.readout.proofs.Unique.{read_unique}

module _ (t : List ℕ) (N m n : ℕ) (r e per : List ℕ) (sum : ℕ) (R : ReadBy t N m n r e per sum) (some : 0 < n) where
  -- the list of level k
  abbrev level : ℕ → List ℕ
  level = levels (rank e) 0 (n - 1)

  -- the counts are those of the lists of sample numbers
  pub read_counts : (k : ℕ) → 1 ≤ k → k ≤ m → get_or per (k - 1) 0 ≡ length (level k) - 1
  read_counts k a b = R.counts.level k a b ∙ levels_segments (rank e) k 0 (n - 1) zero-le (omega (arith, R.ranks.readout.first))

  pub read_total : sum ≡ size level m
  read_total = R.counts.all ∙ levels_total (rank e) m 0 (n - 1) zero-le (omega (arith, R.ranks.readout.first))

  -- of any table that passes check 5 each level is the best path between neighbours of the level above
  pub read_best : 1 ≤ m → m ≤ 16 → n ≤ 256 → Checked (cell t N) m n → ReadsBest (cell t N) m n (rank e)
  read_best a b h C = readout_best (cell t N) m n (checked_most (cell t N) m n C) (room m n b h) a some (rank e) R.ranks.readout

  -- of a table whose every cell is the cost, the chosen one of the minimal families is written
  pub read_chosen : (Permit : ℕ → ℕ → ℕ → Type 0) (perm : ℕ → ℕ → ℕ → Bool) → ((k i : ℕ) → perm k i (suc i) ≡ true) → m * n < none
      → ((k i j : ℕ) → 1 ≤ k → k ≤ m → i < j → j < n → Decides (Permit k i j) (perm k i j))
      → Levels.Costs Permit (cell t N) m n → Levels.Chosen Permit m 0 (n - 1) level
  read_chosen Permit perm near fits decides C = read_promised Permit perm near m n fits decides (cell t N) some C (rank e) R.ranks.readout

-- a table that passes check 5
module _ (t : List ℕ) (N m n : ℕ) (one : 1 ≤ m) (few : m ≤ 16) (some : 0 < n) (small : n ≤ 256) (checked : Checked (cell t N) m n) (r : List ℕ) where
  -- what a read-out leaves is what the paper says
  pub read_ranks : (e per : List ℕ) (sum : ℕ) → ReadBy t N m n r e per sum → RanksRead t N m n r e per sum
  read_ranks e per sum R = record {
    same = R.ranks.same;
    best = read_best t N m n r e per sum R some one few small checked;
    other = R.ranks.other;
    room = R.counts.room;
    level = read_counts t N m n r e per sum R some;
    past = R.counts.past;
    all = read_total t N m n r e per sum R some;
  }

  -- and what the paper says is what a read-out leaves
  pub ranks_read : (e per : List ℕ) (sum : ℕ) → RanksRead t N m n r e per sum → ReadBy t N m n r e per sum
  ranks_read e per sum R = record {
    ranks = record {
      same = R.same;
      readout = best_readout (cell t N) m n (checked_most (cell t N) m n checked) (room m n few small) one some (rank e) R.best;
      other = R.other;
    };
    counts = record {
      room = R.room;
      level = λ k a b. R.level k a b ∙ sym (levels_segments (rank e) k 0 (n - 1) zero-le (omega (arith, R.best.first)));
      past = R.past;
      all = R.all ∙ sym (levels_total (rank e) m 0 (n - 1) zero-le (omega (arith, R.best.first)));
    };
  }

  -- so it is one result
  pub ranks_one : (e f u v : List ℕ) (s w : ℕ) → RanksRead t N m n r e u s → RanksRead t N m n r f v w → (e ≡ f) × (u ≡ v) × (s ≡ w)
  ranks_one e f u v s w A B = read_unique t N m n r e f u v s w (ranks_read e u s A) (ranks_read f v w B)
