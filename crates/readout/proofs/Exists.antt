-- There is a read-out from every entry that has the room: the ranks that `rank` works out, and their counts. Assumes nothing.
use mathlib.Core.Path.{◌≡◌, refl, ◌∙◌}
use mathlib.Core.List.{List}
use Prim.Native.Nat.{ℕ, ◌+◌, ◌-◌, ◌≤◌, ◌<◌}
use native.Mathlib.Omega.{arith}
use lib.ListN.{length, replicate}
use Rattle.family.specs.Fine.{Checked}
use Rattle.family.specs.Family.{segments, total}
use Rattle.family.specs.Family as Family
use Rattle.family.proofs.Ranks.{readout}
use Rattle.table.specs.Table.{cell}
use Rattle.table.proofs.Stops.{zeros}
use Rattle.table.proofs.Writes.{anew}
use Rattle.readout.specs.Read.{rank, RanksRead}
use Rattle.readout.specs.Lay.{Ranked, Counted, ReadBy}
use Rattle.readout.proofs.Unique.{readout_ranks}
use Rattle.readout.proofs.Meaning.{read_ranks}

ranked_some : (t : List ℕ) (N m n : ℕ) (r : List ℕ) → 0 < n → n ≤ length r → (e : List ℕ) × Ranked t N m n r e
ranked_some t N m n r some room =
    let f = Family.rank (cell t N) m 0 (n - 1) in
    let w = anew (λ x y. y ≡ f x) n r room (λ x h. (f x, refl)) in
    (w.0, record { same = w.1.same; readout = readout_ranks (cell t N) m n f (rank w.0) some w.1.first (readout (cell t N) m n); other = w.1.other })

counted_some : (r : ℕ → ℕ) (m n : ℕ) → m ≤ 16 → (per : List ℕ) × Counted r m n per (total r m 0 (n - 1))
counted_some r m n few =
    let w = anew (λ x y. y ≡ segments r (x + 1) 0 (n - 1)) m (replicate 16 0) few (λ x h. (segments r (x + 1) 0 (n - 1), refl)) in (
      w.0,
      record {
        room = w.1.same;
        level = λ k a b. w.1.first (k - 1) (omega arith) ∙ (let e : k - 1 + 1 ≡ k = omega arith in rw e refl);
        past = λ x h. w.1.other x h ∙ zeros 16 x;
        all = refl;
      },
    )

pub read_by_some : (t : List ℕ) (N m n : ℕ) (r : List ℕ) → m ≤ 16 → 0 < n → n ≤ length r → (e : List ℕ) × (per : List ℕ) × (sum : ℕ) × ReadBy t N m n r e per sum
read_by_some t N m n r few some room =
    let R = ranked_some t N m n r some room in
    let C = counted_some (rank R.0) m n few in
    (R.0, C.0, total (rank R.0) m 0 (n - 1), record { ranks = R.1; counts = C.1 })

-- so of a table that passes check 5 there is what the paper says
pub ranks_some : (t : List ℕ) (N m n : ℕ) → 1 ≤ m → m ≤ 16 → 0 < n → n ≤ 256 → Checked (cell t N) m n → (r : List ℕ) → n ≤ length r
    → (e : List ℕ) × (per : List ℕ) × (sum : ℕ) × RanksRead t N m n r e per sum
ranks_some t N m n one few some small checked r room =
    let R = read_by_some t N m n r few some room in
    (R.0, R.1, R.2, read_ranks t N m n one few some small checked r R.0 R.1 R.2 R.3)
