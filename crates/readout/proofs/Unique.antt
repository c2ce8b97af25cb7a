-- A read-out leaves one result, whatever the table holds. Assumes nothing.
use mathlib.Core.Path.{◌≡◌, refl, sym, ◌∙◌}
use mathlib.Core.List.{List, ◌++◌}
use Prim.Native.Nat.{ℕ, ◌+◌, ◌-◌, ◌≤◌, ◌<◌}
use native.Mathlib.Nat.{le_refl}
use native.Mathlib.Decide.{dec_lt}
use native.Mathlib.Omega.{arith}
use lib.ListN.{length, take, drop}
use lib.Seq.{ext_get_or, length_front}
use Rattle.std.proofs.lemmas.List.{get_or-append_right, get_or_append_left, get_or-drop, length-take-le}
use Rattle.family.specs.Family.{Readout}
use Rattle.family.proofs.Counts.{segments_same, total_same}
use Rattle.family.proofs.Ranks.{read_same}
use Rattle.family.proofs.Local.{readout_cells}
use Rattle.family.proofs.Ties.{readout_unique}
use Rattle.table.specs.Table.{cell}
use Rattle.readout.specs.Read.{rank}
use Rattle.readout.specs.Lay.{Ranked, Counted, ReadBy}

pub ranked_unique : (t : List ℕ) (N m n : ℕ) (r e f : List ℕ) → Ranked t N m n r e → Ranked t N m n r f → e ≡ f
ranked_unique t N m n r e f E F = ext_get_or 0 e f (E.same ∙ sym F.same) (λ x h. elim (dec_lt x n) [
  | yes u ↦ readout_unique (cell t N) m n (rank e) (rank f) E.readout F.readout x u
  | no u ↦ E.other x (omega arith) ∙ sym (F.other x (omega arith))
])

pub counted_unique : (r : ℕ → ℕ) (m n : ℕ) (u v : List ℕ) (s w : ℕ) → Counted r m n u s → Counted r m n v w → (u ≡ v) × (s ≡ w)
counted_unique r m n u v s w A B = (
  ext_get_or 0 u v (A.room ∙ sym B.room) (λ x h. elim (dec_lt x m) [
    | yes l ↦ (let e : x + 1 - 1 ≡ x = omega arith in rw e at (A.level (x + 1) (omega arith) (omega arith) ∙ sym (B.level (x + 1) (omega arith) (omega arith))))
    | no l ↦ A.past x (omega arith) ∙ sym (B.past x (omega arith))
  ]),
  A.all ∙ sym B.all,
)

-- only the ranks of the n samples count
counted_ranks : (r s : ℕ → ℕ) (m n : ℕ) (per : List ℕ) (sum : ℕ) → 0 < n → ((x : ℕ) → x < n → r x ≡ s x) → Counted r m n per sum → Counted s m n per sum
counted_ranks r s m n per sum some same C = record {
  room = C.room;
  level = λ k a b. C.level k a b ∙ segments_same r s k k 0 (n - 1) (le_refl k) (λ x i j. rw (same x (omega arith)));
  past = C.past;
  all = C.all ∙ total_same r s m 0 (n - 1) (λ x i j. rw (same x (omega arith)));
}

pub readout_ranks : (c : ℕ → ℕ → ℕ → ℕ) (m n : ℕ) (r s : ℕ → ℕ) → 0 < n → ((x : ℕ) → x < n → s x ≡ r x) → Readout c m n r → Readout c m n s
readout_ranks c m n r s some same R = record {
  first = same 0 some ∙ R.first;
  last = same (n - 1) (omega arith) ∙ R.last;
  highest = λ x h. rw (same x h) (R.highest x h);
  read = read_same c m 0 (n - 1) r s (λ x i j. rw (same x (omega arith))) R.read;
}

-- so a read-out of the first n ranks alone, e, is one of them all
pub read_part : (t : List ℕ) (N m n : ℕ) (r e per : List ℕ) (sum : ℕ) → 0 < n → n ≤ length r → Ranked t N m (length (take n r)) (take n r) e
    → Counted (rank e) m (length e) per sum → ReadBy t N m n r (e ++ drop n r) per sum
read_part t N m n r e per sum some room R C =
    let z : length (take n r) ≡ n = length-take-le n r room in
    let y : length e ≡ n = R.same ∙ z in
    let front : (x : ℕ) → x < n → rank (e ++ drop n r) x ≡ rank e x = λ x h. get_or_append_left e (drop n r) 0 x (rw y h) in
    record {
      ranks = record {
        same = length_front r e n R.same;
        readout = readout_ranks (cell t N) m n (rank e) _ some front (rw z at R.readout);
        other = λ x h. get_or-append_right e (drop n r) n x 0 y h ∙ get_or-drop n r (x - n) 0 ∙ (let w : n + (x - n) ≡ x = omega arith in rw w refl);
      };
      counts = counted_ranks (rank e) _ m n _ _ some (λ x h. sym (front x h)) (rw y at C);
    }

-- any two results that the contract allows for one entry are equal
pub read_unique : (t : List ℕ) (N m n : ℕ) (r e f u v : List ℕ) (s w : ℕ) → ReadBy t N m n r e u s → ReadBy t N m n r f v w → (e ≡ f) × (u ≡ v) × (s ≡ w)
read_unique t N m n r e f u v s w A B =
    let g = ranked_unique t N m n r e f A.ranks B.ranks in
    let h = counted_unique (rank e) m n u v s w A.counts (rw g B.counts) in
    (g, h.0, h.1)

-- and only the cells of stretches i < j < n are read: tables with the same cells give the samples the same ranks, and the same counts
pub read_alike : (t t' : List ℕ) (N m n : ℕ) → 0 < n → ((k i j : ℕ) → 1 ≤ k → k ≤ m → i < j → j < n → cell t N k i j ≡ cell t' N k i j) → (r r' e f u v : List ℕ) (s w : ℕ)
    → ReadBy t N m n r e u s → ReadBy t' N m n r' f v w → ((x : ℕ) → x < n → rank e x ≡ rank f x) × (u ≡ v) × (s ≡ w)
read_alike t t' N m n some same r r' e f u v s w A B =
    let g = readout_unique (cell t' N) m n (rank e) (rank f) (readout_cells (cell t N) (cell t' N) m n (rank e) some same A.ranks.readout) B.ranks.readout in
    let h = counted_unique (rank f) m n u v s w (counted_ranks (rank e) (rank f) m n u s some g A.counts) B.counts in
    (g, h.0, h.1)
