-- Counts: one sample more of a level, and one level more. Assumes nothing.
use mathlib.Core.Path.{◌≡◌, refl, sym, ◌∙◌}
use mathlib.Core.List.{List}
use Prim.Native.Nat.{ℕ, zero, suc, ◌+◌, ◌-◌, ◌<◌, zero-le}
use native.Mathlib.Numerals.{add-one, one-add}
use native.Mathlib.Omega.{arith}
use native.Mathlib.Decide.{ℕ_discrete, dec_le}
use lib.Dec.{leb}
use lib.ListN.{length, get_or, set, take, drop, length-set, length-drop}
use borrow.Author.Tests.{le-leb, lt-leb}
use Rattle.std.specs.List.{count_by}
use Rattle.std.proofs.lemmas.List.Sums.{count_by_more_yes, count_by_more_no}
use Rattle.std.proofs.lemmas.Grind.{get_or_after_one}
use lib.Seq.{get_or-set_same, get_or-set_other}
use Rattle.family.specs.Family.{segments, total}
use Rattle.family.proofs.Counts.{one_yes, one_no, segments_nil, segments_suc}
use Rattle.readout.specs.Read.{rank}
use Rattle.readout.specs.Lay.{Counted}

-- the segments are the samples of the level after the first
pub segments_by : (e : List ℕ) (k x : ℕ) → x < length e → count_by (λ y. leb k y) (take x (drop 1 e)) ≡ segments (rank e) k 0 x
segments_by e k zero h = sym (segments_nil (rank e) k 0 0 zero-le)
segments_by e k (suc x) h =
    let z : x < length (drop 1 e) = simp length-drop (omega arith) in
    let a : get_or (drop 1 e) x 0 ≡ rank e (suc x) = get_or_after_one e x 0 ∙ rw one-add refl in
    let more = segments_suc (rank e) k 0 x zero-le in
    let rest = segments_by e k x (omega arith) in
    elim (dec_le k (rank e (suc x))) [
      | yes y ↦ omega (arith, rw (add-one x) at (count_by_more_yes (λ y. leb k y) (drop 1 e) x 0 z (rw a (le-leb _ _ y))), rest, more, one_yes (rank e) k (suc x) y)
      | no n ↦ omega (arith, rw (add-one x) at (count_by_more_no (λ y. leb k y) (drop 1 e) x 0 z (rw a (lt-leb _ _ (omega arith)))), rest, more, one_no (rank e) k (suc x) (omega arith))
    ]

total_up : (r : ℕ → ℕ) (k i j : ℕ) → total r (k + 1) i j ≡ segments r (k + 1) i j + total r k i j
unfolding total
total_up r k i j = rw add-one refl

module _ (r : ℕ → ℕ) (n : ℕ) where
  pub counted_none : (per : List ℕ) → length per ≡ 16 → ((x : ℕ) → get_or per x 0 ≡ 0) → Counted r 0 n per 0
  unfolding total
  counted_none per h z = record { room = h; level = λ k a b. absurd (omega arith); past = λ x a. z x; all = refl }

  pub counted_more : (l : ℕ) (per : List ℕ) (s v : ℕ) → l < length per → v ≡ segments r (l + 1) 0 (n - 1) → Counted r l n per s → Counted r (l + 1) n (set per l v) (s + v)
  counted_more l per s v h e C = record {
    room = length-set per l v ∙ C.room;
    level = λ k a b. elim (ℕ_discrete k (l + 1)) [
      | yes q ↦ (let g : l + 1 - 1 ≡ l = omega arith in rw (q, g, get_or-set_same per l v 0 h) e)
      | no q ↦ get_or-set_other per l (k - 1) v 0 (omega arith) ∙ C.level k a (omega arith)
    ];
    past = λ x a. get_or-set_other per l x v 0 (omega arith) ∙ C.past x (omega arith);
    all = omega (arith, total_up r l 0 (n - 1), C.all);
  }
