-- Writing: nothing, one byte, one text after another, and where a text ends. Assumes nothing.
use mathlib.Core.Path.{◌≡◌, refl, sym, ap, ◌∙◌}
use mathlib.Core.List.{List, [], ◌∷◌, ◌++◌, append_assoc, append-nil}
use Prim.Native.Nat.{ℕ, zero, suc, ◌+◌, ◌-◌, ◌≤◌, min}
use native.Mathlib.Omega.{arith}
use lib.ListN.{length, take, drop, length-append, length-take, take-append-drop}
use lib.Seq.{take-append-add, take_all, drop-drop, length-take-le}
use borrow.Rule.Slice.PartMut.{put_mid}
use Rattle.std.proofs.Common.{rules}
use Rattle.std.proofs.lemmas.List.{take_min}
use Rattle.std.proofs.lemmas.Slice.{take-put_mid, drop-put_mid, overwrites}
use Rattle.text.specs.declared.Text.{Text}
use Rattle.text.specs.Text.{Written}
use Rattle.text.specs.Writes.{Writes}

-- a text that is cut and goes on is cut where the whole is
cut_more : (n : ℕ) (x u : List ℕ) → take n (take n x ++ u) ≡ take n (x ++ u)
cut_more zero x u = refl
cut_more (suc n) [] u = refl
cut_more (suc n) (a ∷ x) u = ap (λ (l : List ℕ). a ∷ l) (cut_more n x u)

-- the text ends behind its bytes, or at the buffer's end
pub written_end : {out : List ℕ} {at : ℕ} {t out' : List ℕ} {r : ℕ} → at ≤ length out → Written out at t out' r → r ≡ min (length out) (at + length t)
written_end {out} {at} {t} {out'} {r} h W =
    sym (length-take-le r out' W.fits) ∙ ap length W.text
    ∙ simp (length-take, length-append) (omega arith)

-- so what a writer leaves, and where the text ends, is one
pub written_one : {out : List ℕ} {at : ℕ} {t o p : List ℕ} {r s : ℕ} → at ≤ length out → Written out at t o r → Written out at t p s → (r ≡ s) × (o ≡ p)
written_one {out} {at} {t} {o} {p} {r} {s} h W X =
    let e : r ≡ s = written_end h W ∙ sym (written_end h X) in
    (e, sym (take-append-drop r o) ∙ rw (W.text, W.rest, e, ← X.text, ← X.rest) (take-append-drop s p))

-- ---- nothing, and one byte, which has room or has none
pub written_none : {out : List ℕ} {at : ℕ} → at ≤ length out → Written out at [] out at
written_none {out} {at} h = record {
  same = refl;
  fits = h;
  text = rw append-nil (sym (take_all (length out) (take at out) (omega (arith, length-take at out))));
  rest = refl;
}

-- a text in its place, as far as there is room
pub written_text : (out : List ℕ) (at : ℕ) (t : List ℕ) (k n : ℕ) (u : List ℕ) → at ≤ length out → n ≡ min (length t) (length out - at) → k ≡ n → u ≡ take n t
    → Written out at t (put_mid at k out u) (at + n)
written_text out at t k n u h e f g =
    let m : length u ≡ n = rw g (length-take-le n t (omega arith)) in
    let same : length (put_mid at k out u) ≡ length out = search (rules, overwrites) in
    let whole : length out ≡ length (take at out) + (length out - at) = omega (arith, length-take-le at out h) in
    let part : take (length out - at) t ≡ u = sym (take_min (length out - at) t) ∙ ap (λ m. take m t) (omega arith) ∙ sym g in
    let cut : take (length out) (take at out ++ t) ≡ take at out ++ u =
    ap (λ m. take m (take at out ++ t)) whole ∙ take-append-add (take at out) t (length out - at) ∙ ap (λ l. take at out ++ l) part
    in
    record {
      same = same;
      fits = omega arith;
      text = take-put_mid at k out u (at + n) (omega arith) h ∙ sym cut;
      rest = drop-put_mid at k out u (at + n) (omega arith) h (omega arith);
    }

-- ---- one text after another
drop_later : (r s : ℕ) (a b : List ℕ) → r ≤ s → drop r a ≡ drop r b → drop s a ≡ drop s b
drop_later r s a b h e =
    let z : r + (s - r) ≡ s = omega arith in
    rw (sym z, ← drop-drop (s - r) r a, ← drop-drop (s - r) r b, e)

pub written_more : {out : List ℕ} {at : ℕ} {t o : List ℕ} {r : ℕ} {u o' : List ℕ} {s : ℕ} → Written out at t o r → Written o r u o' s → Written out at (t ++ u) o' s
written_more {out} {at} {t} {o} {r} {u} {o'} {s} W X = record {
  same = X.same ∙ W.same;
  fits = X.fits;
  text = X.text ∙ rw (W.same, W.text, cut_more (length out) (take at out ++ t) u, append_assoc);
  rest = X.rest ∙ drop_later r s o out (omega (arith, written_end W.fits X, W.fits)) W.rest;
}

-- the same text in other words
pub written_as : {out : List ℕ} {at : ℕ} {t u out' : List ℕ} {r : ℕ} → t ≡ u → Written out at t out' r → Written out at u out' r
written_as e W = rw e at W

-- ---- the same of texts in a buffer
pub writes_none : (s : Text) → Writes s [] s
writes_none s = record { same_buffer = refl; written = written_none s.in_range }

module _ {s u : Text} {t : List ℕ} (W : Writes s t u) where
  pub writes_as : (v : List ℕ) → t ≡ v → Writes s v u
  writes_as v e = rw e at W

  pub writes_more : {v : List ℕ} {w : Text} → Writes u v w → Writes s (t ++ v) w
  writes_more X = record { same_buffer = X.same_buffer ∙ W.same_buffer; written = written_more W.written X.written }
