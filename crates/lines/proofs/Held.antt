-- The lines of what buffers hold: none, and one more; and the count of the levels as text. Assumes nothing.
use mathlib.Core.Path.{◌≡◌, refl, ◌∙◌}
use mathlib.Core.List.{List, [], ◌∷◌, ◌++◌}
use Prim.Native.Nat.{ℕ, ◌+◌}
use native.Mathlib.Numerals.{add-one}
use lib.IntN.{ℤ, pos}
use lib.ListN.{get_or}
use Rattle.text.specs.declared.Text.{Text}
use Rattle.text.specs.Text.{Written, places, decimal}
use Rattle.text.specs.Writes.{Writes}
use Rattle.text.proofs.Written.{written_more, written_as}
use Rattle.lines.specs.Lines.{sample_line}
use Rattle.lines.specs.Held.{held_lines}

pub three : decimal 3 ≡ 51 ∷ []
unfolding decimal places
three = refl

module _ (xs ys : List ℤ) (bytes : List ℕ) where
  pub held_none : held_lines xs ys bytes 0 ≡ []
  unfolding held_lines
  held_none = refl

  module _ (n : ℕ) where
    held_one : held_lines xs ys bytes (n + 1) ≡ held_lines xs ys bytes n ++ sample_line n (get_or xs n (pos 0)) (get_or ys n (pos 0)) (get_or bytes n 0)
    unfolding held_lines
    held_one = rw add-one

    -- a line more: t, which is that of sample n
    pub held_more : {out : List ℕ} {at : ℕ} {o : List ℕ} {r : ℕ} {t o' : List ℕ} {s : ℕ} → Written out at (held_lines xs ys bytes n) o r → Written o r t o' s
        → t ≡ sample_line n (get_or xs n (pos 0)) (get_or ys n (pos 0)) (get_or bytes n 0) → Written out at (held_lines xs ys bytes (n + 1)) o' s
    held_more W X e = rw held_one (written_more W (written_as e X))

    -- in one buffer
    pub line_more : {s u w : Text} {t : List ℕ} → Writes s (held_lines xs ys bytes n) u → Writes u t w
        → t ≡ sample_line n (get_or xs n (pos 0)) (get_or ys n (pos 0)) (get_or bytes n 0) → Writes s (held_lines xs ys bytes (n + 1)) w
    line_more W X e = record { same_buffer = X.same_buffer ∙ W.same_buffer; written = held_more W.written X.written e }
