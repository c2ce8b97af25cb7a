-- A text more in the buffer of another. Assumes nothing.
use Rattle.std.specs.Prelude.{◌≡◌, List, ℕ}
use Rattle.text.specs.declared.Text.{Text}
use Rattle.text.specs.Text.{Written}

-- the bytes t were written after those of s, into the same buffer: u is the whole
pub record Writes (s : Text) (t : List ℕ) (u : Text) : Type 0 where
  pub same_buffer : u.out.ghost_name ≡ s.out.ghost_name
  pub written : Written s.out.now s.at t u.out.now u.at
