-- The text of a signed number by the text of its size. Assumes nothing.
use mathlib.Core.Path.{◌≡◌, refl}
use mathlib.Core.Bool.{true, false, true≢false}
use mathlib.Core.List.{◌∷◌}
use native.Mathlib.Omega.{arith}
use borrow.Author.Tests.{ltb-true}
use lib.IntN.{ℤ, pos, negsuc, nat_abs}
use lib.Signed.{lt_z}
use Rattle.text.specs.Text.{decimal, signed_decimal}

pub negative_text : (z : ℤ) → lt_z z (pos 0) ≡ true → signed_decimal z ≡ 45 ∷ decimal (nat_abs z)
negative_text (pos n) h = absurd (omega (arith, ltb-true n 0 h))
negative_text (negsuc n) h = refl

pub positive_text : (z : ℤ) → lt_z z (pos 0) ≡ false → signed_decimal z ≡ decimal (nat_abs z)
positive_text (pos n) h = refl
positive_text (negsuc n) h = absurd (true≢false h)
