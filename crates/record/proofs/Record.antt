-- Laws of one record's definitions, and a test of each byte of a part of a list. Assumes nothing.
use mathlib.Core.Path.{◌≡◌, refl, sym, ap, ◌∙◌}
use mathlib.Core.Bool.{Bool}
use mathlib.Core.List.{List}
use Prim.Native.Nat.{ℕ, zero, suc, ◌+◌, ◌≤◌}
use native.Mathlib.Omega.{arith}
use lib.ListN.{length, get_or, take, drop}
use Rattle.std.proofs.Common.{add-one, length-drop, get_or-drop}
use Rattle.std.proofs.lemmas.Bool.Decides.{nat_tests}
use Rattle.std.proofs.lemmas.List.Folds.{list_all_more}
use Rattle.std.specs.List.{list_all}
use Rattle.std.specs.Prelude.{Ok}
use Rattle.refusal.specs.Check.{all_below}
use Rattle.refusal.specs.Number.{Outcome}
use Rattle.record.specs.Record.{decode_outcome, decoded_by, decode_of}

pub decode_outcome_lem : (s : List ℕ) → (decode_of s).outcome ≡ decode_outcome s
unfolding decode_of
decode_outcome_lem s = grind arith

-- the outcome fixes the rest: a refusal comes with zeros
pub decode_by : (s : List ℕ) → decode_of s ≡ decoded_by (decode_of s).outcome s 0
unfolding decode_of
decode_by s = ap (λ (o : Outcome). decoded_by o s 0) (sym (decode_outcome_lem s))

pub decode_length : (s : List ℕ) → decode_outcome s ≡ Ok tt → length s ≡ 16
unfolding decode_outcome
decode_length s h = grind (arith, nat_tests)

-- a test of each of the n bytes from place p on
pub all_part : (f : ℕ → Bool) (s : List ℕ) (p n : ℕ) → p + n ≤ length s → list_all f (take n (drop p s)) ≡ all_below n (λ k. f (get_or s (p + k) 0))
unfolding all_below
all_part f s p zero h = refl
all_part f s p (suc n) h =
    ap (λ (m : ℕ). list_all f (take m (drop p s))) (sym (add-one n))
    ∙ list_all_more f (drop p s) n 0 (rw length-drop (omega arith))
    ∙ rw (all_part f s p n (omega arith), get_or-drop)
