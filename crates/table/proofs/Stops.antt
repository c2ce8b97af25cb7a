-- The loop that finds the chosen stop, from the farthest stop down; and lists that such loops fill. Assumes nothing.
use mathlib.Core.Path.{◌≡◌, refl, sym, ◌∙◌}
use Prim.Native.Nat.{ℕ, zero, suc, ◌+◌, ◌-◌, ◌≤◌, ◌<◌, min}
use native.Mathlib.Nat.{le_refl}
use native.Mathlib.Numerals.{add-one}
use native.Mathlib.Omega.{arith}
use lib.ListN.{get_or, replicate}
use Rattle.family.specs.Family.{least}
use Rattle.family.proofs.Paths.{least_end, least_le, least_best, next_pick, best, pick, best_last, pick_last, best_step, pick_take, pick_skip}
use Rattle.table.specs.Path.{SumAt, Stopped}

-- the loop over the stops from j down: what is found of those from x on, and one stop more
pub record Found (c : ℕ → ℕ → ℕ) (p j x sum to : ℕ) : Type 0 where
  pub sum_is : sum ≡ best c p x j
  pub to_is : to ≡ pick c p x j
  pub small : sum ≤ 65535
  pub after : p < x

module _ {c : ℕ → ℕ → ℕ} {p j : ℕ} where
  pub found_last : {s : ℕ} → p < j → s ≡ c p j → s ≤ 65535 → Found c p j j s j
  found_last o e h = record { sum_is = e ∙ sym (best_last c p j); to_is = sym (pick_last c p j); small = h; after = o }

  pub found_all : {x s t : ℕ} → p < j → x ≤ p + 1 → Found c p j x s t → Stopped c p j s t
  found_all {x} h o F = let e : x ≡ suc p = omega (arith, F.after) in record {
    sum_at = record { is = F.sum_is ∙ rw e (sym (least_best c p j h)); small = F.small };
    to_is = F.to_is ∙ rw e (sym (next_pick c p j));
  }

module _ {c : ℕ → ℕ → ℕ} {p j x s t by r : ℕ} (hx : x ≤ j) (h0 : p + 1 < x) (F : Found c p j x s t) (rest : SumAt c (x - 1) j r) (e : by ≡ c p (x - 1) + r) where
  next_x : suc (x - 1) ≡ x
  next_x = omega arith

  step_is : best c p (x - 1) j ≡ min by s
  step_is = best_step c p j (x - 1) (omega arith) ∙ rw (next_x, ← F.sum_is, ← rest.is, e) refl

  pub found_take : by < s → Found c p j (x - 1) by (x - 1)
  found_take h = record {
    sum_is = omega (arith, step_is);
    to_is = sym (pick_take c p j (x - 1) (omega arith) (rw (next_x, ← F.sum_is, ← rest.is, ← e) h));
    small = omega (arith, F.small);
    after = omega arith;
  }

  pub found_skip : s ≤ by → Found c p j (x - 1) s t
  found_skip h = record {
    sum_is = omega (arith, step_is);
    to_is = F.to_is ∙ sym (pick_skip c p j (x - 1) (omega arith) (rw (next_x, ← F.sum_is, ← rest.is, ← e) h) ∙ rw next_x refl);
    small = F.small;
    after = omega arith;
  }

-- the loop over the stops up to j: what is found of the step to j and of the stops below x, and one stop more
pub record Lesser (c : ℕ → ℕ → ℕ) (p j x sum : ℕ) : Type 0 where
  pub under : sum ≤ c p j
  pub with_rest : min sum (best c p x j) ≡ least c p j
  pub small : sum ≤ 65535

module _ {c : ℕ → ℕ → ℕ} {p j : ℕ} where
  pub lesser_none : {s : ℕ} → p < j → s ≡ c p j → s ≤ 65535 → Lesser c p j (p + 1) s
  lesser_none {s} o e h =
      let l = least_le c j p o j o (le_refl j) in
      record { under = omega arith; with_rest = rw (add-one p, ← least_best c p j o) (omega (arith, l, least_end c j)); small = h }

  pub lesser_more : {x s by r : ℕ} → x < j → Lesser c p j x s → SumAt c x j r → by ≡ c p x + r → Lesser c p j (x + 1) (min s by)
  lesser_more {x} {s} {by} {r} h L rest e =
      let z : best c p x j ≡ min by (best c p (x + 1) j) = best_step c p j x h ∙ rw (add-one x, e, rest.is) refl in
      record { under = omega (arith, L.under); with_rest = omega (arith, L.with_rest, z); small = omega (arith, L.small) }

  pub lesser_all : {x s : ℕ} → x ≡ j → Lesser c p j x s → SumAt c p j s
  lesser_all e L = record { is = omega (arith, rw e at L.with_rest, best_last c p j, L.under); small = L.small }

-- a place of a list of zeros
pub zeros : (n q : ℕ) → ◌≡◌ {A = ℕ} (get_or (replicate n 0) q 0) 0
zeros zero q = refl
zeros (suc n) zero = refl
zeros (suc n) (suc q) = zeros n q
