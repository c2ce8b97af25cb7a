-- The one form of every check. Code is proved against a row of tests, `need ok stop rest`: where the test fails the answer is `stop`, else the rest of the
-- row decides, so the lowest number that applies is given. A contract shows the same row in plain statements, `First num P rest`. Assumes nothing.
use Rattle.std.specs.Prelude.{ℕ, zero, suc, ◌≡◌, ◌⊎◌, Bool, true, false, ◌&&◌, leb, Ok, Err}
use Rattle.refusal.specs.declared.Refusal.{Refusal}
use Rattle.refusal.specs.Number.{Outcome}

abbrev pub need : {A : Type 0} → Bool → A → A → A
need true stop rest = rest
need false stop rest = stop

-- one test alone
abbrev pub unless : Bool → Refusal → Outcome
unless ok why = need ok (Err why) (Ok tt)

-- a first outcome, and where it is no refusal the next
abbrev pub and_then : Outcome → Outcome → Outcome
and_then (Ok _) next = next
and_then (Err r) next = Err r

-- f holds of every number below n
unfoldable pub all_below : ℕ → (ℕ → Bool) → Bool
all_below zero f = true
all_below (suc n) f = all_below n f && f n

-- x is from a to b
abbrev pub from_to : ℕ → ℕ → ℕ → Bool
from_to a b x = leb a x && leb x b

-- an answer that is yes exactly when P
pub record Decides (P : Type 0) (answer : Bool) : Type 0 where
  pub right : answer ≡ true → P
  pub wrong : answer ≡ false → P → ⊥

-- k is the number num where P holds, and otherwise as the later rules say
abbrev pub First : ℕ → Type 0 → (ℕ → Type 0) → ℕ → Type 0
First num P rest k = (P × (k ≡ num)) ⊎ ((P → ⊥) × rest k)
