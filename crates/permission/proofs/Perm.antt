-- Laws of the test of a permission: neighbours are permitted, a higher level permits more, and marks count apart from distances; and the finest level that permits a stretch. Assumes nothing.
use mathlib.Core.Path.{◌≡◌, refl, sym, ◌∙◌}
use mathlib.Core.Bool.{Bool, true, false}
use mathlib.Core.List.{List}
use Prim.Native.Nat.{ℕ, zero, suc, ◌+◌, ◌-◌, ◌≤◌, ◌<◌}
use native.Mathlib.Nat.{le_refl}
use native.Mathlib.Numerals.{add-one}
use native.Mathlib.Decide.{dec_le}
use native.Mathlib.Omega.{arith}
use borrow.Author.Tests.{leb-true, le-leb, lt-leb}
use lib.IntN.{ℤ}
use lib.ListN.{get_or}
use Rattle.refusal.proofs.Plain.{decides_unique}
use Rattle.sample.specs.Coordinate.{InRange}
use Rattle.geometry.specs.declared.Verdict.{Verdict}
use Rattle.sample.specs.Mark.{Marked}
use Rattle.geometry.specs.Near.{Along}
use Rattle.sample.specs.Samples.{Samples, samples}
use Rattle.geometry.specs.Spoiler.{Told, is_yes}
use Rattle.sample.specs.Sweep.{no_marks}
use Rattle.geometry.proofs.Marks.{Unmarked, unmarked_says}
use Rattle.geometry.proofs.Spoiler.{says_decides, permits_decided}
use Rattle.geometry.proofs.Permits.{permits_wider, permits_adjacent, permits_same, permits_stops, Same}
use Rattle.permission.specs.Finest.{perm, Rising, Finest}

-- where no sample is marked, the test is yes exactly when the verdict by distance is
pub perm_judged : (xs ys : List ℤ) (tols : List ℕ) (k i j : ℕ) (v : Verdict) → InRange xs (j + 1) → InRange ys (j + 1) → i < j
    → Told (Along xs ys i j (get_or tols (k - 1) 0)) i j v → perm (samples xs ys no_marks) tols k i j ≡ is_yes v
unfolding perm
perm_judged xs ys tols k i j v a b o s =
    decides_unique _ (is_yes v) (permits_decided xs' i j e (record { across = a; up = b }) o) (says_decides xs' i j e v (unmarked_says xs' i j e (λ l x y h. absurd (omega arith)) v s))
  where
    xs' : Samples
    xs' = samples xs ys no_marks

    e : ℕ
    e = get_or tols (k - 1) 0

pub perm_adjacent : (xs : Samples) (tols : List ℕ) (k i : ℕ) → perm xs tols k i (suc i) ≡ true
unfolding perm
perm_adjacent xs tols k i = permits_adjacent xs i (get_or tols (k - 1) 0)

pub rising : (tols : List ℕ) (m : ℕ) → Rising tols m → (a b : ℕ) → a ≤ b → b < m → get_or tols a 0 ≤ get_or tols b 0
rising tols m r a zero h g = let e : a ≡ zero = omega arith in rw e (le_refl _)
rising tols m r a (suc b) h g = elim (dec_le a b) [
  | yes y ↦ (let s : get_or tols b 0 < get_or tols (suc b) 0 = rw add-one at (r.rise b (omega arith)) in omega (arith, rising tols m r a b y (omega arith)))
  | no y ↦ (let e : a ≡ suc b = omega arith in rw e (le_refl _))
]

pub perm_higher : (xs : Samples) (tols : List ℕ) (m k l i j : ℕ) → Rising tols m → 1 ≤ k → k ≤ l → l ≤ m → perm xs tols k i j ≡ true → perm xs tols l i j ≡ true
unfolding perm
perm_higher xs tols m k l i j r a b d = permits_wider xs i j (rising tols m r (k - 1) (l - 1) (omega arith) (omega arith))

-- only the samples from i to j count, and the marks between
pub perm_same : (xs vs : Samples) (tols : List ℕ) (k i j : ℕ) → Same xs vs i j → perm xs tols k i j ≡ perm vs tols k i j
unfolding perm
perm_same xs vs tols k i j = permits_same xs vs i j (get_or tols (k - 1) 0)

-- where no sample between is marked, as where none is at all
pub perm_unmarked : (xs : Samples) (tols : List ℕ) (k i j : ℕ) → Unmarked xs.marks i j → perm (samples xs.across xs.up no_marks) tols k i j ≡ perm xs tols k i j
perm_unmarked xs tols k i j u =
    perm_same (samples xs.across xs.up no_marks) xs tols k i j
    (record { across = λ q a b. refl; up = λ q a b. refl; marks = λ q a b. (λ h. absurd (omega arith), λ h. absurd (u q a b h)) })

-- and where one is, no level permits the stretch
pub perm_stops : (xs : Samples) (tols : List ℕ) (k i j q : ℕ) → Marked xs.marks q → i < q → q < j → perm xs tols k i j ≡ false
unfolding perm
perm_stops xs tols k i j q = permits_stops xs i j (get_or tols (k - 1) 0) q

-- k is the finest level: no lower one permits the stretch, and every one from k on does
pub finest_is : (perm : ℕ → ℕ → ℕ → Bool) (m i j k : ℕ) → ((l : ℕ) → 1 ≤ l → l < k → perm l i j ≡ false) → ((l : ℕ) → k ≤ l → l ≤ m → perm l i j ≡ true) → Finest perm m i j k
finest_is perm m i j k low high = record {
  says = λ l a b. elim (dec_le k l) [
    | yes y ↦ high l y b ∙ sym (le-leb k l y)
    | no y ↦ low l a (omega arith) ∙ sym (lt-leb k l (omega arith))
  ];
}

-- by permissions that say the same of the stretch, the same
pub finest_same : {perm perm' : ℕ → ℕ → ℕ → Bool} {m i j r : ℕ} → ((k : ℕ) → perm k i j ≡ perm' k i j) → Finest perm m i j r → Finest perm' m i j r
finest_same e f = record { says = λ k a b. sym (e k) ∙ f.says k a b }

-- of neighbours it is level 1
pub finest_near : (perm : ℕ → ℕ → ℕ → Bool) → ((k i : ℕ) → perm k i (suc i) ≡ true) → (m i j r : ℕ) → Finest perm m i j r → suc i ≡ j → 1 ≤ m → r ≤ 1
finest_near perm adjacent m i j r f e h = leb-true r 1 (sym (f.says 1 (omega arith) h) ∙ rw e at (adjacent 1 i))
