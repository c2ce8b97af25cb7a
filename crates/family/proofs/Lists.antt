-- Lists of sample numbers: what the list of a level has, rising lists that have the same numbers are the same, and the rule for ties by what two lists have.
-- Assumes nothing.
use Prim.Native.Nat.{ℕ, zero, suc, ◌+◌, ◌≤◌, ◌<◌}
use mathlib.Core.Path.{◌≡◌, refl, sym, ◌∙◌, ap₂}
use mathlib.Core.Logic.{◌↔◌, ◌⊎◌, inl, inr}
use mathlib.Core.List.Memᴰ.{cases_cons as in-cons, head as here, not-nil as in-nil, tail as there}
use mathlib.Core.List.{List, [], ◌∷◌, Memᴰ as In}
use native.Mathlib.Omega.{arith}
use native.Mathlib.Decide.{dec_le, dec_lt}
use native.Mathlib.Nat.{le_refl}
use borrow.Author.Tests.{le-leb, lt-leb}
use Rattle.family.specs.Lists.{numbers, Larger}

-- l rises, and from x on
abbrev pub Rising : ℕ → List ℕ → Type 0
Rising x [] = Unit {0}
Rising x (a ∷ l) = (x ≤ a) × Rising (suc a) l

pub rising_down : (x y : ℕ) (l : List ℕ) → y ≤ x → Rising x l → Rising y l
rising_down x y [] o R = tt
rising_down x y (a ∷ l) o R = (omega (arith, R.0), R.1)

pub rising_in : (x : ℕ) (l : List ℕ) → Rising x l → (z : ℕ) → In z l → x ≤ z
rising_in x [] R z h = absurd (in-nil h)
rising_in x (a ∷ l) R z h = elim (in-cons h) [
  | inl e ↦ omega (arith, R.0)
  | inr t ↦ omega (arith, R.0, rising_in (suc a) l R.1 z t)
]

pub in_tail : (a : ℕ) (l : List ℕ) (z : ℕ) → a < z → In z (a ∷ l) → In z l
in_tail a l z o h = elim (in-cons h) [ inl e ↦ absurd (omega arith) | inr t ↦ t ]

-- rising lists that have the same numbers are the same
pub same_list : (u v : List ℕ) (x y : ℕ) → Rising x u → Rising y v → ((z : ℕ) → In z u ↔ In z v) → u ≡ v
same_list [] [] x y R S e = refl
same_list [] (b ∷ v) x y R S e = absurd (in-nil ((e b).1 (here refl)))
same_list (a ∷ u) [] x y R S e = absurd (in-nil ((e a).0 (here refl)))
same_list (a ∷ u) (b ∷ v) x y R S e =
    let p = rising_in b (b ∷ v) (le_refl b, S.1) a ((e a).0 (here refl)) in
    let q = rising_in a (a ∷ u) (le_refl a, R.1) b ((e b).1 (here refl)) in
    let f : a ≡ b = omega arith in
    ap₂ ◌∷◌ f (same_list u v (suc a) (suc b) R.1 S.1 (λ z. (
      λ h. in_tail b v z (omega (arith, rising_in (suc a) u R.1 z h)) ((e z).0 (there h)),
      λ h. in_tail a u z (omega (arith, rising_in (suc b) v S.1 z h)) ((e z).1 (there h)),
    )))

-- the list of a level
module _ (r : ℕ → ℕ) (ℓ : ℕ) where
  pub numbers_yes : (x d : ℕ) → ℓ ≤ r x → numbers r ℓ x (suc d) ≡ x ∷ numbers r ℓ (suc x) d
  unfolding numbers
  numbers_yes x d h = rw (le-leb ℓ (r x) h)

  pub numbers_no : (x d : ℕ) → r x < ℓ → numbers r ℓ x (suc d) ≡ numbers r ℓ (suc x) d
  unfolding numbers
  numbers_no x d h = rw (lt-leb ℓ (r x) h)

  pub numbers_rising : (d x : ℕ) → Rising x (numbers r ℓ x d)
  numbers_rising zero x = unfold numbers in tt
  numbers_rising (suc d) x = elim (dec_le ℓ (r x)) [
    | yes y ↦ rw (numbers_yes x d y) (le_refl x, numbers_rising d (suc x))
    | no y ↦ rw (numbers_no x d (omega arith)) (rising_down (suc x) x (numbers r ℓ (suc x) d) (omega arith) (numbers_rising d (suc x)))
  ]

  pub numbers_skip : (d e x y : ℕ) → x ≤ y → x + d ≡ y + e → ((z : ℕ) → x ≤ z → z < y → r z < ℓ) → numbers r ℓ x d ≡ numbers r ℓ y e
  numbers_skip zero e x y o f h = let a : x ≡ y = omega arith in let b : e ≡ 0 = omega arith in rw (a, b)
  numbers_skip (suc d) e x y o f h = elim (dec_lt x y) [
    | yes u ↦ numbers_no x d (h x (le_refl x) u) ∙ numbers_skip d e (suc x) y u (omega arith) (λ z a b. h z (omega arith) b)
    | no u ↦ (let a : x ≡ y = omega arith in let b : e ≡ suc d = omega arith in rw (a, b))
  ]

  -- it has the samples of rank at least ℓ, and no others
  pub numbers_in : (d x z : ℕ) → x ≤ z → z < x + d → ℓ ≤ r z → In z (numbers r ℓ x d)
  numbers_in zero x z a b h = absurd (omega arith)
  numbers_in (suc d) x z a b h = elim (dec_lt x z) [
    | no y ↦ (let e : z ≡ x = omega arith in rw (e, numbers_yes x d (rw e at h)) (here refl))
    | yes y ↦
        (let t = numbers_in d (suc x) z y (omega arith) h in
        elim (dec_le ℓ (r x)) [
          | yes u ↦ rw (numbers_yes x d u) (there t)
          | no u ↦ rw (numbers_no x d (omega arith)) t
        ])
  ]

  pub in_numbers : (d x z : ℕ) → In z (numbers r ℓ x d) → (x ≤ z) × (z < x + d) × (ℓ ≤ r z)
  in_numbers zero x z h = unfold numbers in absurd (in-nil h)
  in_numbers (suc d) x z h = elim (dec_le ℓ (r x)) [
    | yes u ↦ elim (in-cons (rw (numbers_yes x d u) at h)) [
      | inl e ↦ rw e (le_refl x, omega arith, u)
      | inr t ↦ (let w = in_numbers d (suc x) z t in (omega (arith, w.0), omega (arith, w.1), w.2))
    ]
    | no u ↦ (let w = in_numbers d (suc x) z (rw (numbers_no x d (omega arith)) at h) in (omega (arith, w.0), omega (arith, w.1), w.2))
  ]

-- no two lists are each the larger
pub larger_both : (u v : List ℕ) → Larger u v → Larger v u → ⊥
larger_both [] v h g = h
larger_both (a ∷ u) [] h g = h
larger_both (a ∷ u) (b ∷ v) h g = elim h [
  | inl o ↦ elim g [ inl p ↦ omega arith | inr t ↦ omega (arith, t.0) ]
  | inr s ↦ elim g [ inl p ↦ omega (arith, s.0) | inr t ↦ larger_both u v s.1 t.1 ]
]

pub larger_not : (u v : List ℕ) → u ≡ v → Larger u v → ⊥
larger_not u v e h = larger_both v v (rw e at h) (rw e at h)

-- where the larger list has all that the other has below y, the other has y if the larger does
pub larger_keeps : (u v : List ℕ) (x w : ℕ) → Rising x u → Rising w v → Larger u v → (y : ℕ) → ((z : ℕ) → z < y → In z v → In z u) → In y u → In y v
larger_keeps [] v x w R S h y f t = absurd h
larger_keeps (a ∷ u) [] x w R S h y f t = absurd h
larger_keeps (a ∷ u) (b ∷ v) x w R S h y f t =
    let low : (z : ℕ) → In z (a ∷ u) → a ≤ z = λ z. rising_in a (a ∷ u) (le_refl a, R.1) z in
    elim h [
      | inl o ↦ absurd (omega (arith, low y t, low b (f b (omega (arith, low y t)) (here refl))))
      | inr s ↦ elim (in-cons t) [
        | inl e ↦ here (e ∙ s.0)
        | inr g ↦ there (larger_keeps u v (suc a) (suc b) R.1 S.1 s.1 y
            (λ z o k. in_tail a u z (omega (arith, s.0, rising_in (suc b) v S.1 z k)) (f z o (there k))) g)
      ]
    ]

-- and a list of which that holds, and that goes as far as the other, is larger or the same
pub keeps_larger : (u v : List ℕ) (x w : ℕ) → Rising x u → Rising w v → ((b : ℕ) → In b v → (c : ℕ) × In c u × (b ≤ c))
    → ((y : ℕ) → ((z : ℕ) → z < y → In z u ↔ In z v) → In y u → In y v) → Larger u v ⊎ (u ≡ v)
keeps_larger [] [] x w R S far f = inr refl
keeps_larger [] (b ∷ v) x w R S far f = absurd (in-nil (far b (here refl)).1)
keeps_larger (a ∷ u) [] x w R S far f =
    absurd (in-nil (f a (λ z o. (λ h. absurd (omega (arith, rising_in a (a ∷ u) (le_refl a, R.1) z h)), λ h. absurd (in-nil h))) (here refl)))
keeps_larger (a ∷ u) (b ∷ v) x w R S far f =
    let low : (z : ℕ) → In z (a ∷ u) → a ≤ z = λ z. rising_in a (a ∷ u) (le_refl a, R.1) z in
    let base : (z : ℕ) → In z (b ∷ v) → b ≤ z = λ z. rising_in b (b ∷ v) (le_refl b, S.1) z in
    elim (dec_lt b a) [
      | yes o ↦ inl (inl o)
      | no o ↦
          (let p : b ≤ a = base a (f a (λ z g. (λ h. absurd (omega (arith, low z h)), λ h. absurd (omega (arith, base z h)))) (here refl)) in
          let e : a ≡ b = omega arith in
          elim (keeps_larger u v (suc a) (suc b) R.1 S.1
          (λ c h.
          let t = far c (there h) in
          (t.0, in_tail a u t.0 (omega (arith, rising_in (suc b) v S.1 c h, t.2)) t.1, t.2))
          (λ y g h. in_tail b v y (omega (arith, rising_in (suc a) u R.1 y h)) (f y (λ z k. (over u v a b e z (g z k).0, over v u b a (sym e) z (g z k).1)) (there h)))) [
            | inl h ↦ inl (inr (e, h))
            | inr h ↦ inr (ap₂ ◌∷◌ e h)
          ])
    ]
  where
    over : (u v : List ℕ) (a b : ℕ) → a ≡ b → (z : ℕ) → (In z u → In z v) → In z (a ∷ u) → In z (b ∷ v)
    over u v a b e z f h = elim (in-cons h) [ inl g ↦ here (g ∙ e) | inr t ↦ there (f t) ]
