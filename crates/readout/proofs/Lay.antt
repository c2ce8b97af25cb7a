-- The walk along one level: a stop more is laid. Assumes nothing.
use mathlib.Core.Path.{◌≡◌, ◌∙◌}
use mathlib.Core.Logic.{◌⊎◌, inl, inr, ⊎_elim}
use Prim.Native.Nat.{ℕ, ◌≤◌, ◌<◌, max}
use native.Mathlib.Nat.{eq-or-lt_of_le}
use native.Mathlib.Decide.{ℕ_discrete, dec_le, dec_lt}
use native.Mathlib.Omega.{arith}
use Rattle.family.specs.Family.{next}
use Rattle.family.specs.Lists.{Neighbours}
use Rattle.family.proofs.Paths.{next_after, next_within}
use Rattle.readout.specs.Lay.{Above, Way, Laying, Bare}

-- there is one such sample
above_unique : (f : ℕ → ℕ) (k n p j i : ℕ) → Above f k n p j → Above f k n p i → j ≡ i
above_unique f k n p j i a b = elim (dec_lt j i) [
  | yes u ↦ absurd (less j i a b u)
  | no u ↦ elim (dec_lt i j) [ yes v ↦ absurd (less i j b a v) | no v ↦ omega arith ]
]
  where
    less : (x y : ℕ) → Above f k n p x → Above f k n p y → x < y → ⊥
    less x y a b lt =
        let low : f x ≤ k = b.clear x a.after lt in
        let top : y < n = b.inside in
        ⊎_elim (λ e. omega arith) (λ e. omega arith) a.held

-- where a way goes
module _ (c : ℕ → ℕ → ℕ) (f : ℕ → ℕ) (k n p q : ℕ) (W : Way c f k n p q) where
  pub way_after : p < q
  way_after = rw W.goes (next_after c W.end p W.above.after)

  way_within : q ≤ W.end
  way_within = rw W.goes (next_within c W.end p W.above.after)

  pub way_inside : q < n
  way_inside = omega (arith, way_within, W.above.inside)

-- one stop more of a level
module _ (c : ℕ → ℕ → ℕ) (k n : ℕ) (hk : 0 < k) (f : ℕ → ℕ) (bare : Bare k n f) where
  module _ (g e : ℕ → ℕ) (p q : ℕ) (w : Laying c k n p f g) (W : Way c f k n p q) (raised : e q ≡ max (g q) k) (other : (x : ℕ) → (x ≡ q → ⊥) → e x ≡ g x) where
    after : p < q
    after = way_after c f k n p q W

    within : q ≤ W.end
    within = way_within c f k n p q W

    inside : q < n
    inside = way_inside c f k n p q W

    up : Above g k n p W.end
    up = record {
      after = W.above.after;
      inside = W.above.inside;
      held = ⊎_elim (λ z. inl z) (λ z. inr (rw (w.ahead W.end W.above.after) z)) W.above.held;
      clear = λ x a b. rw (w.ahead x a) (W.above.clear x a b);
    }

    bare_between : (x : ℕ) → p < x → x < W.end → f x ≡ 0
    bare_between x a b =
        ⊎_elim (λ z. z) (λ z. absurd (refute (W.above.clear x a b) z)) (bare.between x (omega arith) (omega (arith, W.above.inside)))
      where
        refute : f x ≤ k → k < f x → ⊥
        refute l z = omega arith

    bigger : (x : ℕ) → g x ≤ e x
    bigger x = elim (ℕ_discrete x q) [ yes h ↦ rw h (omega arith) | no h ↦ omega (arith, other x h) ]

    back : (p' j' : ℕ) → Above e k n p' j' → Above g k n p' j'
    back p' j' a = record {
      after = a.after;
      inside = a.inside;
      held = ⊎_elim (λ h. inl h) (λ h. inr (high h)) a.held;
      clear = λ x b d. omega (arith, a.clear x b d, bigger x);
    }
      where
        high : k < e j' → k < g j'
        high h = elim (ℕ_discrete j' q) [ yes z ↦ rw z (let r : k < e q = rw z at h in omega arith) | no z ↦ omega (arith, other j' z) ]

    at_stop : (f q ≡ 0) ⊎ (k ≤ f q)
    at_stop = ⊎_elim at_end (λ lt. inl (bare_between q after lt)) (eq-or-lt_of_le within)
      where
        at_above : q ≡ W.end → k < f W.end → k ≤ f q
        at_above h z = rw h (omega arith)

        at_end : q ≡ W.end → (f q ≡ 0) ⊎ (k ≤ f q)
        at_end h = ⊎_elim (λ z. inr (bare.last q (omega arith))) (λ z. inr (at_above h z)) W.above.held

    grown_stop : (e q ≡ f q) ⊎ ((f q ≡ 0) × (e q ≡ k))
    grown_stop = let o = w.ahead q after in ⊎_elim (λ z. inr (z, omega arith)) (λ z. inl (omega arith)) at_stop

    module _ (p' q' j' : ℕ) (a : p' < q) (N : Neighbours e k p' q') (above : Above e k n p' j') where
      skipped : p < p' → ⊥
      skipped lt = omega (arith, bare_between p' lt (omega (arith, within)), other p' (λ h. omega arith), w.ahead p' lt, N.left)

      same_stop : p' ≡ p → q' ≡ q
      same_stop h = elim (dec_lt q' q) [
        | yes u ↦ absurd (early u)
        | no u ↦ elim (dec_lt q q') [ yes v ↦ absurd (late v) | no v ↦ omega arith ]
      ]
        where
          early : q' < q → ⊥
          early lt =
              let b : p < q' = omega (arith, N.order) in
              omega (arith, bare_between q' b (omega (arith, within)), w.ahead q' b, other q' (λ h. omega arith), N.right)

          late : q < q' → ⊥
          late lt = omega (arith, N.between q a lt, raised)

      here_step : p' ≡ p → q' ≡ next c p' j'
      here_step h =
          let u : j' ≡ W.end = above_unique g k n p j' W.end (back p j' (rw h at above)) up in
          rw (u, h) (same_stop h ∙ W.goes)

      old_step : p' < p → q' < n → q' ≡ next c p' j'
      old_step lt hn = w.laid.step p' q' j' lt hn old (back p' j' above)
        where
          at_most : q' ≤ p
          at_most = elim (dec_le q' p) [ yes h ↦ h | no h ↦ absurd (omega (arith, N.between p lt (omega arith), other p (λ h. omega (arith, after)), w.here)) ]

          old : Neighbours g k p' q'
          old = record {
            order = N.order;
            left = omega (arith, N.left, other p' (λ h. omega arith));
            right = omega (arith, N.right, other q' (λ h. omega (arith, at_most, after)));
            between = λ x b d. omega (arith, N.between x b d, bigger x);
          }

      stepped : q' < n → q' ≡ next c p' j'
      stepped hn = elim (dec_lt p' p) [
        | yes u ↦ old_step u hn
        | no u ↦ elim (dec_lt p p') [ yes v ↦ absurd (skipped v) | no v ↦ here_step (omega arith) ]
      ]

    pub laying_more : Laying c k n q f e
    laying_more = record {
      grown = λ x. elim (ℕ_discrete x q) [ yes h ↦ rw h grown_stop | no h ↦ rw (other x h) (w.grown x) ];
      ahead = λ x a. other x (λ h. omega arith) ∙ w.ahead x (omega (arith, after));
      here = omega arith;
      inside = inside;
      laid = record { step = λ p' q' j' a hn N up'. stepped p' q' j' a N up' hn };
    }
