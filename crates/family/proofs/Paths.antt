-- Paths over the cells of one level: what `least` and `next` are. Assumes nothing.
use Prim.Native.Nat.{ℕ, zero, suc, ◌+◌, ◌-◌, ◌*◌, ◌≤◌, ◌<◌, min}
use mathlib.Core.Path.{◌≡◌, refl, ◌∙◌}
use mathlib.Core.List.{List}
use native.Mathlib.Omega.{arith}
use native.Mathlib.Decide.{dec_le, dec_lt}
use native.Mathlib.Nat.{le_refl, mul-suc}
use borrow.Author.Tests.{le-leb, lt-leb}
use Rattle.family.specs.Family.{via, hop, least_by, least, next}
use Rattle.family.specs.Path.{Path, done, step}

module _ (c : ℕ → ℕ → ℕ) where
  pub least_end : (j : ℕ) → least c j j ≡ 0
  unfolding least least_by
  least_end j = let e : j - j ≡ 0 = omega arith in rw e

  least_via : (p d j : ℕ) → suc p + d ≡ j → least c p j ≡ via c p (suc p) d
  unfolding least least_by
  least_via p d j h = let e : j - p ≡ suc d = omega arith in rw e

  module _ (j : ℕ) where
    -- no first step does better
    via_le : (p x d q : ℕ) → x + d ≡ j → x ≤ q → q ≤ j → via c p x d ≤ c p q + least c q j
    unfolding via
    via_le p x zero q h a b = let e : q ≡ x = omega arith in rw e (omega arith)
    via_le p x (suc d) q h a b = elim (dec_le q x) [
      | yes y ↦ (let e : q ≡ x = omega arith in rw e (omega (arith, least_via x d j (omega arith))))
      | no n ↦ omega (arith, via_le p (suc x) d q (omega arith) (omega arith) b)
    ]

    hop_take : (p x d : ℕ) → c p x + via c x (suc x) d < via c p (suc x) d → hop c p x (suc d) ≡ x
    unfolding hop
    hop_take p x d h = rw (lt-leb (via c p (suc x) d) (c p x + via c x (suc x) d) h)

    hop_skip : (p x d : ℕ) → via c p (suc x) d ≤ c p x + via c x (suc x) d → hop c p x (suc d) ≡ hop c p (suc x) d
    unfolding hop
    hop_skip p x d h = rw (le-leb (via c p (suc x) d) (c p x + via c x (suc x) d) h)

    -- the step to `hop` does as well as the best
    via_hop : (p x d : ℕ) → x + d ≡ j → (x ≤ hop c p x d) × (hop c p x d ≤ j) × (via c p x d ≡ c p (hop c p x d) + least c (hop c p x d) j)
    unfolding via
    via_hop p x zero h = unfold hop in (le_refl x, omega arith, let e : x ≡ j = omega arith in rw e (omega (arith, least_end j)))
    via_hop p x (suc d) h = elim (dec_le (via c p (suc x) d) (c p x + via c x (suc x) d)) [
      | yes y ↦ (let t = via_hop p (suc x) d (omega arith) in rw (hop_skip p x d y) (omega arith, t.1, omega arith))
      | no n ↦ rw (hop_take p x d (omega arith)) (le_refl x, omega arith, omega (arith, least_via x d j (omega arith)))
    ]

    -- and no later step does
    via_lt : (p x d q : ℕ) → x + d ≡ j → hop c p x d < q → q ≤ j → via c p x d < c p q + least c q j
    unfolding via
    via_lt p x zero q h a b = unfold hop in omega arith
    via_lt p x (suc d) q h a b = elim (dec_le (via c p (suc x) d) (c p x + via c x (suc x) d)) [
      | yes y ↦ omega (arith, via_lt p (suc x) d q (omega arith) (omega (arith, hop_skip p x d y)) b)
      | no n ↦ omega (arith, hop_take p x d (omega arith), via_le p (suc x) d q (omega arith) (omega (arith, hop_take p x d (omega arith))) b)
    ]

    module _ (p : ℕ) (h : p < j) where
      split : suc p + (j - suc p) ≡ j
      split = omega arith

      pub least_le : (q : ℕ) → p < q → q ≤ j → least c p j ≤ c p q + least c q j
      least_le q a b = omega (arith, least_via p (j - suc p) j split, via_le p (suc p) (j - suc p) q split a b)

      pub next_after : p < next c p j
      unfolding next
      next_after = (via_hop p (suc p) (j - suc p) split).0

      pub next_within : next c p j ≤ j
      unfolding next
      next_within = (via_hop p (suc p) (j - suc p) split).1

      pub least_next : least c p j ≡ c p (next c p j) + least c (next c p j) j
      unfolding next
      least_next = least_via p (j - suc p) j split ∙ (via_hop p (suc p) (j - suc p) split).2

      pub least_lt : (q : ℕ) → next c p j < q → q ≤ j → least c p j < c p q + least c q j
      unfolding next
      least_lt q a b = omega (arith, least_via p (j - suc p) j split, via_lt p (suc p) (j - suc p) q split a b)

  -- two paths end to end
  join_by : (d p q j : ℕ) → p ≤ q → q ≤ p + d → q ≤ j → least c p j ≤ least c p q + least c q j
  join_by zero p q j a b h = let e : p ≡ q = omega arith in rw e (omega arith)
  join_by (suc d) p q j a b h = elim (dec_lt p q) [
    | no n ↦ (let e : p ≡ q = omega arith in rw e (omega arith))
    | yes y ↦
        (let x = next c p q in
        let u : p < x = next_after q p y in
        let v : x ≤ q = next_within q p y in
        omega (arith, least_next q p y, join_by d x q j v (omega arith) h, least_le j p (omega arith) x u (omega arith)))
  ]

  pub least_join : (p q j : ℕ) → p ≤ q → q ≤ j → least c p j ≤ least c p q + least c q j
  least_join p q j a h = join_by (q - p) p q j a (omega arith) h

  -- steps of at most k each between adjacent samples
  pub least_bound : (k d p j : ℕ) → ((x : ℕ) → p ≤ x → x < j → c x (suc x) ≤ k) → p + d ≡ j → least c p j ≤ k * d
  least_bound k zero p j f e = let q : p ≡ j = omega arith in rw q (omega (arith, least_end j))
  least_bound k (suc d) p j f e =
      omega (
        arith,
        mul-suc k d,
        least_bound k d (suc p) j (λ x a b. f x (omega arith) b) (omega arith),
        least_le j p (omega arith) (suc p) (le_refl (suc p)) (omega arith),
        f p (le_refl p) (omega arith),
      )

  -- `least` is at most the sum of every path
  pub path_least : {j p v : ℕ} {l : List ℕ} → Path c j p l v → (p ≤ j) × (least c p j ≤ v)
  path_least {j} done = (le_refl j, omega (arith, least_end j))
  path_least {j} (step {p = p} {q = q} {v = v} o h t) = let x = path_least t in (omega arith, omega (arith, least_le j p (omega arith) q o x.0))

-- how a loop over the first stops x, from j down to p + 1, finds `least` and `next`: the least sum over a stop from x on, and the chosen stop
module _ (c : ℕ → ℕ → ℕ) (p x j : ℕ) where
  abbrev pub best : ℕ
  best = via c p x (j - x)

  abbrev pub pick : ℕ
  pick = hop c p x (j - x)

pub least_best : (c : ℕ → ℕ → ℕ) (p j : ℕ) → p < j → least c p j ≡ best c p (suc p) j
least_best c p j h = least_via c p (j - suc p) j (omega arith)

module _ (c : ℕ → ℕ → ℕ) (p j : ℕ) where
  pub next_pick : next c p j ≡ pick c p (suc p) j
  unfolding next
  next_pick = refl

  pub best_last : best c p j j ≡ c p j
  unfolding via
  best_last = let e : j - j ≡ 0 = omega arith in rw e

  pub pick_last : pick c p j j ≡ j
  unfolding hop
  pick_last = let e : j - j ≡ 0 = omega arith in rw e

  module _ (x : ℕ) (h : x < j) where
    pub best_step : best c p x j ≡ min (c p x + least c x j) (best c p (suc x) j)
    unfolding via
    best_step = let e : j - x ≡ suc (j - suc x) = omega arith in rw (e, least_best c x j h)

    pub pick_take : c p x + least c x j < best c p (suc x) j → pick c p x j ≡ x
    pick_take g = let e : j - x ≡ suc (j - suc x) = omega arith in rw e (hop_take c j p x (j - suc x) (omega (arith, least_best c x j h)))

    pub pick_skip : best c p (suc x) j ≤ c p x + least c x j → pick c p x j ≡ pick c p (suc x) j
    pick_skip g = let e : j - x ≡ suc (j - suc x) = omega arith in rw e (hop_skip c j p x (j - suc x) (omega (arith, least_best c x j h)))
