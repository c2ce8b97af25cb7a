-- What is worked out for each kind of starred case, by tests and least sums, and that the case then holds. Assumes nothing.
use mathlib.Core.Path.{◌≡◌, refl, sym, subst, ◌∙◌, ap₂}
use mathlib.Core.Bool.{Bool, true, false, ◌&&◌}
use mathlib.Core.List.{List, [], ◌∷◌}
use Prim.Native.Nat.{ℕ, zero, suc, ◌+◌, ◌-◌, ◌*◌, ◌≤◌, ◌<◌, zero-le}
use native.Mathlib.Omega.{arith}
use borrow.Author.Tests.{le-leb}
use lib.Dec.{leb, ltb}
use lib.ListN.{length, length-map}
use Rattle.refusal.specs.Check.{Decides, from_to}
use Rattle.refusal.proofs.Laws.{and_left, and_right}
use Rattle.refusal.proofs.Plain.{yes_decides, both_decided, from_to_decided, by_less, by_test}
use Rattle.sample.specs.Coordinate.{coordinates_ok}
use Rattle.sample.specs.declared.Sample.{Sample}
use Rattle.sample.proofs.Coordinate.{in_range}
use Rattle.geometry.proofs.Permits.{permitted_adjacent}
use Rattle.family.specs.Family.{cells, rank, segments, total}
use Rattle.family.specs.Lists.{none}
use Rattle.family.specs.Levels as Levels
use Rattle.family.specs.Levels.{end, link, levels, size}
use Rattle.family.proofs.Checks.{room}
use Rattle.family.proofs.Costs.{cells_genuine}
use Rattle.family.proofs.Levels.{levels_total, ranks_levels}
use Rattle.family.proofs.Promise.{genuine_meant, read_promised}
use Rattle.family.proofs.Ranks.{readout}
use Rattle.permission.specs.Finest.{perm}
use Rattle.permission.proofs.Perm.{perm_adjacent}
use Rattle.costs.proofs.Meaning.{permissions}
use Rattle.checks.specs.Numbers.{ReadNumber}
use Rattle.checks.proofs.Numbers.{read_number}
use Rattle.checks.specs.Rows.{Passed, PassedTable}
use Rattle.checks.proofs.Exactly.{read_rows}
use Rattle.starred.specs.Cases.{buffered, PermitOf, listed, Ranked, Case, permitted, not_permitted, serves, ranked, costs, two_samples, one_sample, paused, Holds, All}

-- the test of a stretch
abbrev perm_of : List Sample → List ℕ → ℕ → ℕ → ℕ → Bool
perm_of s tols = perm (buffered s) tols

-- there are samples, no more of them and of levels than may be, and the test decides their stretches
record Fit (s : List Sample) (tols : List ℕ) : Type 0 where
  some : 0 < length s
  small : length s ≤ 256
  few : length tols ≤ 16
  decides : (k i j : ℕ) → 1 ≤ k → k ≤ length tols → i < j → j < length s → Decides (PermitOf s tols k i j) (perm_of s tols k i j)

abbrev fits : List Sample → List ℕ → Bool
fits s tols = coordinates_ok (buffered s).across (length s) && (coordinates_ok (buffered s).up (length s) && (from_to 1 256 (length s) && leb (length tols) 16))

fit : (s : List Sample) (tols : List ℕ) → fits s tols ≡ true → Fit s tols
fit s tols h =
    let p = and_right (coordinates_ok (buffered s).across (length s)) _ h in
    let q = and_right (coordinates_ok (buffered s).up (length s)) _ p in
    let t = (both_decided (from_to 1 256 (length s)) (leb (length tols) 16) (from_to_decided 1 256 (length s)) (by_test _ (length tols) 16 (λ u. u) (λ u. u))).right q in
    record {
      some = t.0.0;
      small = t.0.1;
      few = t.1;
      decides = permissions (buffered s) tols (length tols) (length s) (record {
        across = in_range (omega (arith, length-map s (λ (a : Sample). a.across))) (and_left _ _ h);
        up = in_range (omega (arith, length-map s (λ (a : Sample). a.up))) (and_left _ _ p);
      });
    }

listed_same : (f g : ℕ → ℕ) (d x n : ℕ) → x + d ≡ n → ((y : ℕ) → y < n → f y ≡ g y) → listed f x d ≡ listed g x d
listed_same f g zero x n e h = refl
listed_same f g (suc d) x n e h = ap₂ (λ (a : ℕ) l. a ∷ l) (h x (omega arith)) (listed_same f g d (suc x) n (omega arith) h)

-- their cells, the ranks read out of them, and the total of those
module _ (s : List Sample) (tols : List ℕ) where
  abbrev m : ℕ
  m = length tols

  abbrev last : ℕ
  last = length s - 1

  abbrev cell : ℕ → ℕ → ℕ → ℕ
  cell = cells (perm_of s tols)

  abbrev read : ℕ → ℕ
  read = rank cell m 0 last

  abbrev whole : ℕ
  whole = total read m 0 last

  module _ (F : Fit s tols) where
    abbrev space : m * length s < none
    space = room m (length s) F.few F.small

    -- the cells are the costs
    all_costs : Levels.Costs (PermitOf s tols) cell m (length s)
    all_costs =
        (genuine_meant (PermitOf s tols) (perm_of s tols) (perm_adjacent (buffered s) tols) m (length s) space F.decides cell).0
        (cells_genuine (perm_of s tols) m (length s))

    -- the ranks are those of the chosen family
    all_ranks : (r : List ℕ) (t : ℕ) → listed read 0 (length s) ≡ r → whole ≡ t → Ranked s tols r t
    all_ranks r t h k =
        let R = readout cell m (length s) in
        record {
          levels = levels read 0 last;
          chosen = read_promised (PermitOf s tols) (perm_of s tols) (perm_adjacent (buffered s) tols) m (length s) space F.decides cell F.some all_costs read R;
          rank_is = listed_same _ read (length s) 0 (length s) (omega arith) (λ x o. ranks_levels read m 0 last x zero-le zero-le (omega arith) (R.highest x o)) ∙ h;
          total_is = sym (levels_total read m 0 last zero-le (omega (arith, R.first))) ∙ k;
        }

-- with sample q alone, by two permitted stretches, and the total of the chosen family
serve : (s : List Sample) (e q : ℕ) → Fit s (e ∷ []) → 0 < q → q < length s - 1 → perm_of s (e ∷ []) 1 0 q ≡ true → perm_of s (e ∷ []) 1 q (length s - 1) ≡ true
    → whole s (e ∷ []) ≡ 2 → Holds (serves s e q)
unfolding size
serve s e q F o u a b k =
    let R = all_ranks s (e ∷ []) F _ _ refl k in
    record {
      family = record {
        chain = λ ℓ v w.
            (let f : ℓ ≡ 1 = omega arith in
            rw f (link o ((F.decides 1 0 q (omega arith) (omega arith) o (omega arith)).right a) (link u ((F.decides 1 q (length s - 1) (omega arith) (omega arith) u (omega arith)).right b) end)));
        nested = λ ℓ x v w. absurd (omega arith);
      };
      least = λ M H. omega (arith, R.total_is, R.chosen.minimal.least M H);
    }

-- two samples pass over nothing
two_total : (r : ℕ → ℕ) (k : ℕ) → k ≤ r 1 → total r k 0 1 ≡ k
unfolding total segments
two_total r zero h = refl
two_total r (suc k) h = rw (le-leb (suc k) (r 1) h) (omega (arith, two_total r k (omega arith)))

two : Holds two_samples
two a b tols few =
    let s = a ∷ b ∷ [] in
    let R = readout (cell s tols) (length tols) 2 in
    let F : Fit s tols = record {
      some = omega arith;
      small = omega arith;
      few = few;
      decides = λ k i j u v o h. let e : j ≡ suc i = omega arith in rw (e, perm_adjacent (buffered s) tols k i) (yes_decides permitted_adjacent);
    } in
    all_ranks s tols F (length tols ∷ length tols ∷ []) (length tols) (ap₂ (λ (x y : ℕ). x ∷ y ∷ []) R.first R.last) (two_total (read s tols) (length tols) (omega (arith, R.last)))

-- one sample: row 9 of a read, and what the row of tests gives is that number
one : Holds (one_sample 9)
one a xs t rank H k =
    let e : a.held ≡ 1 = H.one in
    let s = H.sized in
    let P : Passed a xs = record {
      sized = s;
      tolerances = H.tolerances;
      lent = H.lent.0;
      held = omega (arith, s.2);
      stored = λ q h. let f : q ≡ 0 = omega arith in rw f H.sample;
    } in
    let Q : PassedTable a t = record { room = H.lent.1; cells = λ ℓ i j u v o h. absurd (omega arith) } in
    let nine : (n : ℕ) → ReadNumber a xs t rank n → n ≡ 9 = λ n h. (read_rows a xs t rank h).row_9.1 ((P, Q, omega (arith, H.lent.2)), omega arith) in
    let r = read_number a xs t rank in
    (nine k, λ g. subst (ReadNumber a xs t rank) (nine _ r ∙ sym g) r)

-- what is worked out for a case
abbrev pub Worked : Case → Type 0
Worked (permitted a b q e) = (fits (a ∷ q ∷ b ∷ []) (e ∷ []) ≡ true) × (perm_of (a ∷ q ∷ b ∷ []) (e ∷ []) 1 0 2 ≡ true)
Worked (not_permitted a b q e) = (fits (a ∷ q ∷ b ∷ []) (e ∷ []) ≡ true) × (perm_of (a ∷ q ∷ b ∷ []) (e ∷ []) 1 0 2 ≡ false)
Worked (serves s e q) = (fits s (e ∷ []) ≡ true) × (ltb 0 q && ltb q (length s - 1) ≡ true) × (perm_of s (e ∷ []) 1 0 q && perm_of s (e ∷ []) 1 q (length s - 1) ≡ true) × (whole s (e ∷ []) ≡ 2)
Worked (ranked s tols r t) = (fits s tols ≡ true) × (listed (read s tols) 0 (length s) ≡ r) × (whole s tols ≡ t)
Worked (costs s tols k i j v) = (fits s tols ≡ true) × (from_to 1 (length tols) k && (ltb i j && ltb j (length s)) ≡ true) × (cell s tols k i j ≡ v)
Worked two_samples = Unit {0}
Worked (one_sample number) = number ≡ 9
Worked (paused counters line) = Holds (paused counters line)

-- the stretch from a to b past q
judged : (a b q : Sample) (e : ℕ) → fits (a ∷ q ∷ b ∷ []) (e ∷ []) ≡ true → Decides (Holds (permitted a b q e)) (perm_of (a ∷ q ∷ b ∷ []) (e ∷ []) 1 0 2)
judged a b q e h = (fit (a ∷ q ∷ b ∷ []) (e ∷ []) h).decides 1 0 2 (omega arith) (omega arith) (omega arith) (omega arith)

holds : (c : Case) → Worked c → Holds c
holds (permitted a b q e) w = (judged a b q e w.0).right w.1
holds (not_permitted a b q e) w = (judged a b q e w.0).wrong w.1
holds (serves s e q) w =
    let F = fit s (e ∷ []) w.0 in
    let t = (both_decided (ltb 0 q) (ltb q (length s - 1)) (by_less 0 q) (by_less q (length s - 1))).right w.1 in
    serve s e q F t.0 t.1 (and_left _ _ w.2) (and_right (perm_of s (e ∷ []) 1 0 q) _ w.2) w.3
holds (ranked s tols r t) w = all_ranks s tols (fit s tols w.0) r t w.1 w.2
holds (costs s tols k i j v) w =
    let t = (both_decided (from_to 1 (length tols) k) (ltb i j && ltb j (length s)) (from_to_decided 1 (length tols) k)
    (both_decided (ltb i j) (ltb j (length s)) (by_less i j) (by_less j (length s)))).right w.1 in
    rw w.2 at (all_costs s tols (fit s tols w.0) k i j t.0.0 t.0.1 t.1.0 t.1.1)
holds two_samples w = two
holds (one_sample number) w = rw w one
holds (paused counters line) w = w

-- and for each of a table
abbrev pub AllWorked : List Case → Type 0
AllWorked [] = Unit {0}
AllWorked (c ∷ cs) = Worked c × AllWorked cs

pub all_hold : (cs : List Case) → AllWorked cs → All cs
all_hold [] w = tt
all_hold (c ∷ cs) w = (holds c w.0, all_hold cs w.1)
