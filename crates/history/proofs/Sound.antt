-- What holds of every state after a start: a start gives it, from any state, and each call keeps it. Assumes nothing.
use mathlib.Core.Path.{◌≡◌, refl, sym, ap, subst, ◌∙◌}
use mathlib.Core.Logic.{◌⊎◌, inl, inr, ⊎_elim}
use mathlib.Core.List.{List}
use Prim.Native.Nat.{ℕ, ◌+◌, ◌-◌, ◌≤◌, ◌<◌, zero-le}
use native.Mathlib.Decide.{dec_lt}
use native.Mathlib.Omega.{arith}
use lib.IntN.{ℤ}
use lib.ListN.{length, get_or, take, replicate, length-take, get_or-append, get_or-eq_default}
use lib.Seq.{get_or-take}
use Rattle.refusal.proofs.Plain.{decided}
use Rattle.refusal.proofs.Rows.{by_outcome}
use Rattle.sample.specs.Coordinate.{InRange}
use Rattle.sample.specs.Mark.{Mark}
use Rattle.sample.specs.declared.Sample.{Sample}
use Rattle.sample.specs.Samples.{Samples}
use Rattle.sample.specs.Sweep.{Ranged}
use Rattle.costs.proofs.Meaning.{put_costs}
use Rattle.trace.specs.declared.Trace.{Trace}
use Rattle.trace.specs.declared.Changed.{Changed}
use Rattle.trace.specs.declared.Uploaded.{Uploaded}
use Rattle.sizes.specs.Setup.{Sized, Tolerances, kept, held_with}
use Rattle.checks.specs.Numbers.{PutNumber}
use Rattle.trace.specs.Calls.{sizes, Buffers, Put, NotPut, PutGives}
use Rattle.trace.specs.Upload.{zipped, not_uploaded, Puts, UploadGives}
use Rattle.trace.specs.Upload.Puts.{all_taken, one_refused, one_taken}
use Rattle.checks.proofs.Decided.{lists_decided}
use Rattle.checks.proofs.Passed.{start_passed, put_passed}
use Rattle.sizes.proofs.Held.{held_others}
use Rattle.trace.proofs.Calls.{put_able, put_rewritten, put_keeps, buffers_is}
use Rattle.history.specs.Run.{State, Call, Answer, Step}
use Rattle.history.specs.Run.Call.{start}
use Rattle.history.specs.Run.Step.{starts, puts, uploads, asks, reads}
use Rattle.history.specs.Hold.{CostsHeld}

-- the setup is that of a refused start, with no level and no sample, or a good one
pub record Sound (s : State) : Type 0 where
  pub few : s.trace.levels ≤ 16
  pub small : s.trace.capacity ≤ 256
  pub held : s.trace.held ≤ s.trace.capacity
  pub ranged : Ranged s.lent.samples s.trace.held
  pub marks : (q : ℕ) → q < s.trace.held → Mark (get_or s.lent.samples.marks q 0)
  pub costs : CostsHeld s
  pub setup : ((s.trace.levels ≡ 0) × (s.trace.held ≡ 0)) ⊎ (Sized s.trace.levels s.trace.capacity × Tolerances s.trace.levels s.trace.tolerances)

-- a state is its parts
abbrev pub state : Trace → Buffers → List ℕ → State
state a b ranks = record { trace = a; lent = b; ranks = ranks }

pub state_is : {s : State} {a : Trace} {b : Buffers} {ranks : List ℕ} → s.trace ≡ a → s.lent ≡ b → s.ranks ≡ ranks → s ≡ state a b ranks
state_is {s} {a} {b} {ranks} p q u = let f : state s.trace s.lent s.ranks ≡ state a b ranks = cc in f

pub not_put : {s e : State} {r : Changed} → NotPut s.trace s.lent r e.lent → e.trace ≡ r.trace → e.ranks ≡ s.ranks → e ≡ s
not_put P t k = state_is (t ∙ P.trace) P.lent k

-- ---- start
-- it keeps the tolerances of its levels
kept_at : {m : ℕ} {tols : List ℕ} → Tolerances m tols → (l : ℕ) → l < m → get_or (kept m tols) l 0 ≡ get_or tols l 0
kept_at {m} {tols} T l h = elim (dec_lt l (length tols)) [
  | yes y ↦ get_or-append (take m tols) (replicate (16 - m) 0) 0 l (omega (arith, length-take m tols)) ∙ get_or-take m tols l 0 h
  | no y ↦ absurd (omega (arith, T.low l h, get_or-eq_default tols 0 {n = l} (omega arith)))
]

kept_tolerances : {m : ℕ} {tols : List ℕ} → Tolerances m tols → Tolerances m (kept m tols)
kept_tolerances {m} {tols} T = record {
  low = λ l h. rw (kept_at T l h) (T.low l h);
  high = λ l h. rw (kept_at T l h) (T.high l h);
  rise = λ l h. rw (kept_at T l (omega arith), kept_at T (l + 1) h) (T.rise l h);
}

-- with no sample held there is no coordinate, no mark and no stretch
none_held : {xs : List ℤ} → InRange xs 0
none_held = record { held = zero-le; each = λ k l. absurd (omega arith) }

empty_sound : (m N : ℕ) (tols : List ℕ) (b : Buffers) (ranks : List ℕ) → m ≤ 16 → N ≤ 256 → (m ≡ 0) ⊎ (Sized m N × Tolerances m tols)
    → Sound (state (record { levels = m; capacity = N; held = 0; tolerances = tols }) b ranks)
empty_sound m N tols b ranks p q g = record {
  few = p;
  small = q;
  held = zero-le;
  ranged = record { across = none_held; up = none_held };
  marks = λ q l. absurd (omega arith);
  costs = λ k i j a d o h. absurd (omega arith);
  setup = ⊎_elim (λ e. inl (e, refl)) inr g;
}

pub started_sound : {s e : State} {m N : ℕ} {tols : List ℕ} {r : Answer} → Step s e (start m N tols) r → Sound e
started_sound {s} (starts {m = m} {N = N} {tols = tols} {r = r} G t l k) =
    by_outcome r.outcome
    (λ d.
    let g = start_passed m N tols (rw d at G.number) in
    subst Sound (sym (state_is (t ∙ G.done d) l k)) (empty_sound m N (kept m tols) s.lent s.ranks g.0.1 g.0.3 (inr (g.0, kept_tolerances g.1))))
    (λ w h. subst Sound (sym (state_is (t ∙ G.refused w h) l k)) (empty_sound 0 0 (replicate 16 0) s.lent s.ranks zero-le zero-le (inl refl)))

-- ---- put
put_sound : (s e : State) (v : ℕ) (x : Sample) (r : Changed) → Sound s → PutNumber (sizes s.trace) s.lent.samples s.lent.table v x 0
    → Put s.trace s.lent v (held_with s.trace.held v) x r e.lent → e.trace ≡ r.trace → Sound e
put_sound s e v x r S h P t =
    let a = s.trace in
    let b = s.lent in
    let p = put_passed (sizes a) b.samples b.table v x h in
    let A = put_able a b v x h in
    let R = A.ready in
    let z = R.sizes in
    let K = (rw (P.trace, P.samples) at (put_keeps h P)).0 in
    subst Sound (sym (state_is (t ∙ P.trace) (buffers_is P.samples refl) refl)) (record {
      few = z.1;
      small = z.2;
      held = z.4;
      ranged = R.ranged;
      marks = λ q l. (K.stored q l).2;
      costs = put_costs a.capacity b.samples a.tolerances x a.levels v a.held _ b.table e.lent.table S.few S.small S.held S.ranged (held_others a.held v p.3) z.4 R.ranged
          (put_rewritten A P) S.costs;
      setup = inr (p.0.sized, p.0.tolerances);
    })

put_step_sound : {s e : State} {v : ℕ} {x : Sample} {r : Changed} → Sound s → PutGives s.trace s.lent v x r e.lent → e.trace ≡ r.trace → e.ranks ≡ s.ranks → Sound e
put_step_sound {s} {e} {v} {x} {r} S G t k =
    by_outcome r.outcome (λ d. put_sound s e v x r S (rw d at G.number) (G.done d) t) (λ w h. subst Sound (sym (not_put (G.refused w h) t k)) S)

-- ---- upload: puts one by one, or nothing where the lists differ in length
puts_sound : {a : Trace} {b e : Buffers} {ranks : List ℕ} {zs : List Sample} {r : Uploaded} → Sound (state a b ranks) → Puts a b zs r e → Sound (state r.trace e ranks)
puts_sound S all_taken = S
puts_sound S (one_refused G h) = put_step_sound S G refl refl
puts_sound S (one_taken G h P) = puts_sound (put_step_sound S G refl refl) P

pub by_lists : {A : Type 0} {s e : State} {us : Samples} {r : Uploaded} → UploadGives s.trace s.lent us r e.lent us → e.trace ≡ r.trace → e.ranks ≡ s.ranks
    → (Puts s.trace s.lent (zipped us.across us.up us.marks) r e.lent → e ≡ state r.trace e.lent s.ranks → A)
    → (r ≡ not_uploaded s.trace → e ≡ s → A) → A
by_lists {us = us} G t k taken none = elim (decided _ (lists_decided us)) [
  | yes o ↦ taken (G.puts o) (state_is t refl k)
  | no n ↦ let P = G.unequal n in none P.0 (state_is (t ∙ ap (λ (r : Uploaded). r.trace) P.0) P.1 k)
]

-- ---- every call
pub step_sound : {s e : State} {c : Call} {r : Answer} → Sound s → Step s e c r → Sound e
step_sound {s} S (starts G t l k) = started_sound {s = s} (starts G t l k)
step_sound S (puts G t k) = put_step_sound S G t k
step_sound S (uploads G t k) = by_lists G t k (λ P z. subst Sound (sym z) (puts_sound S P)) (λ n z. subst Sound (sym z) S)
step_sound S (asks G t l k) = subst Sound (sym (state_is l (buffers_is G.lent t) k)) S
step_sound S (reads G t) = subst Sound (sym (state_is t G.lent refl)) (record {
  few = S.few;
  small = S.small;
  held = S.held;
  ranged = S.ranged;
  marks = S.marks;
  costs = S.costs;
  setup = S.setup;
})
