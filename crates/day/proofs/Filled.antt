-- Adding the records of a file: one record more, and the number of a day that is full. Assumes nothing.
use mathlib.Core.Path.{◌≡◌, refl, sym, ap, subst, ◌∙◌}
use mathlib.Core.Logic.{inr, ⊎_elim}
use mathlib.Core.Bool.{true≢false}
use mathlib.Core.List.{List, []}
use Prim.Native.Nat.{ℕ, ◌+◌, ◌≤◌, ◌<◌}
use borrow.Author.Count.{below_more}
use native.Mathlib.Omega.{arith}
use lib.IntN.{pos}
use lib.ListN.{length, get_or, set, length-set}
use lib.Seq.{get_or-set_same, get_or-set_other}
use Rattle.refusal.specs.declared.Refusal.{Refusal}
use Rattle.std.specs.Prelude.{Ok, Err}
use Rattle.refusal.specs.Number.{code}
use Rattle.refusal.specs.Check.{First, all_below}
use Rattle.refusal.proofs.Rows.{first_passed, first_same, numbered}
use Rattle.sample.specs.declared.Sample.{Sample}
use Rattle.sample.specs.Samples.{Samples}
use Rattle.sample.specs.Sweep.{Ranged}
use Rattle.pause.specs.Pause.{pause_line_of}
use Rattle.pause.specs.Restart.{sample_of}
use Rattle.pause.proofs.Marks.{mark_small}
use Rattle.pause.proofs.Samples.{sample_there}
use Rattle.trace.specs.declared.Trace.{Trace}
use Rattle.trace.specs.declared.Changed.{Changed}
use Rattle.sizes.specs.Setup.{Sized, Tolerances}
use Rattle.checks.specs.Numbers.{TraceNumber}
use Rattle.trace.specs.Calls.{sizes, PutGives, buffers}
use Rattle.sizes.specs.Rows.{tolerances_ok, tolerance_ok}
use Rattle.sizes.proofs.Decided.{tolerances_decided}
use Rattle.trace.proofs.Formulas.{put_adds}
use Rattle.history.specs.Run.{State, Call}
use Rattle.history.specs.Run.Call.{put}
use Rattle.history.specs.Run.Step.{puts}
use Rattle.history.proofs.Sound.{Sound, state, step_sound}
use Rattle.history.proofs.Follows.{Possible, step_number}
use Rattle.day.specs.Day.{count, day_sample, tolerances}
use Rattle.day.specs.Fill.{day_trace, Filled, AddsAll}
use Rattle.day.proofs.Records.{good_placed}

-- ---- the setup
sized : Sized 3 104
sized = omega arith

rising : Tolerances 3 tolerances
unfolding tolerances_ok tolerance_ok all_below
rising = (tolerances_decided 3 tolerances).right refl

-- of the numbers 1 to 5 none is given, where the buffers are lent and 5 is not possible
pub past_trace : (c : Call) (n : ℕ) {Lent Stored R : Type 0} {k : ℕ} → n ≤ 104 → Lent → Possible c k
    → TraceNumber (sizes (day_trace n)) Lent Stored (λ j. R) k → R
past_trace c n room lent p F =
    ⊎_elim (λ a. absurd (true≢false (subst (Possible c) a.1 p))) (λ a. a.1)
    (first_passed (λ m. omega arith) (first_passed (λ m. m lent) (first_passed (λ m. m rising) (first_passed (λ m. m sized) F))))

-- ---- the records of a file that is not refused
-- a place more is stored
stored : {A : Type 0} (z : A) (f : ℕ → A) (xs : List A) (n : ℕ) → n < length xs
    → ((q : ℕ) → q < n → get_or xs q z ≡ f q) → (q : ℕ) → q < n + 1 → get_or (set xs n (f n)) q z ≡ f q
stored z f xs n room held =
    below_more _ n (λ q h. get_or-set_other xs n q (f n) z (λ e. omega arith) ∙ held q h) (get_or-set_same xs n (f n) z room)

module _ (s : List ℕ) (good : (pause_line_of s).outcome ≡ Ok tt) (n : ℕ) {xs : Samples} {t : List ℕ} (F : Filled s n xs t) where
  module _ (few : n ≤ count s) where
    pub filled_ranged : Ranged xs n
    filled_ranged = record {
      across = record { held = omega (arith, F.room, F.lent); each = λ q h. rw (F.across q h) (good_placed s good q (omega arith)).0 };
      up = record { held = omega (arith, F.room, F.lent); each = λ q h. rw (F.up q h) (good_placed s good q (omega arith)).1 };
    }

    pub filled_sound : (ranks : List ℕ) → Sound (state (day_trace n) (buffers xs t) ranks)
    filled_sound ranks = record {
      few = omega arith;
      small = omega arith;
      held = F.room;
      ranged = filled_ranged;
      marks = λ q h. rw (F.marks q h) (mark_small s q);
      costs = F.costs;
      setup = inr (sized, rising);
    }

  -- one record more: it is added, or there is no room
  module _ (more : n < count s) {a : Trace} {x : Sample} {r : Changed} {xs' : Samples} {t' : List ℕ} (held : a ≡ day_trace n) (next : x ≡ sample_of s n)
      (gives : PutGives a (buffers xs t) n x r (buffers xs' t')) where
    G : PutGives (day_trace n) (buffers xs t) n (day_sample s n) r (buffers xs' t')
    G = rw (held, next, sample_there s good n more) at gives

    pub added_number : First 7 (n ≡ 104) (λ k. k ≡ 0) (code r.outcome)
    added_number =
        let S = filled_sound (omega arith) [] in
        let e : State = state r.trace (buffers xs' t') [] in
        first_same (λ p. p.1, λ z. (refl, z)) (first_passed (λ o. omega arith))
        (first_passed (λ m. m ((good_placed s good n more).0, (good_placed s good n more).1, mark_small s n))
        (past_trace (put n (day_sample s n)) n F.room (omega (arith, F.lent), omega (arith, F.lent)) (step_number {e = e} S (puts G refl refl)) G.number))

    pub filled_more : r.outcome ≡ Ok tt → (r.trace ≡ day_trace (n + 1)) × Filled s (n + 1) xs' t'
    filled_more d =
        let P = put_adds (day_trace n) (buffers xs t) n (day_sample s n) r (buffers xs' t') G d refl in
        let room : n < 104 = ⊎_elim (λ a. absurd (omega (arith, ap code d, a.1))) (λ a. omega (arith, F.room, a.0)) added_number in
        let S = step_sound {e = state (day_trace (n + 1)) (buffers xs' t') []} (filled_sound (omega arith) []) (puts G (sym P.trace) refl) in (
          P.trace,
          record {
            room = omega arith;
            lent = rw P.samples (
              length-set xs.across n _ ∙ F.lent.0,
              length-set xs.up n _ ∙ F.lent.1,
              length-set xs.marks n _ ∙ F.lent.2,
              P.cells.same ∙ F.lent.3,
            );
            across = rw P.samples (stored (pos 0) (λ q. (day_sample s q).across) xs.across n (omega (arith, F.lent.0)) F.across);
            up = rw P.samples (stored (pos 0) (λ q. (day_sample s q).up) xs.up n (omega (arith, F.lent.1)) F.up);
            marks = rw P.samples (stored 0 (λ q. (day_sample s q).mark) xs.marks n (omega (arith, F.lent.2)) F.marks);
            costs = S.costs;
          },
        )

    pub all_refused : (why : Refusal) → r.outcome ≡ Err why → AddsAll s (Err why) xs' t'
    all_refused why h =
        ⊎_elim (λ a. (omega (arith, a.0), ap code (sym h) ∙ a.1)) (λ a. absurd (numbered why (ap code (sym h) ∙ a.1))) added_number
