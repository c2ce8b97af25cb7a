-- What follows of a sound state: the levels that a read gives, and the numbers that cannot arise; and the number of a state with no level. Assumes nothing.
use mathlib.Core.Path.{◌≡◌, refl, sym, subst}
use mathlib.Core.Logic.{⊎_elim}
use mathlib.Core.Bool.{false, ◌&&◌, ◌||◌}
use mathlib.Core.List.{List}
use Prim.Native.Nat.{ℕ, ◌-◌, ◌≤◌, zero-le}
use native.Mathlib.Nat.{le_refl, le_antisymm}
use native.Mathlib.Omega.{arith}
use lib.Dec.{eqb}
use Rattle.std.specs.Prelude.{Ok}
use Rattle.refusal.specs.Number.{code}
use Rattle.refusal.proofs.Rows.{code_one, first_taken, first_passed, first_has}
use Rattle.sample.specs.declared.Sample.{Sample}
use Rattle.sample.specs.Samples.{Samples}
use Rattle.family.specs.Levels as Levels
use Rattle.family.proofs.Checks.{room}
use Rattle.family.proofs.Costs.{genuine_checked}
use Rattle.family.proofs.Levels.{in_levels}
use Rattle.table.specs.Table.{cell}
use Rattle.costs.specs.Costs.{Permit}
use Rattle.permission.specs.Finest.{perm}
use Rattle.permission.proofs.Perm.{perm_adjacent}
use Rattle.costs.proofs.Meaning.{permissions, genuine_is, marked_held}
use Rattle.readout.specs.Read.{rank}
use Rattle.readout.proofs.Meaning.{read_chosen, ranks_read}
use Rattle.trace.specs.declared.Trace.{Trace}
use Rattle.trace.specs.declared.Changed.{Changed}
use Rattle.trace.specs.declared.Uploaded.{Uploaded}
use Rattle.trace.specs.declared.Levels.{Levels}
use Rattle.checks.specs.Numbers.{TraceNumber, StoredSamples, StoredCells}
use Rattle.trace.specs.Calls.{sizes, Buffers, PutGives}
use Rattle.trace.specs.Upload.{stopped, Puts}
use Rattle.trace.specs.Upload.Puts.{all_taken, one_refused, one_taken}
use Rattle.checks.proofs.Passed.{read_passed}
use Rattle.trace.proofs.Exactly.{upload_rows}
use Rattle.history.specs.Run.{State, Call, Answer, Step, answered}
use Rattle.history.specs.Run.Call.{put, upload, read}
use Rattle.history.specs.Run.Answer.{levels}
use Rattle.history.specs.Run.Step.{starts, puts, uploads, asks, reads}
use Rattle.history.specs.Hold.{Permitted, levels_of, Shown, MarksKept, MarksRanked, on_trace, Looks}
use Rattle.history.proofs.Sound.{Sound, state, state_is, by_lists, step_sound}

pub sound_shown : {s e : State} {r : Levels} → Sound s → Step s e read (levels r) → answered (levels r) ≡ 0 → Shown e r
sound_shown {s} {e} {r} S (reads G t) h =
    let d : r.outcome ≡ Ok tt = code_one r.outcome (Ok tt) h in
    let a = s.trace in
    let b = s.lent in
    let p = read_passed (sizes a) b.samples b.table s.ranks (rw d at G.number) in
    let W = G.done d in
    let B = ranks_read b.table a.capacity a.levels a.held p.0.sized.0 S.few (omega arith) (omega arith) p.1.cells s.ranks e.ranks r.segments r.total W in
    subst (λ (u : State). Shown u r) (sym (state_is t G.lent refl)) (record {
      chosen = read_chosen b.table a.capacity a.levels a.held s.ranks e.ranks r.segments r.total B (omega arith)
          (Permit b.samples a.tolerances) (perm b.samples a.tolerances) (perm_adjacent b.samples a.tolerances)
          (room a.levels a.held S.few (omega arith)) (permissions b.samples a.tolerances a.levels a.held S.ranged) S.costs;
      level = W.level;
      past = W.past;
      total = W.all;
    })

-- ---- marks
-- in every family of a state's samples, whatever else holds of the state
pub family_keeps : (s : State) (L : ℕ → List ℕ) → Levels.Family (Permitted s) s.trace.levels 0 (s.trace.held - 1) L → MarksKept s L
family_keeps s L F q h m = marked_held s.lent.samples s.trace.tolerances q m F zero-le (omega arith)

-- and so by the ranks that are read
pub sound_marked : {s e : State} {r : Levels} → Sound s → Step s e read (levels r) → answered (levels r) ≡ 0 → MarksRanked e
sound_marked {s} {e} {r} S (reads G t) h q o m =
    let d : r.outcome ≡ Ok tt = code_one r.outcome (Ok tt) h in
    let p = read_passed (sizes s.trace) s.lent.samples s.lent.table s.ranks (rw d at G.number) in
    let k : e.trace ≡ s.trace = t in
    let one : 1 ≤ e.trace.levels = rw k p.0.sized.0 in
    let most : rank e.ranks q ≤ e.trace.levels = rw k ((G.done d).best.highest q (rw k at o)) in
    let all = family_keeps e (levels_of e) (sound_shown S (reads G t) h).chosen.minimal.family q o m e.trace.levels one (le_refl _) in
    le_antisymm most (in_levels (rank e.ranks) e.trace.levels 0 (e.trace.held - 1) q zero-le all).2

-- ---- numbers
module _ (s : State) (S : Sound s) where
  -- check 5 holds
  stored_samples : StoredSamples (sizes s.trace) s.lent.samples
  stored_samples q h = (S.ranged.across.each q h, S.ranged.up.each q h, S.marks q h)

  stored_cells : StoredCells (sizes s.trace) s.lent.table
  stored_cells =
      let a = s.trace in
      let b = s.lent in
      let n : a.held ≤ 256 = omega arith in
      genuine_checked (perm b.samples a.tolerances) (perm_adjacent b.samples a.tolerances) (cell b.table a.capacity) a.levels a.held
      (room a.levels a.held S.few n)
      ((genuine_is b.samples a.tolerances a.levels a.held S.ranged S.few n (cell b.table a.capacity)).1 S.costs)

  -- so that of the numbers 1 to 5 only 1 and 3 are left: after a refused start the number is 1, after another it is 3 or a later one
  trace_has : {Lent Stored R : Type 0} {k : ℕ} (Q : ℕ → Type 0) → Q 1 → Q 3 → (R → Q k) → Stored → TraceNumber (sizes s.trace) Lent Stored (λ j. R) k → Q k
  trace_has Q one three more stored F =
      ⊎_elim
      (λ z. subst Q (sym (first_taken (λ q. omega arith) F)) one)
      (λ g.
      first_has Q three (λ R. more (first_passed (λ n. n stored) (first_passed (λ n. omega arith) R)))
      (first_passed (λ n. n g.1) (first_passed (λ n. n g.0) F)))
      S.setup

-- a call never gives 4 or 5, and 2 only where it is a start
abbrev pub Possible : Call → ℕ → Type 0
Possible c k = eqb k 4 || (eqb k 5 || (eqb k 2 && on_trace c)) ≡ false

good : (c : Call) {k : ℕ} → k ≡ 0 → Possible c k
good c z = subst (Possible c) (sym z) refl

put_number : {s : State} {v : ℕ} {x : Sample} {r : Changed} {b : Buffers} → Sound s → PutGives s.trace s.lent v x r b → Possible (put v x) (code r.outcome)
put_number {s} {v} {x} S G =
    let c = put v x in
    trace_has s S (Possible c) refl refl (first_has (Possible c) refl (first_has (Possible c) refl (first_has (Possible c) refl (good c)))) (stored_samples s S, stored_cells s S) G.number

-- so of samples put one by one
puts_number : {a : Trace} {b e : Buffers} {ranks : List ℕ} {zs : List Sample} {r : Uploaded} (us : Samples) → Sound (state a b ranks) → Puts a b zs r e → Possible (upload us) (stopped r.stop)
puts_number us S all_taken = refl
puts_number us S (one_refused G h) = rw h at (put_number S G)
puts_number us S (one_taken G h P) = puts_number us (step_sound S (puts G refl refl)) P

pub step_number : {s e : State} {c : Call} {r : Answer} → Sound s → Step s e c r → Possible c (answered r)
step_number {c} S (starts G t l k) = first_has (Possible c) refl (first_has (Possible c) refl (good c)) G.number
step_number S (puts G t k) = put_number S G
step_number {c} {r} S (uploads {us = us} G t k) = by_lists {A = Possible c (answered r)} G t k (λ P z. puts_number us S P) (λ n z. rw n refl)
step_number {s} {c} S (asks G t l k) = trace_has s S (Possible c) refl refl (first_has (Possible c) refl (good c)) (stored_samples s S) G.number
step_number {s} {c} S (reads G t) = trace_has s S (Possible c) refl refl (first_has (Possible c) refl (good c)) (stored_samples s S, stored_cells s S) G.number

-- with no level every call that looks at its trace gives 1
pub bare_number : {s e : State} {c : Call} {r : Answer} → s.trace.levels ≡ 0 → Step s e c r → Looks c → answered r ≡ 1
bare_number z (starts G t l k) o = absurd o
bare_number z (puts G t k) o = first_taken (λ q. omega arith) G.number
bare_number {s} {e} z (uploads {us = us} {r = r} G t k) o = ((upload_rows s.trace s.lent us r e.lent us G).trace o.0 o.1).setup.row_1.1 (λ q. omega arith)
bare_number z (asks G t l k) o = first_taken (λ q. omega arith) G.number
bare_number z (reads G t) o = first_taken (λ q. omega arith) G.number
