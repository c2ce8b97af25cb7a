-- From what the checks answer, and what a change of a sample leaves, to what a call gives: on plain data. Assumes nothing.
use mathlib.Core.Path.{◌≡◌, refl}
use mathlib.Core.List.{List}
use Prim.Native.Nat.{ℕ, ◌≤◌, ◌<◌}
use native.Mathlib.Omega.{arith}
use lib.ListN.{length-set}
use Rattle.refusal.specs.declared.Refusal.{Refusal}
use Rattle.refusal.specs.Number.{Outcome, code}
use Rattle.std.specs.Prelude.{Ok, Err}
use Rattle.std.specs.Result.{result_and}
use Rattle.refusal.specs.Check.{and_then}
use Rattle.sample.specs.Mark.{Mark}
use Rattle.sample.specs.declared.Sample.{Sample}
use Rattle.sample.specs.Samples.{Samples, store}
use Rattle.family.specs.Fine.{Fine}
use Rattle.family.proofs.Local.{Without}
use Rattle.table.specs.Table.{cell}
use Rattle.costs.specs.Costs.{Named}
use Rattle.permission.specs.Finest.{perm}
use Rattle.costs.specs.Walk.{Rewritten}
use Rattle.costs.proofs.Exit.{held_end, put_checked}
use Rattle.trace.specs.declared.Trace.{Trace}
use Rattle.trace.specs.declared.Changed.{Changed}
use Rattle.checks.specs.Numbers.{PutNumber}
use Rattle.sizes.specs.Setup.{held_with}
use Rattle.trace.specs.Calls.{sizes, Buffers, buffers, holding, Put, PutGives}
use Rattle.checks.specs.Rows.{trace_outcome, sample_outcome, put_outcome, Passed, PassedTable}
use Rattle.checks.proofs.Numbers.{put_number}
use Rattle.change.specs.Change.{Ready, Changes}
use Rattle.sizes.proofs.Held.{held_others}
use Rattle.checks.proofs.Passed.{put_passed}
use Rattle.trace.proofs.Ready.{put_ready, set_each}
use Rattle.costs.proofs.Meaning.{rewritten_cells, cells_rewritten}

-- no call is both carried out and refused
pub done_refused : {A : Type 0} {o : Outcome} {why : Refusal} → o ≡ Ok tt → o ≡ Err why → A
done_refused h g = absurd (cc)

-- and a call refused twice is refused alike
pub refused_one : {o p : Outcome} {v w : Refusal} → o ≡ p → o ≡ Err v → p ≡ Err w → v ≡ w
refused_one e h g = cc

-- what put's two rows say together
joined : (o p : Outcome) → result_and o p ≡ and_then o p
joined (Ok _) p = refl
joined (Err why) p = refl

pub put_says : (a : Trace) (b : Buffers) (v : ℕ) (x : Sample) {first own o : Outcome} → first ≡ trace_outcome (sizes a) b.samples b.table → own ≡ sample_outcome (sizes a) v x → o ≡ result_and first own
    → PutNumber (sizes a) b.samples b.table v x (code o)
unfolding put_outcome
put_says a b v x {first} {own} f w e = rw (e, joined first own, f, w) (put_number (sizes a) b.samples b.table v x)

-- buffers are their parts
pub buffers_is : {b : Buffers} {xs : Samples} {t : List ℕ} → b.samples ≡ xs → b.table ≡ t → b ≡ buffers xs t
buffers_is {b} {xs} {t} p q = let f : buffers b.samples b.table ≡ buffers xs t = cc in f

-- what is known where the change of sample v, of n samples after it, is not refused: all that it asks, and that the cells of stretches without v pass check 5
pub record Able (a : Trace) (b : Buffers) (v n : ℕ) (x : Sample) : Type 0 where
  pub ready : Ready (sizes (holding a n)) b.samples b.table v x
  pub fine : (k i j : ℕ) → 1 ≤ k → k ≤ a.levels → i < j → j < n → Without v i j → Fine k i j (cell b.table a.capacity k i j)

pub put_able : (a : Trace) (b : Buffers) (v : ℕ) (x : Sample) → PutNumber (sizes a) b.samples b.table v x 0 → Able a b v (held_with a.held v) x
put_able a b v x h =
    let p = put_passed (sizes a) b.samples b.table v x h in
    record {
      ready = put_ready a b.samples b.table v x h;
      fine = λ k i j l m o d w. p.1.cells k i j l m o (held_end (held_others a.held v p.3) i j o d w);
    }

module _ {a : Trace} {b : Buffers} {v : ℕ} {x : Sample} where
  -- the checks refuse, and nothing is written
  pub refused_gives : {o : Outcome} {why : Refusal} → PutNumber (sizes a) b.samples b.table v x (code o) → o ≡ Err why
      → PutGives a b v x (record { outcome = o; trace = a; cells = 0 }) b
  refused_gives h g = record {
    number = h;
    done = λ d. done_refused d g;
    refused = λ w f. record { trace = refl; lent = refl; count = refl };
  }

  -- the sample is put
  pub changed_gives : {cells : ℕ} {e : Buffers} → PutNumber (sizes a) b.samples b.table v x 0
      → Changes (sizes (holding a (held_with a.held v))) b.samples b.table v x cells e.samples e.table
      → PutGives a b v x (record { outcome = Ok tt; trace = holding a (held_with a.held v); cells = cells }) e
  changed_gives {cells} {e} h C =
      let A = put_able a b v x h in
      let R = A.ready in
      let z = R.sizes in
      let w = rewritten_cells a.capacity (store b.samples v x) a.tolerances a.levels v (held_with a.held v) b.table
      z.1 (omega arith) z.4 R.ranged A.fine e.table C.cells in
      record {
        number = h;
        done = λ d. record { trace = refl; samples = C.samples; cells = rw C.samples w; count = C.count };
        refused = λ w g. done_refused refl g;
      }

-- and back: what a change of sample v leaves in the table is what the walk leaves
pub put_rewritten : {a : Trace} {b e : Buffers} {v n : ℕ} {x : Sample} {r : Changed} → Able a b v n x → Put a b v n x r e
    → Rewritten a.capacity (perm (store b.samples v x) a.tolerances) (Named a.levels v n) b.table e.table
put_rewritten {a} {b} {e} {v} {n} {x} A P =
    let R = A.ready in
    let z = R.sizes in
    cells_rewritten a.capacity (store b.samples v x) a.tolerances a.levels v n b.table z.1 (omega arith) z.4 R.ranged A.fine
    e.table (rw P.samples at P.cells)

-- a sample put leaves what checks 1 to 5 pass
pub put_keeps : {a : Trace} {b e : Buffers} {v : ℕ} {x : Sample} {r : Changed} → PutNumber (sizes a) b.samples b.table v x 0 → Put a b v (held_with a.held v) x r e
    → Passed (sizes r.trace) e.samples × PassedTable (sizes r.trace) e.table
put_keeps {a} {b} {e} {v} {x} h P =
    let s = b.samples in
    let p = put_passed (sizes a) s b.table v x h in
    let A = put_able a b v x h in
    let z = A.ready.sizes in
    let others = held_others a.held v p.3 in
    rw (P.trace, P.samples) (
      record {
        sized = p.0.sized;
        tolerances = p.0.tolerances;
        lent = (
          rw (length-set s.across v x.across) p.0.lent.0,
          rw (length-set s.up v x.up) p.0.lent.1,
          rw (length-set s.marks v x.mark) p.0.lent.2,
        );
        held = z.4;
        stored = λ q l. (
          A.ready.ranged.across.each q l,
          A.ready.ranged.up.each q l,
          set_each 0 Mark s.marks v _ x.mark z.3 A.ready.marks p.2.2 (λ q l d. (p.0.stored q (others q l d)).2) q l,
        );
      },
      record {
        room = rw P.cells.same p.1.room;
        cells = put_checked a.capacity a.levels v a.held _ others b.table (store s v x) a.tolerances e.table z.4 z.1 z.2 p.1.cells (put_rewritten A P);
      },
    )
