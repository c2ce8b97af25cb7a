-- One theorem for each call: from every entry there is a result that its promise allows. Assumes nothing.
use mathlib.Core.Path.{refl}
use mathlib.Core.List.{List, [], ◌∷◌}
use Prim.Native.Nat.{ℕ, suc, ◌+◌, ◌-◌}
use native.Mathlib.Omega.{arith}
use lib.ListN.{length, get_or, replicate}
use Rattle.refusal.specs.Number.{Outcome, code}
use Rattle.std.specs.Prelude.{Ok, Err}
use Rattle.refusal.proofs.Plain.{decided}
use Rattle.refusal.proofs.Rows.{by_outcome}
use Rattle.sample.specs.declared.Sample.{Sample}
use Rattle.sample.specs.Samples.{Samples, store}
use Rattle.geometry.specs.Test.{judged}
use Rattle.sample.proofs.Coordinate.{fewer_ranged}
use Rattle.geometry.proofs.Spoiler.{judged_says}
use Rattle.costs.specs.Costs.{named}
use Rattle.permission.specs.Finest.{perm}
use Rattle.costs.proofs.Exit.{rewritten_some}
use Rattle.readout.specs.Read.{RanksRead}
use Rattle.readout.proofs.Exists.{ranks_some}
use Rattle.trace.specs.declared.Trace.{Trace}
use Rattle.trace.specs.declared.Started.{Started}
use Rattle.trace.specs.declared.Changed.{Changed}
use Rattle.trace.specs.declared.Uploaded.{Uploaded}
use Rattle.trace.specs.declared.Levels.{Levels}
use Rattle.checks.specs.Numbers.{StartNumber, PutNumber, AskNumber, ReadNumber}
use Rattle.sizes.specs.Setup.{held_with}
use Rattle.trace.specs.Calls.{sizes, empty_trace, no_trace, StartGives, Buffers, buffers, holding, PutGives, Asked, AskGives, ReadGives}
use Rattle.trace.specs.Upload.{uploaded, zipped, Puts, not_uploaded, UploadGives}
use Rattle.trace.specs.Upload.Puts.{all_taken, one_refused, one_taken}
use Rattle.sizes.specs.Rows.{setup_outcome}
use Rattle.checks.specs.Rows.{put_outcome, ask_outcome, read_outcome}
use Rattle.checks.proofs.Decided.{lists_decided}
use Rattle.checks.proofs.Numbers.{start_number, put_number, ask_number, read_number}
use Rattle.checks.proofs.Passed.{ask_passed, read_passed, in_range}
use Rattle.trace.proofs.Ready.{put_ready}
use Rattle.trace.proofs.Calls.{done_refused, refused_gives, changed_gives}

-- ---- start
pub start_some : (m N : ℕ) (tols : List ℕ) → (r : Started) × StartGives m N tols r
start_some m N tols = by (setup_outcome m N tols) (start_number m N tols)
  where
    by : (o : Outcome) → StartNumber m N tols (code o) → (r : Started) × StartGives m N tols r
    by (Ok _) h = (record { outcome = Ok tt; trace = empty_trace m N tols }, record { number = h; done = λ d. refl; refused = λ w g. done_refused refl g })
    by (Err why) h = (record { outcome = Err why; trace = no_trace }, record { number = h; done = λ d. done_refused d refl; refused = λ w g. refl })

-- ---- put: the outcome that the row of tests gives, and where it is Ok the table after the call
pub put_some : (a : Trace) (b : Buffers) (v : ℕ) (x : Sample) → (r : Changed) × (e : Buffers) × PutGives a b v x r e
put_some a b v x = by (put_outcome (sizes a) b.samples b.table v x) (put_number (sizes a) b.samples b.table v x)
  where
    by : (o : Outcome) → PutNumber (sizes a) b.samples b.table v x (code o) → (r : Changed) × (e : Buffers) × PutGives a b v x r e
    by (Err why) h = (record { outcome = Err why; trace = a; cells = 0 }, b, refused_gives h refl)
    by (Ok _) h =
        let R = put_ready a b.samples b.table v x h in
        let n = held_with a.held v in
        let xs = store b.samples v x in
        let w = rewritten_some a.capacity (perm xs a.tolerances) a.levels v n R.sizes.3 R.sizes.4 b.table R.room in (
          record { outcome = Ok tt; trace = holding a n; cells = named a.levels v n },
          buffers xs w.0,
          changed_gives h (record { samples = refl; cells = w.1; count = refl }),
        )

-- ---- upload
pub puts_some : (a : Trace) (b : Buffers) (zs : List Sample) → (r : Uploaded) × (e : Buffers) × Puts a b zs r e
puts_some a b [] = (uploaded (Ok tt) a 0 0, b, all_taken)
puts_some a b (x ∷ xs) =
    let w = put_some a b a.held x in
    by_outcome w.0.outcome
    (λ d. let z = puts_some w.0.trace w.1 xs in (uploaded z.0.stop z.0.trace (suc z.0.added) (w.0.cells + z.0.cells), z.1, one_taken w.2 d z.2))
    (λ why h. (uploaded (Err why) w.0.trace 0 0, w.1, one_refused w.2 h))

pub upload_some : (a : Trace) (b : Buffers) (us : Samples) → (r : Uploaded) × (e : Buffers) × UploadGives a b us r e us
upload_some a b us = elim (decided _ (lists_decided us)) [
  | yes o ↦ let w = puts_some a b (zipped us.across us.up us.marks) in (w.0, w.1, record { unequal = λ n. absurd (n o); puts = λ p. w.2; lists = refl })
  | no n ↦ (not_uploaded a, b, record { unequal = λ p. (refl, refl); puts = λ o. absurd (n o); lists = refl })
]

-- ---- ask
pub ask_some : (a : Trace) (xs : Samples) (k i j : ℕ) → (r : Asked) × AskGives a xs k i j r xs
ask_some a xs k i j = by (ask_outcome (sizes a) xs k i j) (ask_number (sizes a) xs k i j)
  where
    by : (o : Outcome) → AskNumber (sizes a) xs k i j (code o) → (r : Asked) × AskGives a xs k i j r xs
    by (Err why) h = (Err why, record { number = h; says = tt; lent = refl })
    by (Ok _) h =
        let p = ask_passed (sizes a) xs k i j h in
        let e = get_or a.tolerances (k - 1) 0 in
        (Ok (judged xs i j e), record { number = h; says = judged_says xs i j e (fewer_ranged (omega arith) (in_range p.0)) p.1; lent = refl })

-- ---- read
pub read_some : (a : Trace) (b : Buffers) (ranks : List ℕ) → (r : Levels) × (bytes : List ℕ) × ReadGives a b ranks r b bytes
read_some a b ranks = by (read_outcome (sizes a) b.samples b.table (length ranks)) (read_number (sizes a) b.samples b.table ranks)
  where
    gives : ReadNumber (sizes a) b.samples b.table ranks 0 → (e per : List ℕ) (sum : ℕ) → RanksRead b.table a.capacity a.levels a.held ranks e per sum
        → (r : Levels) × (bytes : List ℕ) × ReadGives a b ranks r b bytes
    gives h e per sum R = (
      record { outcome = Ok tt; segments = per; total = sum },
      e,
      record { number = h; done = λ d. R; refused = λ w g. done_refused refl g; lent = refl },
    )

    by : (o : Outcome) → ReadNumber (sizes a) b.samples b.table ranks (code o) → (r : Levels) × (bytes : List ℕ) × ReadGives a b ranks r b bytes
    by (Err why) h = (
      record { outcome = Err why; segments = replicate 16 0; total = 0 },
      ranks,
      record { number = h; done = λ d. done_refused d refl; refused = λ w g. record { kept = refl; segments = refl; total = refl }; lent = refl },
    )
    by (Ok _) h =
        let p = read_passed (sizes a) b.samples b.table ranks h in
        let z = p.0.sized in
        let n = p.0.held in
        let w = ranks_some b.table a.capacity a.levels a.held z.0 z.1 (omega arith) (omega arith) p.1.cells ranks p.2 in
        gives h w.0 w.1 w.2 w.3
