-- An upload as the code makes it: its lists, what refuses it before its first sample, and a loop that is some samples on its way. Assumes nothing.
use mathlib.Core.Path.{◌≡◌, refl, ap}
use mathlib.Core.Bool.{Bool, true, false, cond}
use mathlib.Core.List.{List, [], ◌∷◌}
use Prim.Native.Nat.{ℕ, zero, suc, ◌+◌, ◌*◌, ◌≤◌, ◌<◌}
use native.Mathlib.Nat.{zero-add, add-zero, add_assoc, mul-le-mul}
use native.Mathlib.Numerals.{add-one}
use native.Mathlib.Omega.{arith}
use lib.IntN.{ℤ, pos}
use lib.ListN.{length, get_or, drop, drop_of_length-le}
use lib.Seq.{drop-cons}
use borrow.Author.Tests.{eqb-true, eqb-false}
use Rattle.refusal.specs.declared.Refusal.{Refusal}
use Rattle.refusal.specs.declared.Refusal.TheVariants.{Buffer}
use Rattle.refusal.specs.Number.{Outcome}
use Rattle.std.specs.Prelude.{Ok, Err}
use Rattle.refusal.specs.Check.{unless, and_then, Decides}
use Rattle.sample.specs.declared.Sample.{Sample}
use Rattle.sample.specs.Samples.{Samples, sample, samples, sample_at}
use Rattle.trace.specs.declared.Trace.{Trace}
use Rattle.trace.specs.declared.Changed.{Changed}
use Rattle.trace.specs.declared.Uploaded.{Uploaded}
use Rattle.trace.specs.Calls.{sizes, Buffers, PutGives}
use Rattle.checks.specs.Numbers.{OneLength}
use Rattle.trace.specs.Upload.{zipped, uploaded, Puts, UploadGives}
use Rattle.trace.specs.Upload.Puts.{all_taken, one_refused, one_taken}
use Rattle.checks.specs.Rows.{lengths, trace_outcome, upload_outcome, Passed, PassedTable}
use Rattle.checks.proofs.Decided.{lists_decided}
use Rattle.checks.proofs.Numbers.{put_stopped}
use Rattle.checks.proofs.Passed.{trace_passed, put_passed}
use Rattle.trace.proofs.Calls.{done_refused, refused_one, refused_gives, put_keeps}
use Rattle.trace.proofs.Formulas.{put_adds, added_cells}

-- ---- the lists
abbrev pub no_sample : Sample
no_sample = sample (pos 0) (pos 0) 0

-- of one length they have as many samples, and sample q is made of what each has at q
pub zipped_length : (xs ys : List ℤ) (ms : List ℕ) → OneLength (samples xs ys ms) → length (zipped xs ys ms) ≡ length xs
zipped_length [] ys ms h = refl
zipped_length (x ∷ xs) [] ms h = absurd (omega (arith, h.0))
zipped_length (x ∷ xs) (y ∷ ys) [] h = absurd (omega (arith, h.1))
zipped_length (x ∷ xs) (y ∷ ys) (m ∷ ms) h = ap suc (zipped_length xs ys ms (omega (arith, h.0), omega (arith, h.1)))

pub zipped_at : (xs ys : List ℤ) (ms : List ℕ) (q : ℕ) → OneLength (samples xs ys ms) → q < length xs → get_or (zipped xs ys ms) q no_sample ≡ sample_at (samples xs ys ms) q
zipped_at [] ys ms q h l = absurd (omega arith)
zipped_at (x ∷ xs) [] ms q h l = absurd (omega (arith, h.0))
zipped_at (x ∷ xs) (y ∷ ys) [] q h l = absurd (omega (arith, h.1))
zipped_at (x ∷ xs) (y ∷ ys) (m ∷ ms) zero h l = refl
zipped_at (x ∷ xs) (y ∷ ys) (m ∷ ms) (suc q) h l = zipped_at xs ys ms q (omega (arith, h.0), omega (arith, h.1)) (omega arith)

-- ---- before the first sample
module _ (a : Trace) (b : Buffers) (us : Samples) where
  abbrev before : Outcome
  before = upload_outcome (sizes a) b.samples b.table (lengths us)

  abbrev list : List Sample
  list = zipped us.across us.up us.marks

  abbrev row : Bool → Bool → Outcome
  row one none = and_then (unless one Buffer) (cond none (Ok tt) (trace_outcome (sizes a) b.samples b.table))

  -- refused, it writes nothing
  pub upload_stopped : {why : Refusal} → before ≡ Err why → UploadGives a b us (uploaded (Err why) a 0 0) b us
  unfolding upload_outcome
  upload_stopped {why} = by _ _ (lists_decided us) (eqb-true (length us.across) 0) (eqb-false (length us.across) 0)
    where
      by : (one none : Bool) → Decides (OneLength us) one → (none ≡ true → length us.across ≡ 0) → (none ≡ false → length us.across ≡ 0 → ⊥) → row one none ≡ Err why
          → UploadGives a b us (uploaded (Err why) a 0 0) b us
      by false none d e f h = record {
        unequal = λ n. (ap (λ w. uploaded (Err w) a 0 0) (refused_one refl h refl), refl);
        puts = λ o. absurd (d.wrong refl o);
        lists = refl;
      }
      by true true d e f h = done_refused refl h
      by true false d e f h = record {
        unequal = λ n. absurd (n (d.right refl));
        puts = λ o.
            let some : 0 < length list = omega (arith, zipped_length us.across us.up us.marks o, f refl) in
            rw (drop-cons list 0 no_sample some) (one_refused (refused_gives {v = a.held} {o = Err why} (put_stopped (sizes a) b.samples b.table a.held (get_or list 0 no_sample) h) refl) refl);
        lists = refl;
      }

  -- else its lists have one length, and unless they are empty checks 1 to 5 have passed
  pub upload_ready : before ≡ Ok tt → OneLength us × (0 < length us.across → Passed (sizes a) b.samples × PassedTable (sizes a) b.table)
  unfolding upload_outcome
  upload_ready = by _ _ (lists_decided us) (eqb-true (length us.across) 0)
    where
      by : (one none : Bool) → Decides (OneLength us) one → (none ≡ true → length us.across ≡ 0) → row one none ≡ Ok tt
          → OneLength us × (0 < length us.across → Passed (sizes a) b.samples × PassedTable (sizes a) b.table)
      by false none d e h = done_refused h refl
      by true true d e h = (d.right refl, λ l. absurd (omega (arith, e refl)))
      by true false d e h = (d.right refl, λ l. (trace_passed (sizes a) b.samples b.table).0 h)

-- ---- on its way: i samples are put with so many cells, and from a and b they led to c and d. Whatever the other samples then lead to, all of them lead to
abbrev more : ℕ → ℕ → Uploaded → Uploaded
more i cells q = uploaded q.stop q.trace (i + q.added) (cells + q.cells)

pub record Underway (a : Trace) (b : Buffers) (zs : List Sample) (i cells : ℕ) (c : Trace) (d : Buffers) : Type 0 where
  pub leads : (q : Uploaded) (e : Buffers) → Puts c d (drop i zs) q e → Puts a b zs (more i cells q) e
  pub within : i ≤ c.held
  pub few : cells ≤ 4096 * i
  pub ready : i < length zs → Passed (sizes c) d.samples × PassedTable (sizes c) d.table

pub underway_none : {a : Trace} {b : Buffers} {zs : List Sample} → (0 < length zs → Passed (sizes a) b.samples × PassedTable (sizes a) b.table) → Underway a b zs 0 0 a b
underway_none h = record {
  leads = λ q e P. rw (zero-add q.added, zero-add q.cells) P;
  within = omega arith;
  few = omega arith;
  ready = h;
}

module _ {a c : Trace} {b d : Buffers} {zs : List Sample} {i cells : ℕ} (U : Underway a b zs i cells c d) where
  -- no sample is left
  pub underway_ends : length zs ≤ i → Puts a b zs (uploaded (Ok tt) c i cells) d
  underway_ends h = rw (add-zero i, add-zero cells) at (U.leads (uploaded (Ok tt) c 0 0) d (rw (drop_of_length-le zs h) all_taken))

  module _ (l : i < length zs) {r : Changed} {f : Buffers} (G : PutGives c d c.held (get_or zs i no_sample) r f) where
    -- the next is refused
    pub underway_stops : {why : Refusal} → r.outcome ≡ Err why → Puts a b zs (uploaded (Err why) c i cells) f
    underway_stops {why = why} h =
        rw (add-zero i, add-zero cells, (G.refused why h).trace) at (U.leads (uploaded (Err why) r.trace 0 0) f (rw (drop-cons zs i no_sample l) (one_refused G h)))

    -- or it is put
    module _ (h : r.outcome ≡ Ok tt) where
      pub next_few : r.cells ≤ 4096
      next_few =
          let p = put_passed (sizes c) d.samples d.table c.held (get_or zs i no_sample) (rw h at G.number) in
          omega (arith, added_cells c d c.held _ r f G h refl, mul-le-mul {n₁ = c.levels} {m₁ = c.held} {n₂ = 16} {m₂ = 256} p.0.sized.1 (omega (arith, p.4, p.0.sized.3)))

      pub underway_more : Underway a b zs (i + 1) (cells + r.cells) r.trace f
      underway_more = record {
        leads = λ q e P. rw (let h : i + 1 + q.added ≡ i + suc q.added = omega arith in h, add_assoc cells r.cells q.cells) (U.leads _ e (rw (drop-cons zs i no_sample l) (one_taken G h (rw (add-one i) at P))));
        within = rw (put_adds c d c.held _ r f G h refl).trace (omega (arith, U.within));
        few = omega (arith, U.few, next_few);
        ready = λ m. put_keeps (rw h at G.number) (G.done h);
      }
