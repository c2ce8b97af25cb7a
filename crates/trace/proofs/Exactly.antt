-- Exactly when each number of the paper's table is given by an upload; `checks` has those of the other calls. Assumes nothing.
use mathlib.Core.Path.{◌≡◌, refl, ap, ◌∙◌}
use mathlib.Core.Logic.{◌⊎◌, inl, inr, ⊎_elim, ◌↔◌}
use mathlib.Core.List.{List, ◌∷◌}
use Prim.Native.Nat.{ℕ, zero, suc, ◌+◌, ◌≤◌, ◌<◌}
use native.Mathlib.Omega.{arith}
use lib.ListN.{length, get_or}
use Rattle.refusal.specs.Check.{First}
use Rattle.refusal.proofs.Rows.{numbered, first_is, first_later, first_has, Later}
use Rattle.sample.specs.declared.Sample.{Sample}
use Rattle.sample.specs.Samples.{Samples}
use Rattle.trace.specs.declared.Trace.{Trace}
use Rattle.trace.specs.declared.Uploaded.{Uploaded}
use Rattle.sample.specs.Valid.{Valid}
use Rattle.checks.specs.Numbers.{LentSamples, LentTable, StoredSamples, StoredCells, Good, PlaceNumber, PutNumber, OneLength}
use Rattle.sample.proofs.Decided.{sample_decided}
use Rattle.checks.proofs.Decided.{lent_table, stored_decided}
use Rattle.trace.specs.Calls.{sizes, Buffers, holding}
use Rattle.trace.specs.Upload.{stopped, zipped, Puts, UploadGives}
use Rattle.trace.specs.Upload.Puts.{all_taken, one_refused, one_taken}
use Rattle.checks.specs.Rows.{Passed, PassedTable}
use Rattle.checks.proofs.Passed.{table_past, put_passed}
use Rattle.checks.proofs.Exactly.{TraceRows, trace_rows, put_rows}
use Rattle.trace.proofs.Calls.{put_keeps}
use Rattle.trace.proofs.Formulas.{put_adds}
use Rattle.trace.proofs.Upload.{no_sample, zipped_length}

-- ---- upload
-- a sample at the end, once 1 to 5 have passed: 6 and 7 are left
next_number : (a : Trace) (xs : Samples) (t : List ℕ) (x : Sample) {k : ℕ} → Passed (sizes a) xs × PassedTable (sizes a) t → PutNumber (sizes a) xs t a.held x k
    → First 6 (Valid x → ⊥) (First 7 (a.held ≡ a.capacity) Good) k
next_number a xs t x p h =
    let f = (table_past (sizes a) xs t {rest = First 6 (Valid x → ⊥) (PlaceNumber (sizes a) a.held Good)} h).next p in
    ⊎_elim inl (λ s. inr (s.0, ⊎_elim (λ z. inl (z.0.1, z.1)) (λ z. inr (λ e. z.0 (refl, e), ⊎_elim (λ l. absurd (omega arith)) (λ l. l.1) z.1)) s.1)) f

-- the numbers that are left: all taken, 6 and 7
abbrev pub Left : ℕ → Type 0
Left k = (k ≡ 0) ⊎ (k ≡ 6) ⊎ (k ≡ 7)

left_later : {k : ℕ} → Left k → Later 5 k
left_later (inl e) = inl e
left_later (inr (inl e)) = inr (omega arith)
left_later (inr (inr e)) = inr (omega arith)

-- where an upload to a trace that 1 to 5 pass stops
pub record StopRows (a : Trace) (zs : List Sample) (r : Uploaded) : Type 0 where
  -- each sample before the stop is valid and found room
  pub taken : (q : ℕ) → q < r.added → Valid (get_or zs q no_sample) × (a.held + q < a.capacity)
  -- the next has a coordinate out of range, or a mark above 1
  pub row_6 : stopped r.stop ≡ 6 ↔ (r.added < length zs) × (Valid (get_or zs r.added no_sample) → ⊥)
  -- the next is valid, and the trace is full
  pub row_7 : stopped r.stop ≡ 7 ↔ (r.added < length zs) × Valid (get_or zs r.added no_sample) × (a.held + r.added ≡ a.capacity)
  -- there is no next
  pub row_0 : stopped r.stop ≡ 0 ↔ r.added ≡ length zs
  -- there is no other number
  pub only : Left (stopped r.stop)

pub stop_rows : {a : Trace} {b e : Buffers} {zs : List Sample} {r : Uploaded} → Passed (sizes a) b.samples × PassedTable (sizes a) b.table → Puts a b zs r e → StopRows a zs r
stop_rows p all_taken = record {
  taken = λ q l. absurd (omega arith);
  row_6 = (λ e. absurd (omega arith), λ s. absurd (omega (arith, s.0)));
  row_7 = (λ e. absurd (omega arith), λ s. absurd (omega (arith, s.0)));
  row_0 = (λ e. refl, λ e. refl);
  only = inl refl;
}
stop_rows {a} {b} p (one_refused {x = x} {why = why} G h) =
    let f = next_number a b.samples b.table x p (rw h at G.number) in
    let six = first_is (first_has (λ k. k ≡ 6 → ⊥) (λ e. omega arith) (λ z e. omega arith)) f in
    let seven = first_later _ (sample_decided x) (λ e. omega arith) (first_is (λ z e. omega arith)) f in
    record {
      taken = λ q l. absurd (omega arith);
      row_6 = (λ e. (omega arith, six.0 e), λ s. six.1 s.1);
      row_7 = (λ e. let s = seven.0 e in (omega arith, s.0, omega (arith, s.1)), λ s. seven.1 (s.1, omega (arith, s.2)));
      row_0 = (λ e. absurd (numbered why e), λ e. absurd (omega arith));
      only = first_has Left (inr (inl refl)) (first_has Left (inr (inr refl)) inl) f;
    }
stop_rows {a} {b} p (one_taken {x = x} {xs = xs} {r = r} {q = q} G h P) =
    let s = rw (put_adds a b a.held x r _ G h refl).trace at (stop_rows (put_keeps (rw h at G.number) (G.done h)) P) in
    record {
      taken = both s (put_passed (sizes a) b.samples b.table a.held x (rw h at G.number));
      row_6 = (λ e. let z = s.row_6.0 e in (omega (arith, z.0), z.1), λ z. s.row_6.1 (omega (arith, z.0), z.1));
      row_7 = (λ e. let z = s.row_7.0 e in (omega (arith, z.0), z.1, omega (arith, z.2)), λ z. s.row_7.1 (omega (arith, z.0), z.1, omega (arith, z.2)));
      row_0 = (λ e. ap suc (s.row_0.0 e), λ e. s.row_0.1 (omega arith));
      only = s.only;
    }
  where
    both : StopRows (holding a (a.held + 1)) xs q → Passed (sizes a) b.samples × PassedTable (sizes a) b.table × Valid x × (a.held ≤ a.held) × (a.held < a.capacity)
        → (p : ℕ) → p < suc q.added → Valid (get_or (x ∷ xs) p no_sample) × (a.held + p < a.capacity)
    both s d zero l = (d.2, omega (arith, d.4))
    both s d (suc p) l = let z = s.taken p (omega arith) in (z.0, omega (arith, z.1))

-- by the lists
no_samples : {a : Trace} {b e : Buffers} {zs : List Sample} {r : Uploaded} → Puts a b zs r e → length zs ≡ 0 → (stopped r.stop ≡ 0) × (r.added ≡ 0)
no_samples all_taken z = (refl, refl)
no_samples (one_refused H h) z = absurd (omega arith)
no_samples (one_taken H h P) z = absurd (omega arith)

first_sample : {a : Trace} {b e : Buffers} {zs : List Sample} {r : Uploaded} → Puts a b zs r e → 0 < length zs
    → TraceRows (sizes a) (LentSamples (sizes a) b.samples × LentTable (sizes a) b.table) (StoredSamples (sizes a) b.samples × StoredCells (sizes a) b.table) (stopped r.stop)
first_sample all_taken l = absurd (omega arith)
first_sample {a} {b} (one_refused {x = x} H h) l = (put_rows (sizes a) b.samples b.table a.held x (rw h at H.number)).trace
first_sample {a} {b} (one_taken {x = x} H h P) l =
    let p = put_passed (sizes a) b.samples b.table a.held x (rw h at H.number) in
    trace_rows (sizes a) (lent_table (sizes a) b.samples b.table) (stored_decided (sizes a) b.samples b.table) {rest = Later 5} (λ k s. s)
    (inr (λ n. n p.0.sized, inr (λ n. n p.0.tolerances, inr (λ n. n (p.0.lent, p.1.room), inr (λ n. omega arith, inr (λ n. n (p.0.stored, p.1.cells), left_later (stop_rows (put_keeps (rw h at H.number) (H.done h)) P).only))))))

pub record UploadRows (a : Trace) (b : Buffers) (us : Samples) (r : Uploaded) : Type 0 where
  -- lists of different length are refused with 3, before every other check
  pub unequal : (OneLength us → ⊥) → (stopped r.stop ≡ 3) × (r.added ≡ 0)
  -- of empty ones nothing is checked
  pub empty : OneLength us → length us.across ≡ 0 → (stopped r.stop ≡ 0) × (r.added ≡ 0)
  -- of others 1 to 5 as put's
  pub trace : OneLength us → 0 < length us.across → TraceRows (sizes a) (LentSamples (sizes a) b.samples × LentTable (sizes a) b.table) (StoredSamples (sizes a) b.samples × StoredCells (sizes a) b.table) (stopped r.stop)
  -- and then 6, 7 and 0
  pub samples : OneLength us → Passed (sizes a) b.samples × PassedTable (sizes a) b.table → StopRows a (zipped us.across us.up us.marks) r

pub upload_rows : (a : Trace) (b : Buffers) (us : Samples) (r : Uploaded) (e : Buffers) (us' : Samples) → UploadGives a b us r e us' → UploadRows a b us r
upload_rows a b us r e us' G = record {
  unequal = λ n. rw (G.unequal n).0 (refl, refl);
  empty = λ o z. no_samples (G.puts o) (zipped_length us.across us.up us.marks o ∙ z);
  trace = λ o l. first_sample (G.puts o) (omega (arith, zipped_length us.across us.up us.marks o));
  samples = λ o p. stop_rows p (G.puts o);
}
