-- What an upload leaves: the samples before its stop at the end of the trace, every other place as it was, and the cells of as many additions; and so do these samples alone. Assumes nothing.
use mathlib.Core.Path.{◌≡◌, refl, ap, ◌∙◌}
use mathlib.Core.Logic.{◌⊎◌, inl, inr, ⊎_elim}
use mathlib.Core.List.{List, [], ◌∷◌}
use Prim.Native.Nat.{ℕ, zero, suc, ◌+◌, ◌*◌, ◌≤◌, ◌<◌}
use native.Mathlib.Nat.{add-zero}
use native.Mathlib.Omega.{arith}
use lib.IntN.{ℤ, pos}
use lib.ListN.{length, length-take, get_or, take}
use lib.Seq.{get_or-set_same, get_or-set_other}
use Rattle.refusal.specs.declared.Refusal.TheVariants.{Buffer}
use Rattle.refusal.proofs.Plain.{decided}
use Rattle.sample.specs.declared.Sample.{Sample}
use Rattle.sample.specs.Samples.{Samples, sample, sample_at, store}
use Rattle.costs.specs.Costs.{sum}
use Rattle.costs.proofs.Tally.{sum_same}
use Rattle.trace.specs.declared.Trace.{Trace}
use Rattle.refusal.specs.Number.{Outcome}
use Rattle.std.specs.Prelude.{Ok, Err}
use Rattle.trace.specs.declared.Uploaded.{Uploaded}
use Rattle.trace.specs.Calls.{sizes, Buffers, Put, holding}
use Rattle.checks.specs.Numbers.{OneLength}
use Rattle.trace.specs.Upload.{uploaded, firsts, zipped, Puts, UploadGives}
use Rattle.trace.specs.Upload.Puts.{all_taken, one_refused, one_taken}
use Rattle.checks.proofs.Decided.{lists_decided}
use Rattle.checks.proofs.Passed.{put_passed}
use Rattle.trace.proofs.Formulas.{put_adds, added_cells}
use Rattle.trace.proofs.Upload.{no_sample}

-- ---- one sample stored
store_at : (xs : Samples) (v : ℕ) (x : Sample) → (v < length xs.across) × (v < length xs.up) × (v < length xs.marks) → sample_at (store xs v x) v ≡ x
store_at xs v x h = rw (get_or-set_same xs.across v x.across (pos 0) h.0, get_or-set_same xs.up v x.up (pos 0) h.1, get_or-set_same xs.marks v x.mark 0 h.2)

store_other : (xs : Samples) (v q : ℕ) (x : Sample) → (q ≡ v → ⊥) → sample_at (store xs v x) q ≡ sample_at xs q
store_other xs v q x n = rw (get_or-set_other xs.across v q x.across (pos 0) n, get_or-set_other xs.up v q x.up (pos 0) n, get_or-set_other xs.marks v q x.mark 0 n)

-- ---- a sum, from its first term
sum_first : (n : ℕ) (f : ℕ → ℕ) → sum (suc n) f ≡ f 0 + sum n (λ p. f (suc p))
unfolding sum
sum_first zero f = omega arith
sum_first (suc n) f = rw (sum_first n f) (omega arith)

-- ---- the samples of a list
-- of the list zs so many are added, at places n on
pub record Leaves (a : Trace) (b : Buffers) (zs : List Sample) (r : Uploaded) (e : Buffers) : Type 0 where
  pub few : r.added ≤ length zs
  pub trace : r.trace ≡ holding a (a.held + r.added)
  pub cells : r.cells ≡ sum r.added (λ p. a.levels * (a.held + p))
  pub added : (p : ℕ) → p < r.added → sample_at e.samples (a.held + p) ≡ get_or zs p no_sample
  pub kept : (q : ℕ) → (q < a.held) ⊎ (a.held + r.added ≤ q) → sample_at e.samples q ≡ sample_at b.samples q

leaves_none : (a : Trace) (b : Buffers) (zs : List Sample) (stop : Outcome) → Leaves a b zs (uploaded stop a 0 0) b
unfolding sum
leaves_none a b zs stop = record { few = omega arith; trace = rw (add-zero a.held) refl; cells = refl; added = λ p l. absurd (omega arith); kept = λ q h. refl }

pub puts_leave : {a : Trace} {b e : Buffers} {zs : List Sample} {r : Uploaded} → Puts a b zs r e → Leaves a b zs r e
puts_leave {a} {b} all_taken = leaves_none a b [] (Ok tt)
puts_leave {a} {b} {zs = zs} (one_refused {why = why} G h) = let N = G.refused why h in rw (N.trace, N.lent) (leaves_none a b zs (Err why))
puts_leave {a} {b} {e} (one_taken {c = c} {x = x} {xs = xs} {r = r} {q = q} G h P) =
    let n = a.held in
    let A = put_adds a b n x r c G h refl in
    let L = rw A.trace at (puts_leave P) in
    record {
      few = omega (arith, L.few);
      trace = L.trace ∙ ap (holding a) (let s : n + 1 + q.added ≡ n + suc q.added = omega arith in s);
      cells = rw (added_cells a b n x r c G h refl, L.cells, sum_first q.added (λ p. a.levels * (n + p)), add-zero n)
          (ap (λ s. a.levels * n + s) (sum_same q.added _ _ (λ p. ap (λ s. a.levels * s) (omega arith))));
      added = added L A;
      kept = λ p o. L.kept p (⊎_elim (λ l. inl (omega arith)) (λ l. inr (omega arith)) o) ∙ rw A.samples (store_other b.samples n p x (⊎_elim (λ l e. omega arith) (λ l e. omega arith) o));
    }
  where
    added : Leaves (holding a (a.held + 1)) c xs q e → Put a b a.held (a.held + 1) x r c → (p : ℕ) → p < suc q.added → sample_at e.samples (a.held + p) ≡ get_or (x ∷ xs) p no_sample
    added L A zero l =
        let s = put_passed (sizes a) b.samples b.table a.held x (rw h at G.number) in
        let k = s.0.lent in
        rw (add-zero a.held) (L.kept a.held (inl (omega arith)) ∙ rw A.samples (store_at b.samples a.held x (omega (arith, k.0, s.4), omega (arith, k.1, s.4), omega (arith, k.2, s.4))))
    added L A (suc p) l = rw (let s : a.held + suc p ≡ a.held + 1 + p = omega arith in s) (L.added p (omega arith))

-- ---- and of the lists
pub upload_leaves : (a : Trace) (b : Buffers) (us : Samples) (r : Uploaded) (e : Buffers) (us' : Samples) → UploadGives a b us r e us' → Leaves a b (zipped us.across us.up us.marks) r e
upload_leaves a b us r e us' G = elim (decided _ (lists_decided us)) [
  | yes o ↦ puts_leave (G.puts o)
  | no n ↦ let P = G.unequal n in rw (P.0, P.1) (leaves_none a b _ (Err Buffer))
]

-- ---- samples before the stop: alone they are all taken, and lead to the same
firsts_zipped : (q : ℕ) (xs ys : List ℤ) (ms : List ℕ) → zipped (take q xs) (take q ys) (take q ms) ≡ take q (zipped xs ys ms)
firsts_zipped zero xs ys ms = refl
firsts_zipped (suc q) [] ys ms = refl
firsts_zipped (suc q) (x ∷ xs) [] ms = refl
firsts_zipped (suc q) (x ∷ xs) (y ∷ ys) [] = refl
firsts_zipped (suc q) (x ∷ xs) (y ∷ ys) (m ∷ ms) = ap (λ zs. sample x y m ∷ zs) (firsts_zipped q xs ys ms)

firsts_length : (q : ℕ) (us : Samples) → OneLength us → OneLength (firsts q us)
firsts_length q us o = (
  rw (length-take q us.across, length-take q us.up, o.0) refl,
  rw (length-take q us.across, length-take q us.marks, o.1) refl,
)

puts_firsts : {a : Trace} {b e : Buffers} {zs : List Sample} {r : Uploaded} → Puts a b zs r e → Puts a b (take r.added zs) (uploaded (Ok tt) r.trace r.added r.cells) e
puts_firsts all_taken = all_taken
puts_firsts (one_refused {why = why} G h) = let N = G.refused why h in rw (N.trace, N.lent) all_taken
puts_firsts (one_taken G h P) = one_taken G h (puts_firsts P)

pub upload_firsts : (a : Trace) (b : Buffers) (us : Samples) (r : Uploaded) (e : Buffers) (us' : Samples) → UploadGives a b us r e us'
    → UploadGives a b (firsts r.added us) (uploaded (Ok tt) r.trace r.added r.cells) e (firsts r.added us)
upload_firsts a b us r e us' G = elim (decided _ (lists_decided us)) [
  | yes o ↦
      record {
        unequal = λ n. absurd (n (firsts_length r.added us o));
        puts = λ p. rw (firsts_zipped r.added us.across us.up us.marks) (puts_firsts (G.puts o));
        lists = refl;
      }
  | no n ↦ let P = G.unequal n in rw (P.0, P.1) (record { unequal = λ m. absurd (m (refl, refl)); puts = λ p. all_taken; lists = refl })
]
