-- One theorem for each call: any two results that its promise allows for one entry, answers and buffers after the call, are equal. Assumes nothing.
use mathlib.Core.Path.{◌≡◌, refl, sym, ap, subst, ◌∙◌}
use mathlib.Core.Logic.{◌↔◌}
use mathlib.Core.List.{List}
use Prim.Native.Nat.{ℕ, ◌-◌}
use native.Mathlib.Omega.{arith}
use lib.ListN.{get_or}
use Rattle.refusal.specs.declared.Refusal.{Refusal}
use Rattle.refusal.specs.Number.{Outcome, code}
use Rattle.std.specs.Prelude.{Ok, Err}
use Rattle.refusal.proofs.Plain.{decided}
use Rattle.refusal.proofs.Rows.{numbered, number_one, code_one, by_outcome}
use Rattle.geometry.specs.Near.{Passable}
use Rattle.sample.specs.declared.Sample.{Sample}
use Rattle.sample.specs.Samples.{Samples}
use Rattle.geometry.specs.Spoiler.{Spoiler}
use Rattle.geometry.specs.declared.Verdict.TheVariants.{Yes, No}
use Rattle.geometry.proofs.Spoiler.{says_one as verdict_one}
use Rattle.costs.specs.Costs.{Permit}
use Rattle.trace.specs.declared.Trace.{Trace}
use Rattle.trace.specs.declared.Started.{Started}
use Rattle.trace.specs.declared.Changed.{Changed}
use Rattle.trace.specs.declared.Uploaded.{Uploaded}
use Rattle.trace.specs.declared.Levels.{Levels}
use Rattle.checks.specs.Numbers.{StartNumber, PutNumber, ReadNumber}
use Rattle.trace.specs.Calls.{sizes, StartGives, Buffers, Put, PutGives, Asked, asked, Says, AskGives, ReadGives}
use Rattle.trace.specs.Upload.{Puts, UploadGives}
use Rattle.trace.specs.Upload.Puts.{all_taken, one_refused, one_taken}
use Rattle.checks.proofs.Decided.{lists_decided}
use Rattle.checks.proofs.Numbers.{start_number_one, put_number_one, ask_number_one, read_number_one}
use Rattle.checks.proofs.Passed.{read_passed}
use Rattle.costs.proofs.Exit.{rewritten_unique}
use Rattle.readout.proofs.Meaning.{ranks_one}
use Rattle.trace.proofs.Calls.{done_refused, refused_one, Able, put_able, put_rewritten, buffers_is}

-- two outcomes with a number that one row leaves no choice of are equal: both Ok, or both one refusal
pub by_number : {A : Type 0} (Number : ℕ → Type 0) → ((j k : ℕ) → Number j → Number k → j ≡ k) → (o p : Outcome) → Number (code o) → Number (code p)
    → (o ≡ p → o ≡ Ok tt → p ≡ Ok tt → A) → (o ≡ p → (why : Refusal) → o ≡ Err why → p ≡ Err why → A) → A
by_number Number one o p h g done refused =
    let e = code_one o p (one (code o) (code p) h g) in
    by_outcome o (λ d. done e d (sym e ∙ d)) (λ w d. refused e w d (sym e ∙ d))

-- ---- start
pub start_one : (m N : ℕ) (tols : List ℕ) (r q : Started) → StartGives m N tols r → StartGives m N tols q → r ≡ q
start_one m N tols r q A B =
    by_number (StartNumber m N tols) (start_number_one m N tols) r.outcome q.outcome A.number B.number
    (λ o h g. same o (A.done h ∙ sym (B.done g)))
    (λ o w h g. same o (A.refused w h ∙ sym (B.refused w g)))
  where
    same : r.outcome ≡ q.outcome → r.trace ≡ q.trace → r ≡ q
    same e f = let h : ◌≡◌ {A = Started} (record { outcome = r.outcome; trace = r.trace }) (record { outcome = q.outcome; trace = q.trace }) = cc in h

-- ---- put
-- answers are equal where their parts are
changed_same : {r q : Changed} → r.outcome ≡ q.outcome → r.trace ≡ q.trace → r.cells ≡ q.cells → r ≡ q
changed_same {r} {q} e f g =
    let h : ◌≡◌ {A = Changed} (record { outcome = r.outcome; trace = r.trace; cells = r.cells }) (record { outcome = q.outcome; trace = q.trace; cells = q.cells }) = cc in
    h

-- the tables that one change of a sample may leave
table_one : (a : Trace) (b : Buffers) (v n : ℕ) (x : Sample) {r q : Changed} {e f : Buffers} → Able a b v n x → Put a b v n x r e → Put a b v n x q f → e.table ≡ f.table
table_one a b v n x A P Q = let z = A.ready.sizes in rewritten_unique a.capacity _ a.levels v n z.3 z.4 b.table _ _ (put_rewritten A P) (put_rewritten A Q)

pub put_one : (a : Trace) (b : Buffers) (v : ℕ) (x : Sample) (r q : Changed) (e f : Buffers) → PutGives a b v x r e → PutGives a b v x q f → (r ≡ q) × (e ≡ f)
put_one a b v x r q e f A B =
    by_number (PutNumber (sizes a) b.samples b.table v x) (put_number_one (sizes a) b.samples b.table v x) r.outcome q.outcome A.number B.number done refused
  where
    done : r.outcome ≡ q.outcome → r.outcome ≡ Ok tt → q.outcome ≡ Ok tt → (r ≡ q) × (e ≡ f)
    done o h g =
        let P = A.done h in
        let Q = B.done g in (
          changed_same o (P.trace ∙ sym Q.trace) (P.count ∙ sym Q.count),
          buffers_is (P.samples ∙ sym Q.samples) (table_one a b v _ x (put_able a b v x (rw h at A.number)) P Q),
        )

    refused : r.outcome ≡ q.outcome → (why : Refusal) → r.outcome ≡ Err why → q.outcome ≡ Err why → (r ≡ q) × (e ≡ f)
    refused o w h g =
        let P = A.refused w h in
        let Q = B.refused w g in
        (changed_same o (P.trace ∙ sym Q.trace) (P.count ∙ sym Q.count), P.lent ∙ sym Q.lent)

-- ---- upload
pub puts_one : {a : Trace} {b : Buffers} {zs : List Sample} {r q : Uploaded} {e f : Buffers} → Puts a b zs r e → Puts a b zs q f → (r ≡ q) × (e ≡ f)
puts_one all_taken all_taken = (refl, refl)
puts_one (one_refused {a = a} {b = b} {e = e} {x = x} {r = r} G h) (one_refused {e = f} {r = q} H g) =
    let o = put_one a b a.held x r q e f G H in
    (rw (refused_one (ap (λ (r : Changed). r.outcome) o.0) h g, o.0), o.1)
puts_one (one_refused {a = a} {b = b} {e = e} {x = x} {r = r} G h) (one_taken {c = f} {r = q} H g Q) =
    done_refused g (ap (λ (r : Changed). r.outcome) (sym (put_one a b a.held x r q e f G H).0) ∙ h)
puts_one (one_taken {a = a} {b = b} {c = e} {x = x} {r = r} G h P) (one_refused {e = f} {r = q} H g) =
    done_refused h (ap (λ (r : Changed). r.outcome) (put_one a b a.held x r q e f G H).0 ∙ g)
puts_one (one_taken {a = a} {b = b} {c = c} {x = x} {xs = xs} {r = r} G h P) (one_taken {c = d} {e = f} {r = q} {q = t} H g Q) =
    let o = put_one a b a.held x r q c d G H in
    let z = puts_one P (subst (λ (u : Changed). Puts u.trace c xs t f) (sym o.0) (subst (λ (u : Buffers). Puts q.trace u xs t f) (sym o.1) Q)) in
    (rw (o.0, z.0), z.1)

pub upload_one : (a : Trace) (b : Buffers) (us : Samples) (r q : Uploaded) (e f : Buffers) (u w : Samples) → UploadGives a b us r e u → UploadGives a b us q f w → (r ≡ q) × (e ≡ f) × (u ≡ w)
upload_one a b us r q e f u w A B = elim (decided _ (lists_decided us)) [
  | yes o ↦ let z = puts_one (A.puts o) (B.puts o) in (z.0, z.1, A.lists ∙ sym B.lists)
  | no n ↦ let P = A.unequal n in let Q = B.unequal n in (P.0 ∙ sym Q.0, P.1 ∙ sym Q.1, A.lists ∙ sym B.lists)
]

-- ---- ask
-- two answers about one stretch, with one number
pub says_one : (xs : Samples) (i j e : ℕ) (r q : Asked) → asked r ≡ asked q → Says xs i j e r → Says xs i j e q → r ≡ q
says_one xs i j e (Ok v) (Ok w) n A B = ap Ok (verdict_one xs i j e v w A B)
says_one xs i j e (Ok v) (Err w) n A B = absurd (numbered w (sym n))
says_one xs i j e (Err w) (Ok v) n A B = absurd (numbered w n)
says_one xs i j e (Err w) (Err x) n A B = ap Err (number_one w x n)

pub ask_one : (a : Trace) (xs : Samples) (k i j : ℕ) (r q : Asked) (u w : Samples) → AskGives a xs k i j r u → AskGives a xs k i j q w → (r ≡ q) × (u ≡ w)
ask_one a xs k i j r q u w A B = (
  says_one xs i j (get_or a.tolerances (k - 1) 0) r q (ask_number_one (sizes a) xs k i j (asked r) (asked q) A.number B.number) A.says B.says,
  A.lent ∙ sym B.lent,
)

-- where the call is not refused: yes exactly when the stretch is permitted, and no with l exactly when l is the lowest sample that is marked or lies too far away
module _ (a : Trace) (xs : Samples) (k i j : ℕ) (r : Asked) (u : Samples) (G : AskGives a xs k i j r u) (n : asked r ≡ 0) where
  pub ask_yes : (r ≡ Ok Yes) ↔ Permit xs a.tolerances k i j
  ask_yes = (λ h. rw h at G.says, λ p. says_one xs i j (get_or a.tolerances (k - 1) 0) r (Ok Yes) n G.says p)

  pub ask_no : (l : ℕ) → (r ≡ Ok (No l)) ↔ Spoiler (Passable xs i j (get_or a.tolerances (k - 1) 0)) i j l
  ask_no l = (λ h. rw h at G.says, λ s. says_one xs i j (get_or a.tolerances (k - 1) 0) r (Ok (No l)) n G.says s)

-- ---- read
pub levels_same : {r q : Levels} → r.outcome ≡ q.outcome → r.segments ≡ q.segments → r.total ≡ q.total → r ≡ q
levels_same {r} {q} e f g =
    let h : ◌≡◌ {A = Levels} (record { outcome = r.outcome; segments = r.segments; total = r.total }) (record { outcome = q.outcome; segments = q.segments; total = q.total }) = cc in
    h

pub read_one : (a : Trace) (b : Buffers) (ranks : List ℕ) (r q : Levels) (e f : Buffers) (u w : List ℕ) → ReadGives a b ranks r e u → ReadGives a b ranks q f w → (r ≡ q) × (e ≡ f) × (u ≡ w)
read_one a b ranks r q e f u w A B =
    by_number (ReadNumber (sizes a) b.samples b.table ranks) (read_number_one (sizes a) b.samples b.table ranks) r.outcome q.outcome A.number B.number done refused
  where
    done : r.outcome ≡ q.outcome → r.outcome ≡ Ok tt → q.outcome ≡ Ok tt → (r ≡ q) × (e ≡ f) × (u ≡ w)
    done o h g =
        let p = read_passed (sizes a) b.samples b.table ranks (rw h at A.number) in
        let z = p.0.sized in
        let n = p.0.held in
        let s = ranks_one b.table a.capacity a.levels a.held z.0 z.1 (omega arith) (omega arith) p.1.cells ranks u w r.segments q.segments r.total q.total
        (A.done h) (B.done g) in
        (levels_same o s.1 s.2, A.lent ∙ sym B.lent, s.0)

    refused : r.outcome ≡ q.outcome → (why : Refusal) → r.outcome ≡ Err why → q.outcome ≡ Err why → (r ≡ q) × (e ≡ f) × (u ≡ w)
    refused o v h g =
        let P = A.refused v h in
        let Q = B.refused v g in
        (levels_same o (P.segments ∙ sym Q.segments) (P.total ∙ sym Q.total), A.lent ∙ sym B.lent, P.kept ∙ sym Q.kept)
