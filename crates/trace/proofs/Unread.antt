-- Nothing else is read: entries that are alike give answers that are alike. Assumes nothing.
use mathlib.Core.Path.{◌≡◌, refl, sym, ap, subst, ◌∙◌}
use mathlib.Core.Logic.{◌↔◌}
use mathlib.Core.Bool.{Bool}
use mathlib.Core.List.{List}
use Prim.Native.Nat.{ℕ, suc, ◌+◌, ◌-◌, ◌≤◌, ◌<◌}
use native.Mathlib.Decide.{ℕ_discrete}
use native.Mathlib.Omega.{arith}
use lib.ListN.{length, length-set, get_or, set}
use lib.Seq.{get_or-set_same, get_or-set_other}
use Rattle.refusal.specs.declared.Refusal.{Refusal}
use Rattle.std.specs.Prelude.{Ok, Err}
use Rattle.refusal.proofs.Plain.{decided}
use Rattle.refusal.proofs.Rows.{first_same, first_unless}
use Rattle.sample.specs.declared.Sample.{Sample}
use Rattle.sample.specs.Samples.{Samples, sample_at, store}
use Rattle.geometry.specs.declared.Verdict.TheVariants.{Yes, No}
use Rattle.geometry.proofs.Spoiler.{spoiler_carried}
use Rattle.geometry.proofs.Permits.{Same, same_back, passable_same, permitted_same, permits_same}
use Rattle.family.specs.Fine.{Checked}
use Rattle.family.proofs.Local.{Without, value_same, put_unique}
use Rattle.table.specs.Table.{cell}
use Rattle.costs.specs.Costs.{Named}
use Rattle.permission.specs.Finest.{perm}
use Rattle.costs.specs.Walk.{Rewritten}
use Rattle.costs.proofs.Exit.{Others, held_end, rewritten_kept}
use Rattle.readout.proofs.Unique.{read_alike}
use Rattle.readout.proofs.Meaning.{ranks_read}
use Rattle.trace.specs.declared.Trace.{Trace}
use Rattle.trace.specs.declared.Changed.{Changed}
use Rattle.trace.specs.declared.Uploaded.{Uploaded}
use Rattle.trace.specs.declared.Levels.{Levels}
use Rattle.sample.specs.Valid.{Valid}
use Rattle.sizes.specs.Setup.{Tolerances, held_with}
use Rattle.checks.specs.Numbers.{LentSamples, LentTable, StoredSamples, StoredCells, TraceNumber, PutNumber, ReadNumber}
use Rattle.trace.specs.Calls.{sizes, Buffers, Put, PutGives, Asked, asked, Says, AskGives, ReadGives}
use Rattle.trace.specs.Upload.{Puts, UploadGives}
use Rattle.trace.specs.Upload.Puts.{all_taken, one_refused, one_taken}
use Rattle.trace.specs.Alike.{AlikeTraces, AlikePlaces, AlikeSamples, AlikeCells, AlikeBuffers, AlikeChanges, AlikeUploads}
use Rattle.checks.proofs.Decided.{lists_decided}
use Rattle.checks.proofs.Numbers.{put_number_one, ask_number_one, read_number_one}
use Rattle.sizes.proofs.Held.{held_others}
use Rattle.checks.proofs.Passed.{put_passed, ask_passed, read_passed}
use Rattle.trace.proofs.Calls.{done_refused, refused_one, Able, put_able, put_rewritten}
use Rattle.trace.proofs.Unique.{by_number, says_one, levels_same}

-- ---- a setup that is alike is the same but for its tolerances
abbrev tuned : Trace → List ℕ → Trace
tuned a tols = record { levels = a.levels; capacity = a.capacity; held = a.held; tolerances = tols }

tuned_same : {a c : Trace} → AlikeTraces a c → c ≡ tuned a c.tolerances
tuned_same {a} {c} A =
    let l = A.levels in
    let n = A.capacity in
    let h = A.held in
    let e : ◌≡◌ {A = Trace} (record { levels = c.levels; capacity = c.capacity; held = c.held; tolerances = c.tolerances }) (tuned a c.tolerances) = cc in
    e

-- the tolerances of levels 1 to m agree
abbrev Agree : ℕ → List ℕ → List ℕ → Type 0
Agree m tols tols' = (l : ℕ) → l < m → get_or tols l 0 ≡ get_or tols' l 0

-- ---- the numbers
-- what is said of each sample held is said alike, and so is what is said of each cell
stored_samples : {n : ℕ} {xs us : Samples} → AlikeSamples n xs us → ((q : ℕ) → q < n → Valid (sample_at xs q)) ↔ ((q : ℕ) → q < n → Valid (sample_at us q))
stored_samples X = (
  λ p q l. rw (X.across.each q l, X.up.each q l, X.marks.each q l) at (p q l),
  λ p q l. rw (X.across.each q l, X.up.each q l, X.marks.each q l) (p q l),
)

stored_cells : {N m n : ℕ} {t u : List ℕ} → AlikeCells N m n t u → Checked (cell t N) m n ↔ Checked (cell u N) m n
stored_cells T = (λ C k i j a b o h. rw (T.each k i j a b o h) at (C k i j a b o h), λ C k i j a b o h. rw (T.each k i j a b o h) (C k i j a b o h))

tolerances_carried : {m : ℕ} {tols tols' : List ℕ} → Agree m tols tols' → Tolerances m tols → Tolerances m tols'
tolerances_carried A T = record {
  low = λ l h. omega (arith, A l h, T.low l h);
  high = λ l h. omega (arith, A l h, T.high l h);
  rise = λ l h. omega (arith, A l (omega arith), A (l + 1) h, T.rise l h);
}

module _ (a : Trace) (tols : List ℕ) (agree : Agree a.levels a.tolerances tols) where
  trace_carried : {Lent Lent' Stored Stored' R : Type 0} {k : ℕ} → Lent ↔ Lent' → Stored ↔ Stored' → TraceNumber (sizes a) Lent Stored (λ j. R) k → TraceNumber (sizes (tuned a tols)) Lent' Stored' (λ j. R) k
  trace_carried L S h =
      first_same (λ p. p, λ p. p)
      (first_unless (tolerances_carried agree, tolerances_carried (λ l o. sym (agree l o)))
      (first_unless L (first_same (λ p. p, λ p. p) (first_unless S (λ r. r)))))
      h

  -- the buffers are as long
  lent_carried : {xs us : Samples} → AlikeSamples a.held xs us → LentSamples (sizes a) xs ↔ LentSamples (sizes a) us
  lent_carried X = (λ p. rw (X.across.length, X.up.length, X.marks.length) at p, λ p. rw (X.across.length, X.up.length, X.marks.length) p)

  -- without a table
  samples_carried : {xs us : Samples} {R : Type 0} {k : ℕ} → AlikeSamples a.held xs us
      → TraceNumber (sizes a) (LentSamples (sizes a) xs) (StoredSamples (sizes a) xs) (λ j. R) k → TraceNumber (sizes (tuned a tols)) (LentSamples (sizes a) us) (StoredSamples (sizes a) us) (λ j. R) k
  samples_carried X h = trace_carried (lent_carried X) (stored_samples X) h

  -- with a table, whatever else is lent
  table_carried : {b d : Buffers} {Lent Lent' R : Type 0} {k : ℕ} → AlikeBuffers a b d → Lent ↔ Lent'
      → TraceNumber (sizes a) Lent (StoredSamples (sizes a) b.samples × StoredCells (sizes a) b.table) (λ j. R) k
      → TraceNumber (sizes (tuned a tols)) Lent' (StoredSamples (sizes a) d.samples × StoredCells (sizes a) d.table) (λ j. R) k
  table_carried B L h =
      let s = stored_samples B.samples in
      let t = stored_cells B.table in
      trace_carried L (λ p. (s.0 p.0, t.0 p.1), λ p. (s.1 p.0, t.1 p.1)) h

  change_carried : {b d : Buffers} {R : Type 0} {k : ℕ} → AlikeBuffers a b d
      → TraceNumber (sizes a) (LentSamples (sizes a) b.samples × LentTable (sizes a) b.table) (StoredSamples (sizes a) b.samples × StoredCells (sizes a) b.table) (λ j. R) k
      → TraceNumber (sizes (tuned a tols)) (LentSamples (sizes a) d.samples × LentTable (sizes a) d.table) (StoredSamples (sizes a) d.samples × StoredCells (sizes a) d.table) (λ j. R) k
  change_carried B h =
      let l = lent_carried B.samples in
      table_carried B (λ p. (l.0 p.0, rw B.table.length at p.1), λ p. (l.1 p.0, rw B.table.length p.1)) h

-- ---- the permissions
samples_same : {n : ℕ} {xs us : Samples} (i j : ℕ) → j < n → AlikeSamples n xs us → Same xs us i j
samples_same i j h X = record {
  across = λ q a b. X.across.each q (omega arith);
  up = λ q a b. X.up.each q (omega arith);
  marks = λ q a b. let e = X.marks.each q (omega arith) in (λ m. sym e ∙ m, λ m. e ∙ m);
}

module _ {m n : ℕ} {xs us : Samples} (tols tols' : List ℕ) (agree : Agree m tols tols') (X : AlikeSamples n xs us) (k i j : ℕ) (a : 1 ≤ k) (b : k ≤ m) (h : j < n) where
  perm_alike : perm xs tols k i j ≡ perm us tols' k i j
  unfolding perm
  perm_alike = rw (agree (k - 1) (omega arith)) (permits_same xs us i j (get_or tols' (k - 1) 0) (samples_same i j h X))

-- ---- put
-- a place set anew, where all others were among the n held
set_alike : {A : Type 0} {z : A} {n o v : ℕ} {s u : List A} (x : A) → AlikePlaces z n s u → v < length s → Others v n o → AlikePlaces z o (set s v x) (set u v x)
set_alike {z = z} {v = v} {s = s} {u = u} x X h held = record {
  length = length-set s v x ∙ X.length ∙ sym (length-set u v x);
  each = λ q l. elim (ℕ_discrete q v) [
    | yes e ↦ rw (e, get_or-set_same s v x z h, get_or-set_same u v x z (omega (arith, X.length)))
    | no e ↦ get_or-set_other s v q x z e ∙ X.each q (held q l e) ∙ sym (get_or-set_other u v q x z e)
  ];
}

-- what is written is alike where the permissions are, and the cells of stretches without v
rewritten_alike : (N : ℕ) (perm perm' : ℕ → ℕ → ℕ → Bool) (m v n : ℕ) → n ≤ N → (t u e f : List ℕ)
    → ((k i j : ℕ) → 1 ≤ k → k ≤ m → i < j → j < n → perm k i j ≡ perm' k i j)
    → ((k i j : ℕ) → 1 ≤ k → k ≤ m → i < j → j < n → Without v i j → cell t N k i j ≡ cell u N k i j)
    → Rewritten N perm (Named m v n) t e → Rewritten N perm' (Named m v n) u f
    → (k i j : ℕ) → 1 ≤ k → k ≤ m → i < j → j < n → cell e N k i j ≡ cell f N k i j
rewritten_alike N perm perm' m v n room t u e f perms found W X =
    put_unique perm (cell e N) (cell f N) m n v
    (λ k i j a b o h y. rewritten_kept N perm m v n room t e W k i j a b o h y ∙ found k i j a b o h y ∙ sym (rewritten_kept N perm' m v n room u f X k i j a b o h y))
    (λ k i j a b o h x y. W.named k i j (a, b, x, y, o, h))
    (λ k i j a b o h x y. X.named k i j (a, b, x, y, o, h) ∙ value_same perm' perm (cell f N) (cell f N) k i j o (sym (perms k i j a b o h)) (λ l p q z s c d g. refl))

-- of n samples after the call, all but v were held before
module _ (a : Trace) (tols : List ℕ) (agree : Agree a.levels a.tolerances tols) (b d : Buffers) (B : AlikeBuffers a b d) (v : ℕ) (x : Sample) where
  changed_alike : (n : ℕ) → Others v a.held n → (r q : Changed) (e f : Buffers) → Able a b v n x → Able (tuned a tols) d v n x → Put a b v n x r e → Put (tuned a tols) d v n x q f
      → r.outcome ≡ q.outcome → AlikeChanges r q e f
  changed_alike n others r q e f A C P Q o =
      let R = A.ready in
      let z = R.sizes in
      let s = b.samples in
      let X : AlikeSamples n (store s v x) (store d.samples v x) = record {
        across = set_alike x.across B.samples.across (omega (arith, R.ranged.across.held, length-set s.across v x.across)) others;
        up = set_alike x.up B.samples.up (omega (arith, R.ranged.up.held, length-set s.up v x.up)) others;
        marks = set_alike x.mark B.samples.marks (omega (arith, R.marks)) others;
      } in
      record {
        outcome = o;
        cells = P.count ∙ sym Q.count;
        trace = rw (P.trace, Q.trace) (record { levels = refl; capacity = refl; held = refl; tolerances = agree });
        lent = rw P.trace (record {
          samples = rw (P.samples, Q.samples) X;
          table = record {
            length = P.cells.same ∙ B.table.length ∙ sym Q.cells.same;
            each = rewritten_alike a.capacity _ _ a.levels v n z.4 b.table d.table e.table f.table
                (λ k i j l m s t. perm_alike a.tolerances tols agree X k i j l m t)
                (λ k i j l m s t w. B.table.each k i j l m s (held_end others i j s t w))
                (put_rewritten A P) (put_rewritten C Q);
          };
        });
      }

  put_tuned : (r q : Changed) (e f : Buffers) → PutGives a b v x r e → PutGives (tuned a tols) d v x q f → AlikeChanges r q e f
  put_tuned r q e f G H =
      by_number (PutNumber (sizes (tuned a tols)) d.samples d.table v x) (put_number_one (sizes (tuned a tols)) d.samples d.table v x) r.outcome q.outcome
      (change_carried a tols agree B G.number) H.number done refused
    where
      done : r.outcome ≡ q.outcome → r.outcome ≡ Ok tt → q.outcome ≡ Ok tt → AlikeChanges r q e f
      done o h g =
          let p = put_passed (sizes a) b.samples b.table v x (rw h at G.number) in
          changed_alike (held_with a.held v) (held_others a.held v p.3) r q e f
          (put_able a b v x (rw h at G.number)) (put_able (tuned a tols) d v x (rw g at H.number)) (G.done h) (H.done g) o

      refused : r.outcome ≡ q.outcome → (why : Refusal) → r.outcome ≡ Err why → q.outcome ≡ Err why → AlikeChanges r q e f
      refused o w h g =
          let P = G.refused w h in
          let Q = H.refused w g in
          record {
            outcome = o;
            cells = P.count ∙ sym Q.count;
            trace = rw (P.trace, Q.trace) (record { levels = refl; capacity = refl; held = refl; tolerances = agree });
            lent = rw (P.trace, P.lent, Q.lent) B;
          }

pub put_unread : (a c : Trace) (b d : Buffers) (v : ℕ) (x : Sample) (r q : Changed) (e f : Buffers) → AlikeTraces a c → AlikeBuffers a b d
    → PutGives a b v x r e → PutGives c d v x q f → AlikeChanges r q e f
put_unread a c b d v x r q e f A B G H =
    put_tuned a c.tolerances A.tolerances b d B v x r q e f G (subst (λ z. PutGives z d v x q f) (tuned_same A) H)

-- ---- upload
-- the next sample of each
next_unread : {a c : Trace} {b d : Buffers} {x : Sample} {r q : Changed} {e f : Buffers} → AlikeTraces a c → AlikeBuffers a b d
    → PutGives a b a.held x r e → PutGives c d c.held x q f → AlikeChanges r q e f
next_unread {a} {c} {b} {d} {x} {r} {q} {e} {f} A B G H = put_unread a c b d a.held x r q e f A B G (subst (λ v. PutGives c d v x q f) (sym A.held) H)

pub puts_unread : {a c : Trace} {b d : Buffers} {zs : List Sample} {r q : Uploaded} {e f : Buffers} → AlikeTraces a c → AlikeBuffers a b d → Puts a b zs r e → Puts c d zs q f → AlikeUploads r q e f
puts_unread A B all_taken all_taken = record { stop = refl; added = refl; cells = refl; trace = A; lent = B }
puts_unread A B (one_refused G h) (one_refused H g) =
    let o = next_unread A B G H in
    record { stop = ap Err (refused_one o.outcome h g); added = refl; cells = refl; trace = o.trace; lent = o.lent }
puts_unread A B (one_refused G h) (one_taken H g Q) = done_refused g (sym (next_unread A B G H).outcome ∙ h)
puts_unread A B (one_taken G h P) (one_refused H g) = done_refused h ((next_unread A B G H).outcome ∙ g)
puts_unread A B (one_taken G h P) (one_taken H g Q) =
    let o = next_unread A B G H in
    let z = puts_unread o.trace o.lent P Q in
    record { stop = z.stop; added = ap suc z.added; cells = rw (o.cells, z.cells); trace = z.trace; lent = z.lent }

-- of the lists all is read, unless they differ in length
pub upload_unread : (a c : Trace) (b d : Buffers) (us : Samples) (r q : Uploaded) (e f : Buffers) (u w : Samples) → AlikeTraces a c → AlikeBuffers a b d
    → UploadGives a b us r e u → UploadGives c d us q f w → AlikeUploads r q e f
upload_unread a c b d us r q e f u w A B G H = elim (decided _ (lists_decided us)) [
  | yes o ↦ puts_unread A B (G.puts o) (H.puts o)
  | no n ↦
      let P = G.unequal n in
      let Q = H.unequal n in
      rw (P.0, P.1, Q.0, Q.1) (record { stop = refl; added = refl; cells = refl; trace = A; lent = B })
]

-- ---- ask
-- an answer about a stretch says the same where tolerance and samples are the same unless the call is refused
says_carried : (xs us : Samples) (i j e f : ℕ) (r : Asked) → (asked r ≡ 0 → (e ≡ f) × Same xs us i j) → Says xs i j e r → Says us i j f r
says_carried xs us i j e f (Ok Yes) same s = let g = same refl in permitted_same xs us i j g.1 (rw g.0 at s)
says_carried xs us i j e f (Ok (No q)) same s =
    let g = same refl in
    spoiler_carried (λ l a b. (passable_same xs us i j g.1 l a b, passable_same us xs i j (same_back g.1) l a b)) (rw g.0 at s)
says_carried xs us i j e f (Err w) same s = tt

pub ask_unread : (a c : Trace) (xs us : Samples) (k i j : ℕ) (r q : Asked) (xs' us' : Samples) → AlikeTraces a c → AlikeSamples a.held xs us
    → AskGives a xs k i j r xs' → AskGives c us k i j q us' → r ≡ q
ask_unread a c xs us k i j r q xs' us' A X G H =
    let s = c.tolerances in
    let H' = subst (λ z. AskGives z us k i j q us') (tuned_same A) H in
    says_one us i j (get_or s (k - 1) 0) r q
    (ask_number_one (sizes (tuned a s)) us k i j (asked r) (asked q) (samples_carried a s A.tolerances X G.number) H'.number)
    (says_carried xs us i j (get_or a.tolerances (k - 1) 0) (get_or s (k - 1) 0) r same G.says) H'.says
  where
    same : asked r ≡ 0 → (get_or a.tolerances (k - 1) 0 ≡ get_or c.tolerances (k - 1) 0) × Same xs us i j
    same e = let p = ask_passed (sizes a) xs k i j (rw e at G.number) in (A.tolerances (k - 1) (omega arith), samples_same i j p.2 X)

-- ---- read
module _ (a : Trace) (tols : List ℕ) (agree : Agree a.levels a.tolerances tols) (b d : Buffers) (B : AlikeBuffers a b d) (ranks bytes : List ℕ) (L : length ranks ≡ length bytes)
    (r q : Levels) (e f : Buffers) (ranks' bytes' : List ℕ) (G : ReadGives a b ranks r e ranks') (H : ReadGives (tuned a tols) d bytes q f bytes') where
  abbrev Alike : Type 0
  Alike = (r ≡ q) × (r.outcome ≡ Ok tt → (x : ℕ) → x < a.held → get_or ranks' x 0 ≡ get_or bytes' x 0)

  read_done : r.outcome ≡ q.outcome → r.outcome ≡ Ok tt → q.outcome ≡ Ok tt → Alike
  read_done o h g =
      let p = read_passed (sizes a) b.samples b.table ranks (rw h at G.number) in
      let u = read_passed (sizes (tuned a tols)) d.samples d.table bytes (rw g at H.number) in
      let z = p.0.sized in
      let n = p.0.held in
      let s = read_alike b.table d.table a.capacity a.levels a.held (omega arith) B.table.each ranks bytes ranks' bytes' r.segments q.segments r.total q.total
      (ranks_read b.table a.capacity a.levels a.held z.0 z.1 (omega arith) (omega arith) p.1.cells ranks ranks' r.segments r.total (G.done h))
      (ranks_read d.table a.capacity a.levels a.held z.0 z.1 (omega arith) (omega arith) u.1.cells bytes bytes' q.segments q.total (H.done g)) in
      (levels_same o s.1 s.2, λ t. s.0)

  read_refused : r.outcome ≡ q.outcome → (why : Refusal) → r.outcome ≡ Err why → q.outcome ≡ Err why → Alike
  read_refused o w h g =
      let P = G.refused w h in
      let Q = H.refused w g in
      (levels_same o (P.segments ∙ sym Q.segments) (P.total ∙ sym Q.total), λ t. done_refused t h)

  read_tuned : Alike
  read_tuned =
      let l = lent_carried a tols agree B.samples in
      by_number (ReadNumber (sizes (tuned a tols)) d.samples d.table bytes) (read_number_one (sizes (tuned a tols)) d.samples d.table bytes) r.outcome q.outcome
      (table_carried a tols agree B (λ p. (l.0 p.0, rw B.table.length at p.1, rw L at p.2), λ p. (l.1 p.0, rw B.table.length p.1, rw L p.2)) G.number)
      H.number read_done read_refused

-- of the rank buffers only the lengths count
pub read_unread : (a c : Trace) (b d : Buffers) (ranks bytes : List ℕ) (r q : Levels) (e f : Buffers) (ranks' bytes' : List ℕ) → AlikeTraces a c → AlikeBuffers a b d → length ranks ≡ length bytes
    → ReadGives a b ranks r e ranks' → ReadGives c d bytes q f bytes' → (r ≡ q) × (r.outcome ≡ Ok tt → (x : ℕ) → x < a.held → get_or ranks' x 0 ≡ get_or bytes' x 0)
read_unread a c b d ranks bytes r q e f ranks' bytes' A B L G H =
    read_tuned a c.tolerances A.tolerances b d B ranks bytes L r q e f ranks' bytes' G (subst (λ z. ReadGives z d bytes q f bytes') (tuned_same A) H)
