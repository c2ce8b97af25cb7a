-- The theorems of any sequence of calls, refused ones included. Assumes nothing.
use mathlib.Core.Path.{◌≡◌, refl, sym, ap, subst, ◌∙◌}
use mathlib.Core.Bool.{true, true≢false}
use mathlib.Core.List.{List, [], ◌∷◌, map}
use Prim.Native.Nat.{ℕ, suc, ◌+◌}
use native.Mathlib.Numerals.{add-one}
use native.Mathlib.Omega.{arith}
use lib.ListN.{take, set, length-set}
use lib.Seq.{get_or-set_other}
use borrow.Author.Tests.{ne_eqb}
use Rattle.refusal.specs.Number.{number, code}
use Rattle.refusal.proofs.Laws.{and_left, and_right}
use Rattle.refusal.proofs.Rows.{by_outcome, numbered}
use Rattle.sample.specs.declared.Sample.{Sample}
use Rattle.sample.specs.Samples.{Samples}
use Rattle.table.specs.Table.{at}
use Rattle.costs.specs.Costs.{Named}
use Rattle.trace.specs.declared.Trace.{Trace}
use Rattle.trace.specs.declared.Started.{Started}
use Rattle.trace.specs.declared.Changed.{Changed}
use Rattle.std.specs.Prelude.{Ok}
use Rattle.trace.specs.declared.Uploaded.{Uploaded}
use Rattle.trace.specs.declared.Levels.{Levels}
use Rattle.sizes.specs.Setup.{held_with}
use Rattle.trace.specs.Calls.{Buffers, Put, PutGives, holding}
use Rattle.trace.specs.Upload as upload
use Rattle.trace.specs.Upload.{zipped, Puts}
use Rattle.trace.specs.Upload.Puts.{all_taken, one_refused, one_taken}
use Rattle.trace.proofs.Calls.{buffers_is}
use Rattle.trace.proofs.Exists.{start_some, put_some, upload_some, ask_some, read_some}
use Rattle.trace.proofs.Unique.{start_one, put_one, upload_one, ask_one, read_one}
use Rattle.trace.proofs.Formulas.{put_adds}
use Rattle.trace.proofs.Added.{puts_leave, upload_leaves, upload_firsts}
use Rattle.history.specs.Run.{State, Call, Answer, Step, Run, answered}
use Rattle.history.specs.Run.Call.{start, put, upload, ask, read}
use Rattle.history.specs.Run.Answer.{started, changed, uploaded, said, levels}
use Rattle.history.specs.Run.Step.{starts, puts, uploads, asks, reads}
use Rattle.history.specs.Run.Run.{none, next}
use Rattle.history.specs.Hold.{CostsHeld, Shown, MarksRanked, KeptBut, Touched, Between, Ending, MayChange, RefusedLeaves, held_after, on_trace, Looks, all_on_trace, puts_from, AsPuts}
use Rattle.history.proofs.Sound.{Sound, state, state_is, not_put, by_lists, started_sound, step_sound}
use Rattle.history.proofs.Follows.{sound_shown, sound_marked, Possible, step_number, bare_number}

run_sound : {s e : State} {cs : List Call} {rs : List Answer} → Sound s → Run s cs rs e → Sound e
run_sound S none = S
run_sound S (next p R) = run_sound (step_sound S p) R

-- ---- from any state a start, whether refused or not, and after it any calls
pub sound : {s e : State} {m N : ℕ} {tols : List ℕ} {cs : List Call} {rs : List Answer} → Run s (start m N tols ∷ cs) rs e → Sound e
sound {s} (next p R) = run_sound (started_sound {s = s} p) R

module _ {s e : State} {m N : ℕ} {tols : List ℕ} {cs : List Call} {rs : List Answer} where
  -- every held cost is the one the definition gives for the samples as they then stand
  pub demand_3 : Run s (start m N tols ∷ cs) rs e → CostsHeld e
  demand_3 R = (sound R).costs

  -- and a read, which changes neither samples nor setup (`step_changes`), gives the levels of their chosen minimal family and the counts of these
  pub demand_2 : {f : State} {r : Levels} → Run s (start m N tols ∷ cs) rs e → Step e f read (levels r) → answered (levels r) ≡ 0 → Shown f r
  demand_2 R p h = sound_shown (sound R) p h

  -- in which every marked sample has rank m: it is held at every level, as in every family of the samples (`family_keeps`)
  pub restarts_kept : {f : State} {r : Levels} → Run s (start m N tols ∷ cs) rs e → Step e f read (levels r) → answered (levels r) ≡ 0 → MarksRanked f
  restarts_kept R p h = sound_marked (sound R) p h

  possible : {f : State} {c : Call} {r : Answer} → Run s (start m N tols ∷ cs) rs e → Step e f c r → (k : ℕ) → answered r ≡ k → Possible c k
  possible {c = c} R p k h = subst (Possible c) h (step_number (sound R) p)

  -- so no call is refused with 4 or 5, and none but a start with 2
  pub never_5 : {f : State} {c : Call} {r : Answer} → Run s (start m N tols ∷ cs) rs e → Step e f c r → answered r ≡ 5 → ⊥
  never_5 R p h = true≢false (possible R p 5 h)

  pub never_4 : {f : State} {c : Call} {r : Answer} → Run s (start m N tols ∷ cs) rs e → Step e f c r → answered r ≡ 4 → ⊥
  never_4 R p h = true≢false (possible R p 4 h)

  pub never_2 : {f : State} {c : Call} {r : Answer} → Run s (start m N tols ∷ cs) rs e → Step e f c r → on_trace c ≡ true → answered r ≡ 2 → ⊥
  never_2 R p o h = true≢false (rw o at (possible R p 2 h))

-- ---- what a call changes
set_kept : {A : Type 0} {d : A} {v : ℕ} {s e : List A} (x : A) → e ≡ set s v x → KeptBut d (λ q. q ≡ v) s e
set_kept {d = d} {v = v} {s = s} x h = record { places = rw h (length-set s v x); others = λ q n. rw h (get_or-set_other s v q x d n) }

put_touched : (s e : State) (v n : ℕ) (x : Sample) (r : Changed) → Put s.trace s.lent v n x r e.lent → e.trace ≡ r.trace → e.ranks ≡ s.ranks
    → Touched (λ q. q ≡ v) (Named s.trace.levels v n) s e
put_touched s e v n x r P t k = record {
  setup = rw (t ∙ P.trace) refl;
  across = set_kept x.across (ap (λ (u : Samples). u.across) P.samples);
  up = set_kept x.up (ap (λ (u : Samples). u.up) P.samples);
  marks = set_kept x.mark (ap (λ (u : Samples). u.marks) P.samples);
  room = P.cells.same;
  cells = P.cells.other;
  ranks = k;
}

all_kept : {A : Type 0} {d : A} {P : ℕ → Type 0} {s : List A} → KeptBut d P s s
all_kept = record { places = refl; others = λ q n. refl }

not_touched : {P : ℕ → Type 0} {Q : ℕ → ℕ → ℕ → Type 0} {s e : State} → e ≡ s → Touched P Q s e
not_touched {P} {Q} {s} z = subst (Touched P Q s) (sym z) (record { setup = refl; across = all_kept; up = all_kept; marks = all_kept; room = refl; cells = λ a h. refl; ranks = refl })

put_step_touched : {s e : State} {v : ℕ} {x : Sample} {r : Changed} → PutGives s.trace s.lent v x r e.lent → e.trace ≡ r.trace → e.ranks ≡ s.ranks
    → Touched (λ q. q ≡ v) (Named s.trace.levels v (held_with s.trace.held v)) s e
put_step_touched {s} {e} {v} {x} {r} G t k =
    by_outcome r.outcome (λ d. put_touched s e v (held_with s.trace.held v) x r (G.done d) t k) (λ w h. not_touched (not_put (G.refused w h) t k))

-- one change after another
kept_on : {A : Type 0} {d : A} {P P' R : ℕ → Type 0} {s u e : List A} → ((q : ℕ) → P q → R q) → ((q : ℕ) → P' q → R q) → KeptBut d P s u → KeptBut d P' u e → KeptBut d R s e
kept_on f g K L = record { places = L.places ∙ K.places; others = λ q n. L.others q (λ p. n (g q p)) ∙ K.others q (λ p. n (f q p)) }

touched_on : {P P' R : ℕ → Type 0} {Q Q' S : ℕ → ℕ → ℕ → Type 0} {s u e : State} → ((q : ℕ) → P q → R q) → ((q : ℕ) → P' q → R q) → ((k i j : ℕ) → Q k i j → S k i j) → ((k i j : ℕ) → Q' k i j → S k i j)
    → Touched P Q s u → Touched P' Q' u e → Touched R S s e
touched_on {e = e} f g x y T U = record {
  setup = U.setup ∙ ap (λ (a : Trace). holding a e.trace.held) T.setup;
  across = kept_on f g T.across U.across;
  up = kept_on f g T.up U.up;
  marks = kept_on f g T.marks U.marks;
  room = U.room ∙ T.room;
  cells = λ a n. U.cells a (λ k i j q z. n k i j (y k i j q) (z ∙ ap (λ (c : Trace). at c.capacity k i j) T.setup)) ∙ T.cells a (λ k i j q. n k i j (x k i j q));
  ranks = U.ranks ∙ T.ranks;
}

-- samples put one by one: the places and the stretches of each are among those of all
puts_touched : {a : Trace} {b e : Buffers} {ranks : List ℕ} {zs : List Sample} {r : Uploaded} → Puts a b zs r e
    → Touched (Between a.held r.trace.held) (Ending a.levels a.held r.trace.held) (state a b ranks) (state r.trace e ranks)
puts_touched all_taken = not_touched refl
puts_touched (one_refused {why = why} G h) = not_touched (not_put (G.refused why h) refl refl)
puts_touched {a} {b} {ranks = ranks} (one_taken {c = c} {x = x} {r = r} {q = q} G h P) =
    let n : r.trace.held ≡ a.held + 1 = ap (λ (c : Trace). c.held) (put_adds a b a.held x r c G h refl).trace in
    let m : r.trace.levels ≡ a.levels = ap (λ (c : Trace). c.levels) (put_adds a b a.held x r c G h refl).trace in
    let l : q.trace.held ≡ r.trace.held + q.added = ap (λ (c : Trace). c.held) (puts_leave P).trace in
    touched_on (λ p z. omega arith) (λ p z. omega arith)
    (λ k i j z. (z.0, z.1, z.4, (omega arith, omega arith))) (λ k i j z. (z.0, omega arith, z.2, (omega arith, omega arith)))
    (put_touched (state a b ranks) (state r.trace c ranks) a.held (a.held + 1) x r (put_adds a b a.held x r c G h refl) refl refl) (puts_touched P)

pub step_changes : {s e : State} {c : Call} {r : Answer} → Step s e c r → MayChange c s e
step_changes (starts G t l k) = (l, k)
step_changes (puts G t k) = put_step_touched G t k
step_changes {s} {e} (uploads {us = us} G t k) = by_lists {A = MayChange (upload us) s e} G t k (λ P z. subst (MayChange (upload us) s) (sym z) (puts_touched P)) (λ n z. not_touched z)
step_changes (asks G t l k) = state_is l (buffers_is G.lent t) k
step_changes {s} {e} (reads {r = r} G t) =
    by_outcome r.outcome (λ d. record { trace = t; lent = G.lent; places = (G.done d).same; ranks = (G.done d).other })
    (λ w h. let z : e.ranks ≡ s.ranks = (G.refused w h).kept in record { trace = t; lent = G.lent; places = rw z refl; ranks = λ x l. rw z refl })

-- a refused call leaves everything as it was, a refused start all but the trace
pub refused_keeps : {s e : State} {c : Call} {r : Answer} → Step s e c r → (answered r ≡ 0 → ⊥) → RefusedLeaves c s e
refused_keeps (starts {r = r} G t l k) n = by_outcome r.outcome (λ d. absurd (n (ap code d))) (λ w h. (t ∙ G.refused w h, l, k))
refused_keeps (puts {r = r} G t k) n = by_outcome r.outcome (λ d. absurd (n (ap code d))) (λ w h. not_put (G.refused w h) t k)
refused_keeps {s} {e} (uploads {us = us} {r = r} G t k) n =
    (r.added, upload.uploaded (Ok tt) r.trace r.added r.cells, uploads (upload_firsts s.trace s.lent us r e.lent us G) t k, refl)
refused_keeps (asks G t l k) n = state_is l (buffers_is G.lent t) k
refused_keeps (reads {r = r} G t) n = by_outcome r.outcome (λ d. absurd (n (ap code d))) (λ w h. state_is t G.lent (G.refused w h).kept)

-- only start, put and upload change how many samples are held, and of the puts an addition alone (`held_corrected`, `held_added`)
pub step_held : {s e : State} {c : Call} {r : Answer} → Step s e c r → e.trace.held ≡ held_after c r s.trace.held
step_held (starts {r = r} G t l k) = by_outcome r.outcome (λ d. rw (t ∙ G.done d) refl) (λ w h. rw (t ∙ G.refused w h) refl)
step_held (puts {r = r} G t k) =
    by_outcome r.outcome (λ d. rw (t ∙ (G.done d).trace, d) refl) (λ w h. rw (t ∙ (G.refused w h).trace, h, ne_eqb (number w) 0 (numbered w)) refl)
step_held {s} {e} (uploads {us = us} {r = r} G t k) = rw (t ∙ (upload_leaves s.trace s.lent us r e.lent us G).trace) refl
step_held (asks G t l k) = rw l refl
step_held (reads G t) = rw t refl

-- ---- an upload is its puts: those of the samples before its stop, at places n on, lead to the same state and count the same cells
puts_run : {a : Trace} {b e : Buffers} {zs : List Sample} {r : Uploaded} (ranks : List ℕ) → Puts a b zs r e → AsPuts (state a b ranks) (state r.trace e ranks) zs r
puts_run ranks all_taken = record { answers = []; run = none; cells = refl }
puts_run ranks (one_refused {why = why} G h) = let N = G.refused why h in rw (N.trace, N.lent) (record { answers = []; run = none; cells = refl })
puts_run {a} {b} {e} ranks (one_taken {c = c} {x = x} {xs = xs} {r = r} {q = q} G h P) =
    let R = puts_run ranks P in
    let n : r.trace.held ≡ suc a.held = ap (λ (c : Trace). c.held) (put_adds a b a.held x r c G h refl).trace ∙ add-one a.held in
    let run = subst (λ m. Run (state r.trace c ranks) (puts_from m (take q.added xs)) (map changed R.answers) (state q.trace e ranks)) n R.run in
    record { answers = r ∷ R.answers; run = next (puts G refl refl) run; cells = rw R.cells refl }

pub upload_run : {s e : State} {us : Samples} {r : Uploaded} → Step s e (upload us) (uploaded r) → AsPuts s e (zipped us.across us.up us.marks) r
upload_run {s} {e} {us} {r} (uploads G t k) =
    by_lists {A = AsPuts s e (zipped us.across us.up us.marks) r} G t k
    (λ P z. rw z (puts_run s.ranks P))
    (λ n z. rw (n, z) (record { answers = []; run = none; cells = refl }))

-- ---- the setup stays that of the last start
changes_setup : (c : Call) (s e : State) → MayChange c s e → on_trace c ≡ true → e.trace ≡ holding s.trace e.trace.held
changes_setup (start m N tols) s e M h = absurd (true≢false (sym h))
changes_setup (put v x) s e M h = M.setup
changes_setup (upload us) s e M h = M.setup
changes_setup (ask k i j) s e M h = rw M refl
changes_setup read s e M h = rw M.trace refl

pub run_setup : {s e : State} {cs : List Call} {rs : List Answer} → Run s cs rs e → all_on_trace cs ≡ true → e.trace ≡ holding s.trace e.trace.held
run_setup none h = refl
run_setup {s} {e} (next {u = u} {c = c} {cs = cs} p R) h =
    run_setup R (and_right (on_trace c) (all_on_trace cs) h)
    ∙ ap (λ (a : Trace). holding a e.trace.held) (changes_setup c s u (step_changes p) (and_left (on_trace c) (all_on_trace cs) h))

pub started_setup : {s e : State} {m N : ℕ} {tols : List ℕ} {r : Started} {cs : List Call} {rs : List Answer} → Run s (start m N tols ∷ cs) (started r ∷ rs) e
    → all_on_trace cs ≡ true → e.trace ≡ holding r.trace e.trace.held
started_setup {e = e} (next (starts G t l k) R) h = run_setup R h ∙ ap (λ (a : Trace). holding a e.trace.held) t

-- so after a refused start every call that looks at its trace is refused with 1
pub refused_later : {s e f : State} {m N : ℕ} {tols : List ℕ} {cs : List Call} {rs : List Answer} {c : Call} {r q : Answer} → Run s (start m N tols ∷ cs) (r ∷ rs) e
    → (answered r ≡ 0 → ⊥) → all_on_trace cs ≡ true → Step e f c q → Looks c → answered q ≡ 1
refused_later (next p R) n h q o = bare_number (ap (λ (a : Trace). a.levels) (run_setup R h) ∙ ap (λ (a : Trace). a.levels) (refused_keeps p n).0) q o

-- ---- there is a result: every call has a step from every state, and every list of calls a run
pub step_some : (s : State) (c : Call) → (r : Answer) × (e : State) × Step s e c r
step_some s (start m N tols) = let w = start_some m N tols in (started w.0, state w.0.trace s.lent s.ranks, starts w.1 refl refl refl)
step_some s (put v x) = let w = put_some s.trace s.lent v x in (changed w.0, state w.0.trace w.1 s.ranks, puts w.2 refl refl)
step_some s (upload us) = let w = upload_some s.trace s.lent us in (uploaded w.0, state w.0.trace w.1 s.ranks, uploads w.2 refl refl)
step_some s (ask k i j) = let w = ask_some s.trace s.lent.samples k i j in (said w.0, s, asks w.1 refl refl refl)
step_some s read = let w = read_some s.trace s.lent s.ranks in (levels w.0, state s.trace s.lent w.1, reads w.2 refl)

pub run_some : (s : State) (cs : List Call) → (rs : List Answer) × (e : State) × Run s cs rs e
run_some s [] = ([], s, none)
run_some s (c ∷ cs) =
    let p = step_some s c in
    let R = run_some p.1 cs in
    (p.0 ∷ R.0, R.1, next p.2 R.2)

-- ---- and one only
pub step_one : {s e f : State} {c : Call} {r q : Answer} → Step s e c r → Step s f c q → (r ≡ q) × (e ≡ f)
step_one {s} {e} {f} (starts {m = m} {N = N} {tols = tols} {r = r} G t l k) (starts {r = q} H u w z) =
    let o = start_one m N tols r q G H in (ap started o, state_is (t ∙ ap (λ (r : Started). r.trace) o ∙ sym u) (l ∙ sym w) (k ∙ sym z))
step_one {s} {e} {f} (puts {v = v} {x = x} {r = r} G t k) (puts {r = q} H u z) =
    let o = put_one s.trace s.lent v x r q e.lent f.lent G H in (ap changed o.0, state_is (t ∙ ap (λ (r : Changed). r.trace) o.0 ∙ sym u) o.1 (k ∙ sym z))
step_one {s} {e} {f} (uploads {us = us} {r = r} G t k) (uploads {r = q} H u z) =
    let o = upload_one s.trace s.lent us r q e.lent f.lent us us G H in (ap uploaded o.0, state_is (t ∙ ap (λ (r : Uploaded). r.trace) o.0 ∙ sym u) o.1 (k ∙ sym z))
step_one {s} {e} {f} (asks {k = l} {i = i} {j = j} {r = r} G b t k) (asks {r = q} H d u z) =
    let o = ask_one s.trace s.lent.samples l i j r q e.lent.samples f.lent.samples G H in
    (ap said o.0, state_is (t ∙ sym u) (buffers_is o.1 (b ∙ sym d)) (k ∙ sym z))
step_one {s} {e} {f} (reads {r = r} G t) (reads {r = q} H u) =
    let o = read_one s.trace s.lent s.ranks r q e.lent f.lent e.ranks f.ranks G H in (ap levels o.0, state_is (t ∙ sym u) o.1 o.2)

pub run_one : {s e f : State} {cs : List Call} {rs qs : List Answer} → Run s cs rs e → Run s cs qs f → (rs ≡ qs) × (e ≡ f)
run_one none none = (refl, refl)
run_one {s} {e} {f} (next p R) (next {cs = cs} {rs = qs} q T) =
    let o = step_one p q in
    let z = run_one R (subst (λ (u : State). Run u cs qs f) (sym o.1) T) in
    (rw (o.0, z.0), z.1)
