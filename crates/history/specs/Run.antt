-- Any sequence of calls: a state is a trace and every lent buffer; a step is a call with its answer and the state after it, as the call's own promise says; a run is a
-- list of steps. Assumes nothing.
use Rattle.std.specs.Prelude.{◌≡◌, List, [], ◌∷◌, ℕ}
use Rattle.refusal.specs.Number.{code}
use Rattle.sample.specs.declared.Sample.{Sample}
use Rattle.sample.specs.Samples.{Samples}
use Rattle.trace.specs.declared.Trace.{Trace}
use Rattle.trace.specs.declared.Started.{Started}
use Rattle.trace.specs.declared.Changed.{Changed}
use Rattle.trace.specs.declared.Uploaded.{Uploaded}
use Rattle.trace.specs.declared.Levels.{Levels}
use Rattle.trace.specs.Calls.{Buffers, StartGives, PutGives, Asked, AskGives, ReadGives, asked}
use Rattle.trace.specs.Upload.{stopped, UploadGives}

pub record State : Type 0 where
  pub trace : Trace
  pub lent : Buffers
  pub ranks : List ℕ

-- a call with its arguments
pub data Call : Type 0 where
  start : ℕ → ℕ → List ℕ → Call
  put : ℕ → Sample → Call
  upload : Samples → Call
  ask : ℕ → ℕ → ℕ → Call
  read : Call

pub data Answer : Type 0 where
  started : Started → Answer
  changed : Changed → Answer
  uploaded : Uploaded → Answer
  said : Asked → Answer
  levels : Levels → Answer

-- the paper's number of an answer
abbrev pub answered : Answer → ℕ
answered (started r) = code r.outcome
answered (changed r) = code r.outcome
answered (uploaded r) = stopped r.stop
answered (said r) = asked r
answered (levels r) = code r.outcome

-- from the state s the call and its answer lead to the state e; what a call is not lent stays
pub data Step (s e : State) : Call → Answer → Type 0 where
  starts : {m N : ℕ} {tols : List ℕ} {r : Started} → StartGives m N tols r → e.trace ≡ r.trace → e.lent ≡ s.lent → e.ranks ≡ s.ranks → Step s e (start m N tols) (started r)
  puts : {v : ℕ} {x : Sample} {r : Changed} → PutGives s.trace s.lent v x r e.lent → e.trace ≡ r.trace → e.ranks ≡ s.ranks → Step s e (put v x) (changed r)
  uploads : {us : Samples} {r : Uploaded} → UploadGives s.trace s.lent us r e.lent us → e.trace ≡ r.trace → e.ranks ≡ s.ranks → Step s e (upload us) (uploaded r)
  asks : {k i j : ℕ} {r : Asked} → AskGives s.trace s.lent.samples k i j r e.lent.samples
      → e.lent.table ≡ s.lent.table → e.trace ≡ s.trace → e.ranks ≡ s.ranks → Step s e (ask k i j) (said r)
  reads : {r : Levels} → ReadGives s.trace s.lent s.ranks r e.lent e.ranks → e.trace ≡ s.trace → Step s e read (levels r)

-- the calls in turn, with their answers, lead from s to e
pub data Run : State → List Call → List Answer → State → Type 0 where
  none : {s : State} → Run s [] [] s
  next : {s u e : State} {c : Call} {r : Answer} {cs : List Call} {rs : List Answer} → Step s u c r → Run u cs rs e → Run s (c ∷ cs) (r ∷ rs) e
