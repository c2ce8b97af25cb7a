-- An upload: the samples of three lists, put one by one at the end of a trace, up to the first refused. Assumes nothing.
use Rattle.std.specs.Prelude.{◌≡◌, List, [], ◌∷◌, ℕ, suc, ◌+◌, ℤ, take, Ok, Err}
use Rattle.refusal.specs.declared.Refusal.{Refusal}
use Rattle.refusal.specs.declared.Refusal.TheVariants.{Buffer}
use Rattle.refusal.specs.Number.{Outcome, code}
use Rattle.sample.specs.declared.Sample.{Sample}
use Rattle.sample.specs.Samples.{Samples, sample, samples}
use Rattle.checks.specs.Numbers.{OneLength}
use Rattle.trace.specs.declared.Trace.{Trace}
use Rattle.trace.specs.declared.Changed.{Changed}
use Rattle.trace.specs.declared.Uploaded.{Uploaded}
use Rattle.trace.specs.Calls.{Buffers, PutGives}

-- the paper's number of a stop, 0 where all were taken
abbrev pub stopped : Outcome → ℕ
stopped = code

abbrev pub uploaded : Outcome → Trace → ℕ → ℕ → Uploaded
uploaded stop a added cells = record { stop = stop; trace = a; added = added; cells = cells }

-- the first q of each
abbrev pub firsts : ℕ → Samples → Samples
firsts q us = samples (take q us.across) (take q us.up) (take q us.marks)

-- their samples, in order
abbrev pub zipped : List ℤ → List ℤ → List ℕ → List Sample
zipped [] ys ms = []
zipped (x ∷ xs) [] ms = []
zipped (x ∷ xs) (y ∷ ys) [] = []
zipped (x ∷ xs) (y ∷ ys) (m ∷ ms) = sample x y m ∷ zipped xs ys ms

-- from the trace a and the buffers b each sample is put at the end, at place n, as put promises: the first refused stops it and is not counted, each before it counts one sample and its cells
pub data Puts : Trace → Buffers → List Sample → Uploaded → Buffers → Type 0 where
  all_taken : {a : Trace} {b : Buffers} → Puts a b [] (uploaded (Ok tt) a 0 0) b
  one_refused : {a : Trace} {b e : Buffers} {x : Sample} {xs : List Sample} {r : Changed} {why : Refusal} → PutGives a b a.held x r e → r.outcome ≡ Err why
      → Puts a b (x ∷ xs) (uploaded (Err why) r.trace 0 0) e
  one_taken : {a : Trace} {b c e : Buffers} {x : Sample} {xs : List Sample} {r : Changed} {q : Uploaded} → PutGives a b a.held x r c → r.outcome ≡ Ok tt → Puts r.trace c xs q e
      → Puts a b (x ∷ xs) (uploaded q.stop q.trace (suc q.added) (r.cells + q.cells)) e

-- none was taken, since the lists differ in length
abbrev pub not_uploaded : Trace → Uploaded
not_uploaded a = uploaded (Err Buffer) a 0 0

-- lists of different length are refused with 3 before anything is looked at or added; else it is the puts, of which empty lists have none. The lists stay
pub record UploadGives (a : Trace) (b : Buffers) (us : Samples) (r : Uploaded) (e : Buffers) (us' : Samples) : Type 0 where
  pub unequal : (OneLength us → ⊥) → (r ≡ not_uploaded a) × (e ≡ b)
  pub puts : OneLength us → Puts a b (zipped us.across us.up us.marks) r e
  pub lists : us' ≡ us
