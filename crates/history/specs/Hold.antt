-- What holds of a state, and what a call may change. Assumes nothing.
use Rattle.std.specs.Prelude.{◌≡◌, Bool, true, false, ◌&&◌, cond, ℕ, suc, ◌+◌, ◌-◌, ◌≤◌, ◌<◌, eqb, pos, length, get_or, take}
use mathlib.Core.List.{List, [], ◌∷◌, map, Memᴰ as In}
use Rattle.sample.specs.Mark.{Marked}
use Rattle.sample.specs.declared.Sample.{Sample}
use Rattle.family.specs.Levels as Levels
use Rattle.table.specs.Table.{at, cell}
use Rattle.costs.specs.Costs.{Permit, Named}
use Rattle.readout.specs.Read.{rank}
use Rattle.trace.specs.declared.Changed.{Changed}
use Rattle.trace.specs.declared.Uploaded.{Uploaded}
use Rattle.trace.specs.declared.Levels.{Levels}
use Rattle.sizes.specs.Setup.{held_with}
use Rattle.trace.specs.Calls.{holding, no_trace}
use Rattle.checks.specs.Numbers.{OneLength}
use Rattle.trace.specs.Upload.{firsts}
use Rattle.history.specs.Run.{State, Call, Answer, Step, Run, answered}
use Rattle.history.specs.Run.Call.{start, put, upload, ask, read}
use Rattle.history.specs.Run.Answer.{started, changed, uploaded, said, levels}

-- which stretch is permitted at which level: by the stored samples and the setup's tolerances
abbrev pub Permitted : State → ℕ → ℕ → ℕ → Type 0
Permitted s = Permit s.lent.samples s.trace.tolerances

-- every cell of a stretch i < j < n is its cost
abbrev pub CostsHeld : State → Type 0
CostsHeld s = Levels.Costs (Permitted s) (cell s.lent.table s.trace.capacity) s.trace.levels s.trace.held

-- the levels that a rank buffer gives the samples held
abbrev pub levels_of : State → ℕ → List ℕ
levels_of s = Levels.levels (rank s.ranks) 0 (s.trace.held - 1)

-- those levels are the chosen minimal family of the samples as they stand, and the counts are theirs
pub record Shown (s : State) (r : Levels) : Type 0 where
  pub chosen : Levels.Chosen (Permitted s) s.trace.levels 0 (s.trace.held - 1) (levels_of s)
  pub level : (k : ℕ) → 1 ≤ k → k ≤ s.trace.levels → get_or r.segments (k - 1) 0 ≡ length (levels_of s k) - 1
  pub past : (x : ℕ) → s.trace.levels ≤ x → get_or r.segments x 0 ≡ 0
  pub total : r.total ≡ Levels.size (levels_of s) s.trace.levels

-- every marked sample is in each of the levels 1 to m of L
abbrev pub MarksKept : State → (ℕ → List ℕ) → Type 0
MarksKept s L = (q : ℕ) → q < s.trace.held → Marked s.lent.samples.marks q → (ℓ : ℕ) → 1 ≤ ℓ → ℓ ≤ s.trace.levels → In q (L ℓ)

-- and its rank is m
abbrev pub MarksRanked : State → Type 0
MarksRanked s = (q : ℕ) → q < s.trace.held → Marked s.lent.samples.marks q → rank s.ranks q ≡ s.trace.levels

-- a buffer has as many places, and every one but those of P holds what it held
pub record KeptBut {A : Type 0} (z : A) (P : ℕ → Type 0) (s e : List A) : Type 0 where
  pub places : length e ≡ length s
  pub others : (q : ℕ) → (P q → ⊥) → get_or e q z ≡ get_or s q z

-- from s to e at most these may differ: n, the coordinates and the marks at the places of P, and the cells of the stretches of Q
pub record Touched (P : ℕ → Type 0) (Q : ℕ → ℕ → ℕ → Type 0) (s e : State) : Type 0 where
  pub setup : e.trace ≡ holding s.trace e.trace.held
  pub across : KeptBut (pos 0) P s.lent.samples.across e.lent.samples.across
  pub up : KeptBut (pos 0) P s.lent.samples.up e.lent.samples.up
  pub marks : KeptBut 0 P s.lent.samples.marks e.lent.samples.marks
  pub room : length e.lent.table ≡ length s.lent.table
  pub cells : (a : ℕ) → ((k i j : ℕ) → Q k i j → a ≡ at s.trace.capacity k i j → ⊥) → get_or e.lent.table a 0 ≡ get_or s.lent.table a 0
  pub ranks : e.ranks ≡ s.ranks

-- and here the ranks of the samples held
pub record Ranked (s e : State) : Type 0 where
  pub trace : e.trace ≡ s.trace
  pub lent : e.lent ≡ s.lent
  pub places : length e.ranks ≡ length s.ranks
  pub ranks : (x : ℕ) → s.trace.held ≤ x → rank e.ranks x ≡ rank s.ranks x

-- the places from n on up to n', and the stretches of levels 1 to m that end there
abbrev pub Between : ℕ → ℕ → ℕ → Type 0
Between n n' q = (n ≤ q) × (q < n')

abbrev pub Ending : ℕ → ℕ → ℕ → ℕ → ℕ → ℕ → Type 0
Ending m n n' k i j = (1 ≤ k) × (k ≤ m) × (i < j) × Between n n' j

-- what each call may change
abbrev pub MayChange : Call → State → State → Type 0
MayChange (start m N tols) s e = (e.lent ≡ s.lent) × (e.ranks ≡ s.ranks)
MayChange (put v x) s e = Touched (λ q. q ≡ v) (Named s.trace.levels v (held_with s.trace.held v)) s e
MayChange (upload us) s e = Touched (Between s.trace.held e.trace.held) (Ending s.trace.levels s.trace.held e.trace.held) s e
MayChange (ask k i j) s e = e ≡ s
MayChange read s e = Ranked s e

-- what a refused call leaves: a refused start the trace that every later call refuses, an upload what the samples before its stop would have left alone, any other everything as it was
abbrev pub RefusedLeaves : Call → State → State → Type 0
RefusedLeaves (start m N tols) s e = (e.trace ≡ no_trace) × (e.lent ≡ s.lent) × (e.ranks ≡ s.ranks)
RefusedLeaves (put v x) s e = e ≡ s
RefusedLeaves (upload us) s e = (q : ℕ) × (r : Uploaded) × Step s e (upload (firsts q us)) (uploaded r) × (answered (uploaded r) ≡ 0)
RefusedLeaves (ask k i j) s e = e ≡ s
RefusedLeaves read s e = e ≡ s

-- how many samples an answer says were added
abbrev pub added_by : Answer → ℕ
added_by (started r) = 0
added_by (changed r) = 0
added_by (uploaded r) = r.added
added_by (said r) = 0
added_by (levels r) = 0

-- how many samples are held after a call with this answer, by how many were
abbrev pub held_after : Call → Answer → ℕ → ℕ
held_after (start m N tols) r n = 0
held_after (put v x) r n = cond (eqb (answered r) 0) (held_with n v) n
held_after (upload us) r n = n + added_by r
held_after (ask k i j) r n = n
held_after read r n = n

-- a call on a trace is every one but start
abbrev pub on_trace : Call → Bool
on_trace (start m N tols) = false
on_trace (put v x) = true
on_trace (upload us) = true
on_trace (ask k i j) = true
on_trace read = true

-- one that looks at its trace: an upload does unless its lists differ in length or are empty
abbrev pub Looks : Call → Type 0
Looks (start m N tols) = ⊥
Looks (put v x) = Unit {0}
Looks (upload us) = OneLength us × (0 < length us.across)
Looks (ask k i j) = Unit {0}
Looks read = Unit {0}

abbrev pub all_on_trace : List Call → Bool
all_on_trace [] = true
all_on_trace (c ∷ cs) = on_trace c && all_on_trace cs

-- the puts of these samples from place n on, and the cells that their answers count
abbrev pub puts_from : ℕ → List Sample → List Call
puts_from n [] = []
puts_from n (x ∷ xs) = put n x ∷ puts_from (suc n) xs

abbrev pub cells_of : List Changed → ℕ
cells_of [] = 0
cells_of (r ∷ rs) = r.cells + cells_of rs

-- from s to e, with the answer r, as the puts of the samples added would have led
pub record AsPuts (s e : State) (zs : List Sample) (r : Uploaded) : Type 0 where
  pub answers : List Changed
  pub run : Run s (puts_from s.trace.held (take r.added zs)) (map changed answers) e
  pub cells : cells_of answers ≡ r.cells
