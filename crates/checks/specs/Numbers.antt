-- Which number each call gives, in the words of the paper's table: the lowest whose statement holds, and 0 where none does. Assumes nothing.
use Rattle.std.specs.Prelude.{◌≡◌, ◌⊎◌, List, ℕ, ◌*◌, ◌≤◌, ◌<◌, length}
use Rattle.refusal.specs.Check.{First}
use Rattle.sample.specs.declared.Sample.{Sample}
use Rattle.sample.specs.Samples.{Samples}
use Rattle.sample.specs.Valid.{Valid, AllValid}
use Rattle.sizes.specs.declared.Sizes.{Sizes}
use Rattle.sizes.specs.Setup.{SetupNumber}
use Rattle.family.specs.Fine.{Checked}
use Rattle.table.specs.Table.{cell}

-- the buffers of coordinates and marks have N places; the table m · N · N cells
abbrev pub LentSamples : Sizes → Samples → Type 0
LentSamples a xs = (a.capacity ≤ length xs.across) × (a.capacity ≤ length xs.up) × (a.capacity ≤ length xs.marks)

abbrev pub LentTable : Sizes → List ℕ → Type 0
LentTable a t = a.levels * (a.capacity * a.capacity) ≤ length t

-- each sample held is valid; their cells pass check 5
abbrev pub StoredSamples : Sizes → Samples → Type 0
StoredSamples a xs = AllValid xs a.held

abbrev pub StoredCells : Sizes → List ℕ → Type 0
StoredCells a t = Checked (cell t a.capacity) a.levels a.held

-- 1 to 5, of every call on a trace, by what is to be lent and what is to be stored
abbrev pub TraceNumber : Sizes → Type 0 → Type 0 → (ℕ → Type 0) → ℕ → Type 0
TraceNumber a Lent Stored rest =
    SetupNumber a.levels a.capacity a.tolerances
    (First 3 (Lent → ⊥)
    (First 4 (a.capacity < a.held)
    (First 5 (Stored → ⊥) rest)))

-- no number
abbrev pub Good : ℕ → Type 0
Good k = k ≡ 0

abbrev pub StartNumber : ℕ → ℕ → List ℕ → ℕ → Type 0
StartNumber m N tols = SetupNumber m N tols Good

-- 7 and 8, of a place for a sample: the next one of a trace that is full, and one past the next
abbrev pub PlaceNumber : Sizes → ℕ → (ℕ → Type 0) → ℕ → Type 0
PlaceNumber a v rest =
    First 7 ((v ≡ a.held) × (a.held ≡ a.capacity))
    (First 8 (a.held < v) rest)

abbrev pub PutNumber : Sizes → Samples → List ℕ → ℕ → Sample → ℕ → Type 0
PutNumber a xs t v x =
    TraceNumber a (LentSamples a xs × LentTable a t) (StoredSamples a xs × StoredCells a t)
    (First 6 (Valid x → ⊥)
    (PlaceNumber a v Good))

-- no such stretch, or no such level
abbrev pub Absent : Sizes → ℕ → ℕ → ℕ → Type 0
Absent a k i j = (j ≤ i) ⊎ (a.held ≤ j) ⊎ (k < 1) ⊎ (a.levels < k)

abbrev pub AskNumber : Sizes → Samples → ℕ → ℕ → ℕ → ℕ → Type 0
AskNumber a xs k i j =
    TraceNumber a (LentSamples a xs) (StoredSamples a xs)
    (First 8 (Absent a k i j) Good)

-- the rank buffer has n bytes
abbrev pub ReadNumber : Sizes → Samples → List ℕ → List ℕ → ℕ → Type 0
ReadNumber a xs t ranks =
    TraceNumber a (LentSamples a xs × LentTable a t × (a.held ≤ length ranks)) (StoredSamples a xs × StoredCells a t)
    (First 9 (a.held < 2) Good)

-- the lists of an upload are of one length
abbrev pub OneLength : Samples → Type 0
OneLength us = (length us.across ≡ length us.up) × (length us.across ≡ length us.marks)
