-- The starred cases of the requirements, in their order: what each kind of case says, and the table. `proofs/Starred.antt` proves every one. Assumes nothing.
use Rattle.std.specs.Prelude.{◌≡◌, ◌↔◌, List, [], ◌∷◌, map, ℕ, zero, suc, ◌-◌, ◌/◌, ◌%◌, ◌≤◌, ℤ, pos, neg_ℤ, length, Ok}
use Rattle.geometry.specs.Near.{Permitted}
use Rattle.sample.specs.declared.Sample.{Sample}
use Rattle.sample.specs.Samples.{Samples, sample, samples, sample_at}
use Rattle.family.specs.Levels.{Minimal, Chosen, Cost, size, ranks}
use Rattle.costs.specs.Costs.{Permit}
use Rattle.pause.specs.Pause.{pause_line_of}
use Rattle.sizes.specs.declared.Sizes.{Sizes}
use Rattle.sample.specs.Valid.{Valid}
use Rattle.sizes.specs.Setup.{Sized, Tolerances}
use Rattle.checks.specs.Numbers.{LentSamples, LentTable, ReadNumber}

-- a sample, across and up: at 13 4, and plain (minus 3) (pos 4) where a coordinate is below zero; with a mark, restart 20 0
abbrev pub plain : ℤ → ℤ → Sample
plain x y = sample x y 0

abbrev pub at : ℕ → ℕ → Sample
at x y = plain (pos x) (pos y)

abbrev pub restart : ℕ → ℕ → Sample
restart x y = sample (pos x) (pos y) 1

abbrev pub minus : ℕ → ℤ
minus n = neg_ℤ (pos n)

-- the buffers that hold the samples
abbrev pub buffered : List Sample → Samples
buffered s = samples (map (λ a. a.across) s) (map (λ a. a.up) s) (map (λ a. a.mark) s)

-- the stretch (i, j) of the samples is permitted at level k; there are as many levels as tolerances
abbrev pub PermitOf : List Sample → List ℕ → ℕ → ℕ → ℕ → Type 0
PermitOf s tols = Permit (buffered s) tols

-- f of d numbers from x on
abbrev pub listed : (ℕ → ℕ) → ℕ → ℕ → List ℕ
listed f x zero = []
listed f x (suc d) = f x ∷ listed f (suc x) d

-- the chosen one of the minimal families: each rank is how many of its levels hold the sample, and it has so many segments in total
pub record Ranked (s : List Sample) (tols rank : List ℕ) (total : ℕ) : Type 0 where
  pub levels : ℕ → List ℕ
  pub chosen : Chosen (PermitOf s tols) (length tols) 0 (length s - 1) levels
  pub rank_is : listed (ranks levels (length tols)) 0 (length s) ≡ rank
  pub total_is : size levels (length tols) ≡ total

-- a trace that holds one sample, and all that a read asks for
pub record OneHeld (a : Sizes) (xs : Samples) (t rank : List ℕ) : Type 0 where
  pub one : a.held ≡ 1
  pub sized : Sized a.levels a.capacity
  pub tolerances : Tolerances a.levels a.tolerances
  pub lent : LentSamples a xs × LentTable a t × (1 ≤ length rank)
  pub sample : Valid (sample_at xs 0)

-- a file with a record for each counter, all else zero
abbrev pub file : List ℕ → List ℕ
file [] = []
file (c ∷ cs) =
    0 ∷ 0 ∷ 0 ∷ 0 ∷ c % 256 ∷ c / 256 % 256 ∷ c / 65536 % 256 ∷ c / 16777216 % 256 ∷ 0 ∷ 0 ∷ 0 ∷ 0 ∷ 0 ∷ 0 ∷ 0 ∷ 0 ∷ file cs

-- the kinds of case, each with what it says
pub data Case : Type 0 where
  -- from a to b past q, at a tolerance
  permitted : Sample → Sample → Sample → ℕ → Case
  not_permitted : Sample → Sample → Sample → ℕ → Case
  -- samples, and one level at a tolerance: the first sample, sample q and the last are a minimal family
  serves : List Sample → ℕ → ℕ → Case
  -- samples and tolerances: the ranks and the total
  ranked : List Sample → List ℕ → List ℕ → ℕ → Case
  -- samples and tolerances, level k and stretch (i, j): the cost
  costs : List Sample → List ℕ → ℕ → ℕ → ℕ → ℕ → Case
  -- two samples, any tolerances: each rank, and the total, is the number of levels
  two_samples : Case
  -- a read of one sample: refused, with this number and no other
  one_sample : ℕ → Case
  -- counters, and their pause line
  paused : List ℕ → ℕ → Case

abbrev pub Holds : Case → Type 0
Holds (permitted a b q e) = Permitted (buffered (a ∷ q ∷ b ∷ [])) 0 2 e
Holds (not_permitted a b q e) = Permitted (buffered (a ∷ q ∷ b ∷ [])) 0 2 e → ⊥
Holds (serves s e q) = Minimal (PermitOf s (e ∷ [])) 1 0 (length s - 1) (λ ℓ. 0 ∷ q ∷ (length s - 1) ∷ [])
Holds (ranked s tols rank total) = Ranked s tols rank total
Holds (costs s tols k i j v) = Cost (PermitOf s tols) k i j v
Holds two_samples = (a b : Sample) (tols : List ℕ) → length tols ≤ 16 → Ranked (a ∷ b ∷ []) tols (length tols ∷ length tols ∷ []) (length tols)
Holds (one_sample number) = (a : Sizes) (xs : Samples) (t rank : List ℕ) → OneHeld a xs t rank → (k : ℕ) → ReadNumber a xs t rank k ↔ (k ≡ number)
Holds (paused counters line) = pause_line_of (file counters) ≡ record { outcome = Ok tt; sum = line }

abbrev pub All : List Case → Type 0
All [] = Unit {0}
All (c ∷ cs) = Holds c × All cs

abbrev pub tied : List Sample
tied = at 0 0 ∷ at 10 2 ∷ at 20 2 ∷ at 30 0 ∷ []

abbrev pub four : List Sample
four = at 0 0 ∷ at 10 1 ∷ at 20 0 ∷ at 20 20 ∷ []

abbrev pub five : List Sample
five = at 0 0 ∷ at 10 1 ∷ at 20 0 ∷ at 30 3 ∷ at 40 0 ∷ []

-- the same with a restart before sample 2, as the records of the requirements' day have it
abbrev pub day : List Sample
day = at 0 0 ∷ at 10 1 ∷ restart 20 0 ∷ at 30 3 ∷ at 40 0 ∷ []

abbrev pub starred : List Case
starred =
    -- (0,0) to (10,0) past (13,4): permitted at 5, not at 4. The infinite line would say 4
    permitted (at 0 0) (at 10 0) (at 13 4) 5
    ∷ not_permitted (at 0 0) (at 10 0) (at 13 4) 4
    -- the same past (-3,4): 5 yes, 4 no
    ∷ permitted (at 0 0) (at 10 0) (plain (minus 3) (pos 4)) 5
    ∷ not_permitted (at 0 0) (at 10 0) (plain (minus 3) (pos 4)) 4
    -- (0,0) to (0,0) past (3,4): 5 yes, 4 no
    ∷ permitted (at 0 0) (at 0 0) (at 3 4) 5
    ∷ not_permitted (at 0 0) (at 0 0) (at 3 4) 4
    -- (-16384,-16384) to (16384,16384) past (16384,-16384): 23,171 yes, 23,170 no
    ∷ permitted (plain (minus 16384) (minus 16384)) (at 16384 16384) (plain (pos 16384) (minus 16384)) 23171
    ∷ not_permitted (plain (minus 16384) (minus 16384)) (at 16384 16384) (plain (pos 16384) (minus 16384)) 23170
    -- (0,0) to (20,2) past (10,2) at 1: yes, since 400 ≤ 404
    ∷ permitted (at 0 0) (at 20 2) (at 10 2) 1
    -- (0,0), (10,2), (20,2), (30,0), one level at 1: samples 1 or 2 serve alike; ranks 1 0 1 1
    ∷ serves tied 1 1
    ∷ serves tied 1 2
    ∷ ranked tied (1 ∷ []) (1 ∷ 0 ∷ 1 ∷ 1 ∷ []) 2
    -- (0,0), (10,1), (20,0), (20,20) at 1 and 10: ranks 2 0 2 2, total 4
    ∷ ranked four (1 ∷ 10 ∷ []) (2 ∷ 0 ∷ 2 ∷ 2 ∷ []) 4
    -- the five samples above: cost (2,0,4) is 4, (3,0,4) is 5, (1,0,4) is 65,535; their ranks and total
    ∷ costs five (1 ∷ 4 ∷ 16 ∷ []) 2 0 4 4
    ∷ costs five (1 ∷ 4 ∷ 16 ∷ []) 3 0 4 5
    ∷ costs five (1 ∷ 4 ∷ 16 ∷ []) 1 0 4 65535
    ∷ ranked five (1 ∷ 4 ∷ 16 ∷ []) (3 ∷ 0 ∷ 1 ∷ 1 ∷ 3 ∷ []) 5
    -- and with the restart marked, as dayline prints them
    ∷ ranked day (1 ∷ 4 ∷ 16 ∷ []) (3 ∷ 0 ∷ 3 ∷ 1 ∷ 3 ∷ []) 7
    -- two samples, m levels: ranks m and m, total m. One sample: read refused, 9
    ∷ two_samples
    ∷ one_sample 9
    -- counters 500, 900, 120, 200: pause line 600
    ∷ paused (500 ∷ 900 ∷ 120 ∷ 200 ∷ []) 600
    ∷ []
