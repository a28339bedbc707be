-- What the steps of a call do to the links. Assumes nothing.
use Rattle.std.specs.Prelude.{◌≡◌, ℕ, ◌+◌, ◌<◌, ◌≤◌, ◌≢◌, Bool, true, false, cond, ◌⊎◌, List, [], ◌∷◌, ◌++◌, Some, None, Option, ◌==◌, nat_lt, slice_set}
use Rattle.chains.specs.Places.{places, records, Trail}
use Rattle.chains.specs.Records.{Lacks}

-- the last of these places is at; 0 says that there is none
abbrev pub Last : List ℕ → ℕ → Type 0
Last before at = ((before ≡ []) × (at ≡ 0)) ⊎ ((front : List ℕ) × (before ≡ front ++ at ∷ []))

-- the links after v has been made to follow the place at
abbrev pub relinked : List ℕ → ℕ → ℕ → List ℕ
relinked nx at v = cond (at == 0) nx (slice_set nx at v)

-- where a chain begins after v has been made to follow the place at, or to come first
abbrev pub topped : ℕ → ℕ → ℕ → ℕ
topped p at v = cond (at == 0) v p

-- where the chains begin after v has been made to follow the place at of the chain c, or to come first in it
abbrev pub retopped : List ℕ → ℕ → ℕ → ℕ → List ℕ
retopped heads c at v = cond (at == 0) (slice_set heads c v) heads

-- the link of slot i among n slots that are all spare: the next slot, or none
abbrev pub blank : ℕ → ℕ → ℕ
blank n i = cond (nat_lt (i + 1) n) (i + 1) 0

-- the lookup passes the keys of each of these
abbrev pub Passed : {R : Type 0} → (ℕ → Bool → Type 0) → (R → ℕ) → List R → Type 0
Passed answers key [] = Unit {0}
Passed answers key (r ∷ rs) = answers (key r) true × Passed answers key rs

-- the lookup does not pass the key of the first of these, if there is one
abbrev pub Stopped : {R : Type 0} → (ℕ → Bool → Type 0) → (R → ℕ) → List R → Type 0
Stopped answers key [] = Unit {0}
Stopped answers key (r ∷ rs) = answers (key r) false

-- a lookup along the chain from p has come to the place next, past those before it, of which at is the last
pub record Reached {R : Type 0} (answers : ℕ → Bool → Type 0) (key : R → ℕ) (nx : List ℕ) (vs : List R) (p at next : ℕ) : Type 0 where
  pub before : List ℕ
  pub after : List ℕ
  pub split : places nx p ≡ before ++ after
  pub last : Last before at
  pub trail : Trail nx next after
  pub passed : Passed answers key (records vs before)

-- where the lookup stops, by what the test of each key answers, or the chain ends
pub record Located {R : Type 0} (answers : ℕ → Bool → Type 0) (key : R → ℕ) (nx : List ℕ) (vs : List R) (p at next : ℕ) : Type 0 where
  pub reached : Reached answers key nx vs p at next
  pub stopped : Stopped answers key (records vs reached.after)

-- what a test answers whether a key is up to k
abbrev pub UpTo : ℕ → ℕ → Bool → Type 0
UpTo k own true = own ≤ k
UpTo k own false = k < own

-- what a test answers whether a key is another than k
abbrev pub Other : ℕ → ℕ → Bool → Type 0
Other k own true = own ≢ k
Other k own false = own ≡ k

-- the first record of the chain from p that has the key k stands at the place next, after the place at
pub record Found {R : Type 0} (key : R → ℕ) (k : ℕ) (nx : List ℕ) (vs : List R) (p at next : ℕ) : Type 0 where
  pub before : List ℕ
  pub after : List ℕ
  pub split : places nx p ≡ before ++ next ∷ after
  pub last : Last before at
  pub lacks : Lacks key k (records vs before)
  pub stands : (r : R) × (records vs (next ∷ []) ≡ r ∷ []) × (key r ≡ k)

-- where that record stands, after which place, or that no record of the chain has the key
abbrev pub FindsPlace : {R : Type 0} → (R → ℕ) → ℕ → List ℕ → List R → ℕ → Option (ℕ × ℕ) → Type 0
FindsPlace key k nx vs p (Some s) = Found key k nx vs p s.0 s.1
FindsPlace key k nx vs p None = Lacks key k (records vs (places nx p))
