-- How chains lie in slots: each slot has a record and the place of the next slot, 0 where there is none. Assumes nothing.
use Rattle.std.specs.Prelude.{◌≡◌, ℕ, zero, suc, ◌-◌, ◌<◌, List, [], ◌∷◌, map, length, drop, slice_index}
use Rattle.chains.specs.Records.{In, total}
use Rattle.chains.specs.declared.slot.Slot.{Slot}

-- for each slot the place of the next
abbrev pub nexts : {R : Type 0} → List (Slot R) → List ℕ
nexts slots = map (λ s. s.next) slots

-- for each slot its record
abbrev pub values : {R : Type 0} → List (Slot R) → List R
values slots = map (λ s. s.item) slots

-- the places from p on, at most as many as the first number says
abbrev pub walk : ℕ → List ℕ → ℕ → List ℕ
walk zero nx p = []
walk (suc n) nx zero = []
walk (suc n) nx (suc p) = suc p ∷ walk n nx (slice_index nx (suc p))

-- the places of the chain that begins at p
abbrev pub places : List ℕ → ℕ → List ℕ
places nx p = walk (length nx) nx p

-- the first of these before some others, if there is one
abbrev pub fronted : {R : Type 0} → List R → List R → List R
fronted [] rs = rs
fronted (v ∷ vs) rs = v ∷ rs

-- the records at some places
abbrev pub records : {R : Type 0} → List R → List ℕ → List R
records vs [] = []
records vs (i ∷ is) = fronted (drop i vs) (records vs is)

-- WHAT A CHAIN STANDS FOR: the records from place p on, in order
abbrev pub held_from : {R : Type 0} → List (Slot R) → ℕ → List R
held_from slots p = records (values slots) (places (nexts slots) p)

-- WHAT THE CHAINS STAND FOR: for each chain, by the place where it begins, its records
abbrev pub rows_of : {R : Type 0} → List ℕ → List (Slot R) → List (List R)
rows_of heads slots = map (λ p. held_from slots p) heads

-- the links lead from p through these places and end there
abbrev pub Trail : List ℕ → ℕ → List ℕ → Type 0
Trail nx p [] = p ≡ 0
Trail nx p (i ∷ is) = (p ≡ i) × (0 < i) × (i < length nx) × Trail nx (slice_index nx i) is

-- the chain that begins at p ends
abbrev pub Ends : List ℕ → ℕ → Type 0
Ends nx p = Trail nx p (places nx p)

-- every chain ends, no slot stands in two, and every slot but the first stands in one
pub record Sound (tops nx : List ℕ) : Type 0 where
  pub ends : (k : ℕ) → k < length tops → Ends nx (slice_index tops k)
  pub apart : (k l i : ℕ) → k < length tops → l < length tops → In i (places nx (slice_index tops k)) → In i (places nx (slice_index tops l)) → k ≡ l
  pub whole : total (map (λ p. places nx p) tops) ≡ length nx - 1
