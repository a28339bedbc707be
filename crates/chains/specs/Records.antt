-- Chains as lists of records, by a number that each record has as its key. Assumes nothing.
use Rattle.std.specs.Prelude.{◌≡◌, ℕ, zero, suc, ◌+◌, ◌<◌, cond, ◌⊎◌, List, [], ◌∷◌, length, ◌==◌, ◌≢◌, nat_lt, slice_index_or}

-- the record is one of these
abbrev pub In : {R : Type 0} → R → List R → Type 0
In r [] = ⊥
In r (x ∷ xs) = (r ≡ x) ⊎ In r xs

-- none of these has the key k
abbrev pub Lacks : {R : Type 0} → (R → ℕ) → ℕ → List R → Type 0
Lacks key k [] = Unit {0}
Lacks key k (r ∷ rs) = (key r ≢ k) × Lacks key k rs

-- each of these has a key above k
abbrev pub Above : {R : Type 0} → (R → ℕ) → ℕ → List R → Type 0
Above key k [] = Unit {0}
Above key k (r ∷ rs) = (k < key r) × Above key k rs

-- the keys ascend, and so are distinct
abbrev pub Ascends : {R : Type 0} → (R → ℕ) → List R → Type 0
Ascends key [] = Unit {0}
Ascends key (r ∷ rs) = Above key (key r) rs × Ascends key rs

-- the keys of every chain ascend
abbrev pub AllAscend : {R : Type 0} → (R → ℕ) → List (List R) → Type 0
AllAscend key [] = Unit {0}
AllAscend key (rs ∷ rows) = Ascends key rs × AllAscend key rows

-- the first record that has the key k is r
abbrev pub FirstWith : {R : Type 0} → (R → ℕ) → ℕ → List R → R → Type 0
FirstWith key k [] r = ⊥
FirstWith key k (x ∷ xs) r = ((key x ≡ k) × (r ≡ x)) ⊎ ((key x ≢ k) × FirstWith key k xs r)

-- the records with one more, in the order of their keys
abbrev pub insert : {R : Type 0} → (R → ℕ) → R → List R → List R
insert key r [] = r ∷ []
insert key r (x ∷ xs) = cond (nat_lt (key r) (key x)) (r ∷ (x ∷ xs)) (x ∷ insert key r xs)

-- the records without the first that has the key k
abbrev pub without : {R : Type 0} → (R → ℕ) → ℕ → List R → List R
without key k [] = []
without key k (x ∷ xs) = cond (key x == k) xs (x ∷ without key k xs)

-- the records with r in the place of the first that has its key
abbrev pub replace : {R : Type 0} → (R → ℕ) → R → List R → List R
replace key r [] = []
replace key r (x ∷ xs) = cond (key x == key r) (r ∷ xs) (x ∷ replace key r xs)

-- how many records stand in all chains
abbrev pub total : {R : Type 0} → List (List R) → ℕ
total [] = 0
total (rs ∷ rows) = length rs + total rows

-- the records of a chain; chains are numbered from 1
abbrev pub row : {R : Type 0} → List (List R) → ℕ → List R
row rows zero = []
row rows (suc c) = slice_index_or rows c []
