-- What each call of the chains answers and leaves. Assumes nothing.
use Rattle.std.specs.Prelude.{◌≡◌, ℕ, ◌-◌, ◌≤◌, List, [], ◌∷◌, length, replicate, Some, None, Ok, Err, Result, slice_set}
use Rattle.limits.specs.Ranges.{Within}
use Rattle.limits.specs.Refusals.{Rule, First}
use Rattle.chains.specs.Records.{Lacks, FirstWith, insert, without, replace, total, row}
use Rattle.chains.specs.declared.slot.ChainRefusal.{ChainRefusal}
use Rattle.chains.specs.declared.slot.ChainRefusal.TheVariants.{NoChain, Present, Absent, Full}

-- what the chains stand for: the records of each, by key, and how many records can stand in all together
pub record Content (R : Type 0) : Type 0 where
  pub rows : List (List R)
  pub room : ℕ

-- the same with other records in one chain
abbrev pub with_row : {R : Type 0} → Content R → ℕ → List R → Content R
with_row m c rs = record { rows = slice_set m.rows (c - 1) rs; room = m.room }

-- there is no chain of that number
abbrev pub chain_rule : {R : Type 0} → Content R → ℕ → Rule ChainRefusal
chain_rule m c = record { when = Within 1 (length m.rows) c → ⊥; give = NoChain }

-- when a call about a record that should be there is refused, in order
abbrev pub find_rules : {R : Type 0} → (R → ℕ) → Content R → ℕ → ℕ → List (Rule ChainRefusal)
find_rules key m c k =
    chain_rule m c
    ∷ record { when = Lacks key k (row m.rows c); give = Absent }
    ∷ []

-- when one more record is refused, in order
abbrev pub insert_rules : {R : Type 0} → (R → ℕ) → Content R → ℕ → ℕ → List (Rule ChainRefusal)
insert_rules key m c k =
    chain_rule m c
    ∷ record { when = Lacks key k (row m.rows c) → ⊥; give = Present }
    ∷ record { when = m.room ≤ total m.rows; give = Full }
    ∷ []

-- the record of a chain that has a key
abbrev pub Finds : {R : Type 0} → (R → ℕ) → Content R → ℕ → ℕ → Result R ChainRefusal → Type 0
Finds key m c k (Ok r) = First (find_rules key m c k) None × FirstWith key k (row m.rows c) r
Finds key m c k (Err e) = First (find_rules key m c k) (Some e)

-- one record more, in the order of the keys
abbrev pub Inserts : {R : Type 0} → (R → ℕ) → Content R → ℕ → R → Result (Unit {0}) ChainRefusal → Content R → Type 0
Inserts key m c r (Ok u) after = First (insert_rules key m c (key r)) None × (after ≡ with_row m c (insert key r (row m.rows c)))
Inserts key m c r (Err e) after = First (insert_rules key m c (key r)) (Some e) × (after ≡ m)

-- one record fewer, and which it was
abbrev pub Removes : {R : Type 0} → (R → ℕ) → Content R → ℕ → ℕ → Result R ChainRefusal → Content R → Type 0
Removes key m c k (Ok r) after = First (find_rules key m c k) None × FirstWith key k (row m.rows c) r × (after ≡ with_row m c (without key k (row m.rows c)))
Removes key m c k (Err e) after = First (find_rules key m c k) (Some e) × (after ≡ m)

-- a record in the place of the one that has its key, and which that was
abbrev pub Replaces : {R : Type 0} → (R → ℕ) → Content R → ℕ → R → Result R ChainRefusal → Content R → Type 0
Replaces key m c r (Ok old) after = First (find_rules key m c (key r)) None × FirstWith key (key r) (row m.rows c) old × (after ≡ with_row m c (replace key r (row m.rows c)))
Replaces key m c r (Err e) after = First (find_rules key m c (key r)) (Some e) × (after ≡ m)

-- n chains with no record, over so many slots, of which the first stays empty
abbrev pub no_records : {R : Type 0} → ℕ → ℕ → Content R
no_records n slots = record { rows = replicate n []; room = slots - 1 }
