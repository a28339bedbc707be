-- What lies in lent slots. Assumes nothing.
use Rattle.std.specs.Prelude.{◌≡◌, ℕ, ◌+◌, ◌-◌, List, ◌∷◌, length, Some, None, Ok, Err, Option, Result, slice_index, slice_set}
use Rattle.limits.specs.Ranges.{Within}
use Rattle.limits.specs.Refusals.{First}
use Rattle.chains.specs.Calls.{Content, find_rules, insert_rules}
use Rattle.chains.specs.Places.{Sound, nexts, values, rows_of}
use Rattle.chains.specs.Records.{total}
use Rattle.chains.specs.Steps.{Found, Located, UpTo, relinked, retopped}
use Rattle.chains.specs.declared.board.Board.{Board}
use Rattle.chains.specs.declared.slot.ChainRefusal.{ChainRefusal}
use Rattle.chains.specs.declared.slot.Slot.{Slot}
use Rattle.chains.specs.declared.walk.Walk.{Walk}

-- the slots of a board
abbrev pub slots_of : {R : Type 0} {N : ℕ} → Board R N → List (Slot R)
slots_of b = b.slots.now

-- what a board stands for
abbrev pub stored : {R : Type 0} {N : ℕ} → Board R N → Content R
stored b = record { rows = rows_of b.heads (slots_of b); room = length (slots_of b) - 1 }

-- what holds of the board of n chains
pub record Kept {R : Type 0} {N : ℕ} (n : ℕ) (b : Board R N) : Type 0 where
  pub all : length b.heads ≡ n
  pub sound : Sound (b.spare ∷ b.heads) (nexts (slots_of b))
  pub counted : b.count ≡ total (rows_of b.heads (slots_of b))

-- where a chain begins, or that there is none of that number
abbrev pub Begins : List ℕ → ℕ → Option ℕ → Type 0
Begins heads c (Some p) = Within 1 (length heads) c × (p ≡ slice_index heads (c - 1))
Begins heads c None = Within 1 (length heads) c → ⊥

-- a walk along a chain of the board, or that there is no chain of that number
abbrev pub Walks : {R : Type 0} {N : ℕ} → Board R N → ℕ → Option (Walk R) → Type 0
Walks b c (Some w) = Begins b.heads c (Some w.place) × (w.slots.now ≡ slots_of b)
Walks b c None = Begins b.heads c None

-- where the first record of a chain stands that has the key k, after which place, or why there is none
abbrev pub Seeks : {R : Type 0} {N : ℕ} → (R → ℕ) → Board R N → ℕ → ℕ → Result (ℕ × ℕ) ChainRefusal → Type 0
Seeks key b c k (Ok s) = Within 1 (length b.heads) c × Found key k (nexts (slots_of b)) (values (slots_of b)) (slice_index b.heads (c - 1)) s.0 s.1
Seeks key b c k (Err e) = First (find_rules key (stored b) c k) (Some e)

-- where a record of the key k goes into a chain, after which place and before which, or why it is refused
abbrev pub Seats : {R : Type 0} {N : ℕ} → (R → ℕ) → Board R N → ℕ → ℕ → Result (ℕ × ℕ) ChainRefusal → Type 0
Seats key b c k (Ok s) = Within 1 (length b.heads) c × First (insert_rules key (stored b) c k) None × Located (UpTo k) key (nexts (slots_of b)) (values (slots_of b)) (slice_index b.heads (c - 1)) s.0 s.1
Seats key b c k (Err e) = First (insert_rules key (stored b) c k) (Some e)

-- another slot follows the one at a place; nothing else is changed
pub record Relinked {R : Type 0} {N : ℕ} (b : Board R N) (place next : ℕ) (after : Board R N) : Type 0 where
  pub many : length (slots_of after) ≡ length (slots_of b)
  pub links : nexts (slots_of after) ≡ slice_set (nexts (slots_of b)) place next
  pub items : values (slots_of after) ≡ values (slots_of b)
  pub heads : after.heads ≡ b.heads
  pub spare : after.spare ≡ b.spare
  pub count : after.count ≡ b.count

-- another record stands at a place; nothing else is changed
pub record Rewritten {R : Type 0} {N : ℕ} (b : Board R N) (place : ℕ) (r : R) (after : Board R N) : Type 0 where
  pub many : length (slots_of after) ≡ length (slots_of b)
  pub links : nexts (slots_of after) ≡ nexts (slots_of b)
  pub items : values (slots_of after) ≡ slice_set (values (slots_of b)) place r
  pub heads : after.heads ≡ b.heads
  pub spare : after.spare ≡ b.spare
  pub count : after.count ≡ b.count

-- a place follows the place at of the chain c, or comes first in it; nothing else is changed
pub record Led {R : Type 0} {N : ℕ} (b : Board R N) (c at place : ℕ) (after : Board R N) : Type 0 where
  pub many : length (slots_of after) ≡ length (slots_of b)
  pub links : nexts (slots_of after) ≡ relinked (nexts (slots_of b)) at place
  pub items : values (slots_of after) ≡ values (slots_of b)
  pub heads : after.heads ≡ retopped b.heads c at place
  pub spare : after.spare ≡ b.spare
  pub count : after.count ≡ b.count

-- the first spare slot takes a record and is linked in
pub record Hung {R : Type 0} {N : ℕ} (b : Board R N) (c at next : ℕ) (r : R) (after : Board R N) : Type 0 where
  pub heads : after.heads ≡ retopped b.heads c at b.spare
  pub spare : after.spare ≡ slice_index (nexts (slots_of b)) b.spare
  pub links : nexts (slots_of after) ≡ relinked (slice_set (nexts (slots_of b)) b.spare next) at b.spare
  pub items : values (slots_of after) ≡ slice_set (values (slots_of b)) b.spare r
  pub count : after.count ≡ b.count + 1

-- a slot is linked out and becomes the first spare slot
pub record Unhung {R : Type 0} {N : ℕ} (b : Board R N) (c at place : ℕ) (after : Board R N) : Type 0 where
  pub heads : after.heads ≡ retopped b.heads c at (slice_index (nexts (slots_of b)) place)
  pub spare : after.spare ≡ place
  pub links : nexts (slots_of after) ≡ slice_set (relinked (nexts (slots_of b)) at (slice_index (nexts (slots_of b)) place)) place b.spare
  pub items : values (slots_of after) ≡ values (slots_of b)
  pub count : after.count + 1 ≡ b.count
