-- What holds of every book, and of what its bookings cover. Assumes nothing.
use Rattle.std.specs.Prelude.{◌≡◌, ℕ, ◌+◌, ◌<◌, Bool, ◌⊎◌, List, Ok, Option, Result}
use Rattle.book.specs.Calls.{TellsRun, TellsHolder, Books, Releases}
use Rattle.book.specs.Meanings.{Meaning, Formed, total}
use Rattle.book.specs.Spans.{Span, Covers, Free, round, Stretch, Run, In, Orderly, insert, without}
use Rattle.book.specs.declared.refusal.BookRefusal.{BookRefusal}
use Rattle.book.specs.declared.refusal.Holding.{Holding}

-- a tick has one run
abbrev pub RunIsOne : Type 0
RunIsOne = (H : ℕ) (ss : List Span) (t k l : ℕ) → Run H ss t k → Run H ss t l → k ≡ l

-- a stretch that begins with a free tick is free
abbrev pub FreeThroughout : Type 0
FreeThroughout = (H : ℕ) (ss : List Span) (t k j : ℕ) → Stretch H ss t k → Free H ss t → j < k → Free H ss (round H t j)

-- a booking more covers exactly its own ticks besides
abbrev pub InsertCoversItsOwn : Type 0
InsertCoversItsOwn = (H : ℕ) (s : Span) (ss : List Span) (t : ℕ) → (Free H (insert s ss) t → (Covers H s t → ⊥) × Free H ss t) × ((Covers H s t → ⊥) × Free H ss t → Free H (insert s ss) t)

-- a booking that is released frees exactly its own ticks
abbrev pub ReleaseFreesItsOwn : Type 0
ReleaseFreesItsOwn = (H : ℕ) (ss : List Span) (s : Span) (t : ℕ) → Orderly H ss → In s ss → t < H → (Free H (without s.start ss) t → Free H ss t ⊎ Covers H s t) × (Free H ss t ⊎ Covers H s t → Free H (without s.start ss) t)

-- booking and release keep what holds of every book, and the count goes up or down by one
abbrev pub StaysFormed : Type 0
StaysFormed =
    ((m : Meaning) (link : ℕ) (s : Span) (after : Meaning) → Formed m → Books m link s (Ok tt) after → Formed after × (total after.rows ≡ total m.rows + 1))
    × ((m : Meaning) (link tick n : ℕ) (after : Meaning) → Formed m → Releases m link tick (Ok n) after → Formed after × (total after.rows + 1 ≡ total m.rows))

-- books of one meaning answer alike, and mean the same after the same call
pub record AnswersAlike : Type 0 where
  pub run : (m : Meaning) (link tick : ℕ) (p q : Result (Bool × ℕ) BookRefusal) → TellsRun m link tick p → TellsRun m link tick q → p ≡ q
  pub holder : (m : Meaning) (link tick : ℕ) (p q : Result (Option Holding) BookRefusal) → Formed m → TellsHolder m link tick p → TellsHolder m link tick q → p ≡ q
  pub book : (m : Meaning) (link : ℕ) (s : Span) (p q : Result (Unit {0}) BookRefusal) (a b : Meaning) → Books m link s p a → Books m link s q b → (p ≡ q) × (a ≡ b)
  pub release : (m : Meaning) (link tick : ℕ) (p q : Result ℕ BookRefusal) (a b : Meaning) → Formed m → Releases m link tick p a → Releases m link tick q b → (p ≡ q) × (a ≡ b)

-- all of these
pub record BookLaws : Type 0 where
  pub run_is_one : RunIsOne
  pub free_throughout : FreeThroughout
  pub insert_covers_its_own : InsertCoversItsOwn
  pub release_frees_its_own : ReleaseFreesItsOwn
  pub stays_formed : StaysFormed
  pub answers_alike : AnswersAlike
