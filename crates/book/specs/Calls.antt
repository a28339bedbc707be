-- What each call of a book answers and leaves. Assumes nothing.
use Rattle.std.specs.Prelude.{◌≡◌, ℕ, ◌<◌, ◌≤◌, Bool, List, [], ◌∷◌, ◌++◌, Some, None, Ok, Err, Decides, Option, Result}
use Rattle.limits.specs.Ranges.{Within}
use Rattle.limits.specs.Refusals.{Rule, First}
use Rattle.book.specs.Meanings.{Meaning, row, total, with_row}
use Rattle.book.specs.Spans.{Span, span, Covers, Free, Stretch, Run, In, NoneBeginsAt, Fits, insert, without}
use Rattle.book.specs.declared.refusal.BookRefusal.{BookRefusal}
use Rattle.book.specs.declared.refusal.BookRefusal.TheVariants.{NoSuchLink, OutOfRange, Covered, Full, NoneBegins}
use Rattle.book.specs.declared.refusal.Holding.{Holding}

-- there is no link of that number
abbrev pub link_rule : Meaning → ℕ → Rule BookRefusal
link_rule m link = record { when = Within 1 m.links link → ⊥; give = NoSuchLink }

-- when a question about a tick of a link is refused, in order
abbrev pub tick_rules : Meaning → ℕ → ℕ → List (Rule BookRefusal)
tick_rules m link tick =
    link_rule m link
    ∷ record { when = m.cycle ≤ tick; give = OutOfRange }
    ∷ []

-- the run question: whether the tick is free, and how many ticks from it on are alike
abbrev pub TellsRun : Meaning → ℕ → ℕ → Result (Bool × ℕ) BookRefusal → Type 0
TellsRun m link tick (Ok p) = First (tick_rules m link tick) None × Decides p.0 (Free m.cycle (row m link) tick) × Run m.cycle (row m link) tick p.1
TellsRun m link tick (Err e) = First (tick_rules m link tick) (Some e)

-- whether the tick is free, and some number of ticks from it on that are alike
abbrev pub TellsStretch : Meaning → ℕ → ℕ → Result (Bool × ℕ) BookRefusal → Type 0
TellsStretch m link tick (Ok p) = First (tick_rules m link tick) None × Decides p.0 (Free m.cycle (row m link) tick) × Stretch m.cycle (row m link) tick p.1
TellsStretch m link tick (Err e) = First (tick_rules m link tick) (Some e)

-- the booking of a row that begins at a tick, or that none does
abbrev pub Holds : List Span → ℕ → Option Holding → Type 0
Holds r tick (Some h) = In (span tick h.ticks h.flow) r
Holds r tick None = NoneBeginsAt r tick

-- the holder question: the booking that begins at the tick
abbrev pub TellsHolder : Meaning → ℕ → ℕ → Result (Option Holding) BookRefusal → Type 0
TellsHolder m link tick (Ok o) = First (tick_rules m link tick) None × Holds (row m link) tick o
TellsHolder m link tick (Err e) = First (tick_rules m link tick) (Some e)

-- some tick of the booking is covered already
abbrev pub Clashes : ℕ → List Span → Span → Type 0
Clashes H r s = (t : ℕ) × (t < H) × Covers H s t × (Free H r t → ⊥)

-- when a booking is refused for its own numbers, in order
abbrev pub span_rules : Meaning → ℕ → Span → List (Rule BookRefusal)
span_rules m link s =
    link_rule m link
    ∷ record { when = Fits m.cycle s → ⊥; give = OutOfRange }
    ∷ []

-- when a booking is refused, in order
abbrev pub book_rules : Meaning → ℕ → Span → List (Rule BookRefusal)
book_rules m link s =
    span_rules m link s
    ++ (record { when = Clashes m.cycle (row m link) s; give = Covered }
    ∷ record { when = m.room ≤ total m.rows; give = Full }
    ∷ [])

-- booking adds one booking
abbrev pub Books : Meaning → ℕ → Span → Result (Unit {0}) BookRefusal → Meaning → Type 0
Books m link s (Ok u) after = First (book_rules m link s) None × (after ≡ with_row m link (insert s (row m link)))
Books m link s (Err e) after = First (book_rules m link s) (Some e) × (after ≡ m)

-- when a release is refused, in order
abbrev pub release_rules : Meaning → ℕ → ℕ → List (Rule BookRefusal)
release_rules m link tick =
    link_rule m link
    ∷ record { when = m.cycle ≤ tick; give = OutOfRange }
    ∷ record { when = NoneBeginsAt (row m link) tick; give = NoneBegins }
    ∷ []

-- release takes the booking away that begins at the tick, and answers how many ticks it lasted
abbrev pub Releases : Meaning → ℕ → ℕ → Result ℕ BookRefusal → Meaning → Type 0
Releases m link tick (Ok n) after = First (release_rules m link tick) None × ((flow : ℕ) × In (span tick n flow) (row m link)) × (after ≡ with_row m link (without tick (row m link)))
Releases m link tick (Err e) after = First (release_rules m link tick) (Some e) × (after ≡ m)
