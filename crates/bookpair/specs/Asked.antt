-- What a call of a book as a value answers and leaves. Assumes nothing.
use Rattle.std.specs.Prelude.{◌≡◌, ℕ, Bool, Ok, Err, Decides, Option, Result}
use Rattle.book.specs.Calls.{TellsRun, TellsHolder, Books, Releases}
use Rattle.book.specs.Meanings.{Meaning, total}
use Rattle.book.specs.Spans.{span}
use Rattle.book.specs.declared.refusal.BookRefusal.{BookRefusal}
use Rattle.book.specs.declared.refusal.Holding.{Holding}
use Rattle.bookpair.specs.declared.call.Answer.{Answer}
use Rattle.bookpair.specs.declared.call.Answer.TheVariants.{Runs, Held, Booked, Released}
use Rattle.bookpair.specs.declared.call.Call.{Call}
use Rattle.bookpair.specs.declared.call.Call.TheVariants.{Run, Holder, Book, Release}

-- an answer made of what the book gives, or the book's own refusal
abbrev pub made : {A : Type 0} → (A → Answer) → Result A BookRefusal → Result Answer BookRefusal
made answer (Ok a) = Ok (answer a)
made answer (Err e) = Err e

-- a book that means m answers the call so, and then means what is last; a question leaves it as it was
abbrev pub Answers : Meaning → Call → Result Answer BookRefusal → Meaning → Type 0
Answers m (Run link tick) a after = ((p : Result (Bool × ℕ) BookRefusal) × TellsRun m link tick p × (a ≡ made (λ r. Runs r.0 r.1) p)) × (after ≡ m)
Answers m (Holder link tick) a after = ((p : Result (Option Holding) BookRefusal) × TellsHolder m link tick p × (a ≡ made (λ o. Held o) p)) × (after ≡ m)
Answers m (Book link start ticks flow) a after = (p : Result (Unit {0}) BookRefusal) × Books m link (span start ticks flow) p after × (a ≡ made (λ u. Booked) p)
Answers m (Release link start) a after = (p : Result ℕ BookRefusal) × Releases m link start p after × (a ≡ made (λ n. Released n) p)

-- two books, each by what it means, are asked the same: whether their answers are the same, and how many bookings stand after
pub record Compares (m n : Meaning) (call : Call) (same : Bool) (m' n' : Meaning) : Type 0 where
  pub one : Result Answer BookRefusal
  pub other : Result Answer BookRefusal
  pub left : Answers m call one m'
  pub right : Answers n call other n'
  pub told : Decides same ((one ≡ other) × (total m'.rows ≡ total n'.rows))
