-- The numbers of a book's refusals. Assumes nothing.
use Rattle.std.specs.Prelude.{ℕ}
use Rattle.book.specs.declared.refusal.BookRefusal.{BookRefusal}
use Rattle.book.specs.declared.refusal.BookRefusal.TheVariants.{NoSuchLink, OutOfRange, Covered, Full, NoneBegins}

-- the number that stands for a refusal
abbrev pub number_of : BookRefusal → ℕ
number_of NoSuchLink = 42
number_of OutOfRange = 43
number_of Covered = 72
number_of Full = 73
number_of NoneBegins = 74
