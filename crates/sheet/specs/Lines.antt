-- The lines of a sheet and the words of a line. Assumes nothing.
use Rattle.std.specs.Prelude.{◌≡◌, ℕ, ◌+◌, ◌-◌, ◌<◌, ◌≤◌, List, [], ◌∷◌, length, take, drop, slice_index_or}
use Rattle.sheet.specs.Pieces.{pieces}

-- a line: its number, counted from 1; the offset of its first byte in the sheet; its bytes
pub record SheetLine : Type 0 where
  pub number : ℕ
  pub place : ℕ
  pub text : List ℕ

-- a word: the offset of its first byte in the sheet; its bytes
pub record SheetWord : Type 0 where
  pub place : ℕ
  pub text : List ℕ

-- the last piece as a line, unless it is empty
abbrev pub unless_empty : List ℕ → List (List ℕ)
unless_empty [] = []
unless_empty (x ∷ xs) = (x ∷ xs) ∷ []

-- the pieces that are lines: all but a last empty one
abbrev pub ended : List ℕ → List (List ℕ) → List (List ℕ)
ended t [] = unless_empty t
ended t (u ∷ us) = t ∷ ended u us

-- texts numbered and placed one after the other
abbrev pub numbered : ℕ → ℕ → List (List ℕ) → List SheetLine
numbered n p [] = []
numbered n p (t ∷ ts) = record { number = n; place = p; text = t } ∷ numbered (n + 1) (p + length t + 1) ts

-- the lines of bytes that begin at the place p, the first of which has the number n
abbrev pub lines_from : ℕ → ℕ → List ℕ → List SheetLine
lines_from n p bs = numbered n p (ended (pieces 10 bs).first (pieces 10 bs).rest)

-- the lines of a sheet
abbrev pub lines : List ℕ → List SheetLine
lines bs = lines_from 1 0 bs

-- texts placed one after the other
abbrev pub placed : ℕ → List (List ℕ) → List SheetWord
placed p [] = []
placed p (t ∷ ts) = record { place = p; text = t } ∷ placed (p + length t + 1) ts

-- the words of a text that begins at a place
abbrev pub words_from : ℕ → List ℕ → List SheetWord
words_from p bs = placed p ((pieces 32 bs).first ∷ (pieces 32 bs).rest)

-- the first word of a line
abbrev pub first_word : SheetLine → SheetWord
first_word l = record { place = l.place; text = (pieces 32 l.text).first }

-- the words of a line after the first
abbrev pub arguments : SheetLine → List SheetWord
arguments l = placed (l.place + length (pieces 32 l.text).first + 1) (pieces 32 l.text).rest

-- the text t stands in bs at the offset o
pub record Stands (bs : List ℕ) (o : ℕ) (t : List ℕ) : Type 0 where
  pub inside : o + length t ≤ length bs
  pub text : t ≡ take (length t) (drop o bs)

-- each line of a sheet is numbered from 1 and stands in the sheet at its place
abbrev pub LinesInPlace : Type 0
LinesInPlace = (bs : List ℕ) (k : ℕ) (d : SheetLine) → k < length (lines bs) → ((slice_index_or (lines bs) k d).number ≡ k + 1) × Stands bs (slice_index_or (lines bs) k d).place (slice_index_or (lines bs) k d).text

-- each word of a text that begins at the place p stands in the text, at its place counted from p
abbrev pub WordsInPlace : Type 0
WordsInPlace = (p : ℕ) (bs : List ℕ) (k : ℕ) (d : SheetWord) → k < length (words_from p bs) → (p ≤ (slice_index_or (words_from p bs) k d).place) × Stands bs ((slice_index_or (words_from p bs) k d).place - p) (slice_index_or (words_from p bs) k d).text
