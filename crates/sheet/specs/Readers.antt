-- What a reader and a lexer have yet to hand out, and what they hand out. Assumes nothing.
use Rattle.std.specs.Prelude.{ℕ, ◌+◌, List, [], ◌∷◌, Some, None, Option, IfSome}
use Rattle.std.specs.Iterator.{YieldsFirstBy}
use Rattle.sheet.specs.declared.piece.Piece.{Piece}
use Rattle.sheet.specs.declared.line.Line.{Line}
use Rattle.sheet.specs.declared.reader.Reader.{Reader}
use Rattle.sheet.specs.declared.lexer.Lexer.{Lexer}
use Rattle.sheet.specs.declared.token.Token.{Token}
use Rattle.sheet.specs.declared.token.Token.TheVariants.{Word, Number}
use Rattle.sheet.specs.Lines.{SheetLine, SheetWord, lines_from, placed}
use Rattle.sheet.specs.Numerals.{Numeral, NoNumber}
use Rattle.sheet.specs.Pieces.{pieces}

-- the piece that was handed out, as a word
abbrev pub seen : Piece → SheetWord
seen p = record { place = p.place; text = p.bytes.now }

-- what the byte b parts a piece into; no piece has no parts
abbrev pub parts : ℕ → Option Piece → List SheetWord
parts b None = []
parts b (Some p) = placed p.place ((pieces b p.bytes.now).first ∷ (pieces b p.bytes.now).rest)

-- the line that was handed out
abbrev pub seen_line : Line → SheetLine
seen_line l = record { number = l.number; place = l.text.place; text = l.text.bytes.now }

-- the lines of a piece, of which the first has the number n; no piece has no lines
abbrev pub lines_on : ℕ → Option Piece → List SheetLine
lines_on n None = []
lines_on n (Some p) = lines_from n p.place p.bytes.now

-- the lines that a reader has yet to hand out
abbrev pub lines_left : Reader → List SheetLine
lines_left r = lines_on (r.count + 1) r.rest

-- the words that a lexer has yet to hand out
abbrev pub words_left : Lexer → List SheetWord
words_left l = parts 32 l.rest

-- the word that a token was read from
abbrev pub token_word : Token → SheetWord
token_word (Word word) = seen word
token_word (Number word value) = seen word

-- a token tells rightly whether its word is a number, and its value
abbrev pub Told : Token → Type 0
Told (Word word) = NoNumber word.bytes.now
Told (Number word value) = Numeral word.bytes.now value

-- a lexer hands out the first word that is left, told rightly, or nothing where none is left
pub record HandsOut (before : Lexer) (token : Option Token) (after : Lexer) : Type 0 where
  pub next : YieldsFirstBy token_word words_left before token after
  pub told : IfSome token Told
