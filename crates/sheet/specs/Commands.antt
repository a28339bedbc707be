-- What a line asks for, and when it is refused. Assumes nothing.
use Rattle.std.specs.Prelude.{◌≡◌, ℕ, true, false, List, [], ◌∷◌, ◌++◌, map, length, ◌≢◌}
use Rattle.limits.specs.Refusals.{Rule}
use Rattle.sheet.specs.Keywords.{spelled, arity_of, belongs_in}
use Rattle.sheet.specs.Lines.{SheetLine, SheetWord, first_word, arguments}
use Rattle.sheet.specs.Numerals.{Numeral, NoNumber}
use Rattle.sheet.specs.declared.command.Command.{Command}
use Rattle.sheet.specs.declared.command.Command.TheVariants.{Net, Link, Ready, Planner}
use Rattle.sheet.specs.declared.command.Fault.{Fault}
use Rattle.sheet.specs.declared.keyword.Keyword.{Keyword}
use Rattle.sheet.specs.declared.keyword.Keyword.TheVariants as words
use Rattle.sheet.specs.declared.keyword.Stage.{Stage}
use Rattle.sheet.specs.declared.keyword.Stage.TheVariants as stages
use Rattle.sheet.specs.declared.refusal.SheetRefusal.TheVariants.{UnknownWord, WordCount, NotANumber, OtherSide}

-- the line begins with the keyword
abbrev pub Begins : SheetLine → Keyword → Type 0
Begins l k = (first_word l).text ≡ spelled k

-- a word that should be a number is none
abbrev pub number_rule : SheetWord → Rule Fault
number_rule w = record { when = NoNumber w.text; give = record { refusal = NotANumber; place = w.place } }

-- the last rule of a line: its keyword belongs at another stage
abbrev pub stage_rule : Stage → SheetLine → Rule Fault
stage_rule s l = record { when = (k : Keyword) × Begins l k × (belongs_in k s ≡ false); give = record { refusal = OtherSide; place = l.place } }

-- when a line is refused at a stage of its sheet, in order; of several words that are no numbers the first counts
abbrev pub line_rules : Stage → SheetLine → List (Rule Fault)
line_rules s l =
    record { when = (k : Keyword) → Begins l k → ⊥; give = record { refusal = UnknownWord; place = l.place } }
    ∷ record { when = (k : Keyword) × Begins l k × (length (arguments l) ≢ arity_of k); give = record { refusal = WordCount; place = l.place } }
    ∷ (map number_rule (arguments l) ++ (stage_rule s l ∷ []))

-- the words are these numbers, in order
abbrev pub Numerals : List SheetWord → List ℕ → Type 0
Numerals [] ns = ns ≡ []
Numerals (w ∷ ws) [] = ⊥
Numerals (w ∷ ws) (n ∷ ns) = Numeral w.text n × Numerals ws ns

-- what a line says: its first word, and numbers after it
abbrev pub Says : SheetLine → Command → Type 0
Says l (Net n) = Begins l words.Net × Numerals (arguments l) (n.nodes ∷ n.speed ∷ n.tick ∷ n.forwarding ∷ n.cycle ∷ [])
Says l (Link a b) = Begins l words.Link × Numerals (arguments l) (a ∷ b ∷ [])
Says l Ready = Begins l words.Ready × (arguments l ≡ [])
Says l (Planner k) = Begins l k × (belongs_in k stages.Closed ≡ true)
