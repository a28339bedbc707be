-- How far a line is read. Assumes nothing.
use Rattle.std.specs.Prelude.{◌≡◌, ℕ, true, List, map, length, take, Some, None, Ok, Err, Result, slice_index, slice_set}
use Rattle.limits.specs.Refusals.{First}
use Rattle.sheet.specs.Commands.{Numerals, Says, line_rules, number_rule}
use Rattle.sheet.specs.Keywords.{belongs_in}
use Rattle.sheet.specs.Lines.{SheetLine, SheetWord}
use Rattle.sheet.specs.declared.command.Command.{Command}
use Rattle.sheet.specs.declared.command.Command.TheVariants.{Net, Link, Ready, Planner}
use Rattle.sheet.specs.declared.command.Fault.{Fault}
use Rattle.sheet.specs.declared.keyword.Keyword.{Keyword}
use Rattle.sheet.specs.declared.keyword.Keyword.TheVariants as words
use Rattle.sheet.specs.declared.keyword.Stage.{Stage}
use Rattle.sheet.specs.declared.refusal.SheetRefusal.TheVariants.{NotANumber}
use Rattle.sheet.specs.declared.token.Token.{Token}
use Rattle.sheet.specs.declared.token.Token.TheVariants.{Word, Number}

-- the numbers that words are, before values that mean nothing, or the fault of the first word that is none
abbrev pub NumbersOf : List SheetWord → Result (List ℕ) Fault → Type 0
NumbersOf ws (Ok vs) = Numerals ws (take (length ws) vs)
NumbersOf ws (Err f) = First (map number_rule ws) (Some f)

-- what is known of words with one token more, at an index
abbrev pub noted : Result (List ℕ) Fault → ℕ → Token → Result (List ℕ) Fault
noted (Ok vs) k (Number word value) = Ok (slice_set vs k value)
noted (Ok vs) k (Word word) = Err (record { refusal = NotANumber; place = word.place })
noted (Err f) k t = Err f

-- the command of a keyword and the numbers after it
abbrev pub command_of : Keyword → List ℕ → Command
command_of words.Net vs = Net (record { nodes = slice_index vs 0; speed = slice_index vs 1; tick = slice_index vs 2; forwarding = slice_index vs 3; cycle = slice_index vs 4 })
command_of words.Link vs = Link (slice_index vs 0) (slice_index vs 1)
command_of words.Ready vs = Ready
command_of words.Flow vs = Planner words.Flow
command_of words.Drop vs = Planner words.Drop
command_of words.Bar vs = Planner words.Bar
command_of words.Lift vs = Planner words.Lift
command_of words.Gates vs = Planner words.Gates
command_of words.Faults vs = Planner words.Faults

-- the keyword of a command
abbrev pub keyword_of : Command → Keyword
keyword_of (Net n) = words.Net
keyword_of (Link a b) = words.Link
keyword_of Ready = words.Ready
keyword_of (Planner k) = k

-- a line is read at a stage of its sheet: what it says, or the fault that counts
abbrev pub Reads : Stage → SheetLine → Result Command Fault → Type 0
Reads s l (Ok c) = First (line_rules s l) None × Says l c × (belongs_in (keyword_of c) s ≡ true)
Reads s l (Err f) = First (line_rules s l) (Some f)
