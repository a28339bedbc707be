-- The network that a sheet wires. Assumes nothing.
use Rattle.std.specs.Prelude.{◌≡◌, ℕ, ◌<◌, ◌≤◌, ◌⊎◌, List, [], ◌∷◌, length, Ok, Err, Result, codes, string_bytes, ◌≢◌}
use Rattle.network.specs.Views.{closed}
use Rattle.network.specs.declared.closed.Network.{Network}
use Rattle.sheet.specs.Keywords.{spelled}
use Rattle.sheet.specs.Lines.{SheetLine, lines}
use Rattle.sheet.specs.Replies.{written}
use Rattle.sheet.specs.Runs.{State, Run, first_state, sheet_max, too_long}
use Rattle.sheet.specs.declared.keyword.Keyword.TheVariants as words
use Rattle.sheet.specs.declared.reply.Reply.{Reply}
use Rattle.sheet.specs.declared.reply.Reply.TheVariants.{Done, Refused}
use Rattle.sheet.specs.declared.wiring.WireError.{WireError}
use Rattle.sheet.specs.declared.wiring.WireError.TheVariants as errors

-- the line is READY and nothing else
abbrev pub IsReady : SheetLine → Type 0
IsReady l = l.text ≡ spelled words.Ready

-- fs are the lines up to the first READY, or all where there is none
abbrev pub UpToReady : List SheetLine → List SheetLine → Type 0
UpToReady [] fs = fs ≡ []
UpToReady (l ∷ ls) [] = ⊥
UpToReady (l ∷ ls) (f ∷ fs) = (f ≡ l) × ((IsReady l × (fs ≡ [])) ⊎ ((IsReady l → ⊥) × UpToReady ls fs))

-- the replies that refuse
abbrev pub only_refused : List Reply → List Reply
only_refused [] = []
only_refused (Done ∷ rs) = only_refused rs
only_refused (Refused e line place ∷ rs) = Refused e line place ∷ only_refused rs

-- the lines of a sheet up to the first READY are answered, which leads to a state and to the text of the refusals
abbrev pub LeadsTo : List ℕ → State → List ℕ → Type 0
LeadsTo sheet s text = (fs : List SheetLine) × (rs : List Reply) × UpToReady (lines sheet) fs × Run first_state fs rs s × (text ≡ written (only_refused rs))

-- what comes of a wiring: the closed network, or the text of the refusals
abbrev pub Outcome : Type 0
Outcome = Result Network (List ℕ)

-- the network of a state where no refusal was written, else what was written
abbrev pub Finishes : List ℕ → State → Outcome → Type 0
Finishes text s (Ok n) = (text ≡ []) × (closed n ≡ s.net)
Finishes text s (Err out) = (text ≢ []) × (out ≡ text)

-- the wiring of a sheet: its lines up to the first READY are answered, and what comes of them is the network or the refusals
pub record Wires (sheet : List ℕ) (outcome : Outcome) : Type 0 where
  pub long : sheet_max < length sheet → Finishes (written (too_long ∷ [])) first_state outcome
  pub short : length sheet ≤ sheet_max
      → (fs : List SheetLine) × (rs : List Reply) × (t : State) × UpToReady (lines sheet) fs × Run first_state fs rs t × Finishes (written (only_refused rs)) t outcome

-- what wiring a sheet answers; of want of memory it says nothing
abbrev pub WireAnswers : List ℕ → Result Network WireError → Type 0
WireAnswers sheet (Ok n) = Wires sheet (Ok n)
WireAnswers sheet (Err (errors.Refused out)) = Wires sheet (Err (string_bytes out))
WireAnswers sheet (Err (errors.OutOfMemory e)) = Unit {0}

-- how the error of a wiring is written
abbrev pub wire_error_text : WireError → List ℕ
wire_error_text (errors.Refused out) = string_bytes out
wire_error_text (errors.OutOfMemory e) = codes "out of memory"
