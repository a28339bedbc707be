-- Which reply each line of a sheet gets. Assumes nothing.
use Rattle.std.specs.Prelude.{◌≡◌, ℕ, ◌<◌, ◌≤◌, List, [], ◌∷◌, length, Some, None, Ok, Err, Result}
use Rattle.limits.specs.Refusals.{First}
use Rattle.network.specs.Calls.{first_net, SetsNumbers, AddsLink}
use Rattle.network.specs.Net as network
use Rattle.network.specs.Views.{drafted, closed}
use Rattle.network.specs.declared.draft.Draft.{Draft}
use Rattle.network.specs.declared.refusal.NetworkRefusal.{NetworkRefusal}
use Rattle.sheet.specs.Commands.{line_rules, Says}
use Rattle.sheet.specs.Lines.{SheetLine, lines}
use Rattle.sheet.specs.Replies.{written}
use Rattle.sheet.specs.declared.state.SheetState.{SheetState}
use Rattle.sheet.specs.declared.state.SheetState.TheVariants as states
use Rattle.sheet.specs.declared.command.Command.{Command}
use Rattle.sheet.specs.declared.command.Command.TheVariants.{Net, Link, Ready, Planner}
use Rattle.sheet.specs.declared.command.Fault.{Fault}
use Rattle.sheet.specs.declared.keyword.Stage.{Stage}
use Rattle.sheet.specs.declared.keyword.Stage.TheVariants as stages
use Rattle.sheet.specs.declared.refusal.Refusal.{Refusal}
use Rattle.sheet.specs.declared.refusal.Refusal.TheVariants.{Sheet, Network, NoPlanner}
use Rattle.sheet.specs.declared.refusal.SheetRefusal.TheVariants.{TooLong}
use Rattle.sheet.specs.declared.reply.Reply.{Reply}
use Rattle.sheet.specs.declared.reply.Reply.TheVariants.{Done, Refused}

-- how far a sheet has come, and its network so far
pub record State : Type 0 where
  pub stage : Stage
  pub net : network.Net

-- where every sheet begins
abbrev pub first_state : State
first_state = record { stage = stages.Wiring; net = first_net }

-- the state of a network that is being wired
abbrev pub wired : Draft → State
wired d = record { stage = stages.Wiring; net = drafted d }

-- the state that a value of the code stands for
abbrev pub state_of : SheetState → State
state_of (states.Wiring d) = wired d
state_of (states.Closed n) = record { stage = stages.Closed; net = closed n }

-- what the network answers, as the outcome of a line
abbrev pub outcome : {T : Type 0} → Result T NetworkRefusal → Result (Unit {0}) Refusal
outcome (Ok x) = Ok tt
outcome (Err e) = Err (Network e)

-- what comes of a line that is read, and the state after it
abbrev pub Executed : State → Command → Result (Unit {0}) Refusal → State → Type 0
Executed s (Net n) o t = (r : Result (Unit {0}) NetworkRefusal) × SetsNumbers s.net n r t.net × (t.stage ≡ s.stage) × (o ≡ outcome r)
Executed s (Link a b) o t = (r : Result ℕ NetworkRefusal) × AddsLink s.net a b r t.net × (t.stage ≡ s.stage) × (o ≡ outcome r)
Executed s Ready o t = (t ≡ record { stage = stages.Closed; net = s.net }) × (o ≡ Ok tt)
Executed s (Planner k) o t = (t ≡ s) × (o ≡ Err NoPlanner)

-- the reply to a line that is read, by its outcome
abbrev pub reply_to : SheetLine → Result (Unit {0}) Refusal → Reply
reply_to l (Ok u) = Done
reply_to l (Err e) = Refused e l.number l.place

-- the line l, in the state s, is answered r, and t is the state after it
pub data Answers (s : State) (l : SheetLine) (r : Reply) (t : State) : Type 0 where
  faulty : (f : Fault) → First (line_rules s.stage l) (Some f) → r ≡ Refused (Sheet f.refusal) l.number f.place → t ≡ s → Answers s l r t
  executed : (c : Command) (o : Result (Unit {0}) Refusal) → First (line_rules s.stage l) None → Says l c → Executed s c o t → r ≡ reply_to l o → Answers s l r t

-- lines that are answered one after the other
abbrev pub Run : State → List SheetLine → List Reply → State → Type 0
Run s [] rs t = (rs ≡ []) × (t ≡ s)
Run s (l ∷ ls) [] t = ⊥
Run s (l ∷ ls) (r ∷ rs) t = (u : State) × Answers s l r u × Run u ls rs t

-- the most bytes of a sheet
abbrev pub sheet_max : ℕ
sheet_max = 32768

-- the one reply to a sheet that is too long
abbrev pub too_long : Reply
too_long = Refused (Sheet TooLong) 0 0

-- the account of a sheet: the replies to its lines, or that it is too long
pub record Account (sheet text : List ℕ) : Type 0 where
  pub long : sheet_max < length sheet → text ≡ written (too_long ∷ [])
  pub short : length sheet ≤ sheet_max → (rs : List Reply) × (t : State) × Run first_state (lines sheet) rs t × (text ≡ written rs)
