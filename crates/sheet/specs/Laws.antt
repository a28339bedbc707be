-- What holds of whole sheets. Assumes nothing.
use Rattle.std.specs.Prelude.{◌≡◌, ℕ, ◌⊎◌, List, [], ◌∷◌, ◌++◌, length, ◌≢◌}
use Rattle.network.specs.Net as network
use Rattle.network.specs.declared.numbers.Link as network_link
use Rattle.sheet.specs.Commands.{Says}
use Rattle.sheet.specs.Lines.{SheetLine, LinesInPlace, WordsInPlace}
use Rattle.sheet.specs.Pieces.{PiecesRejoin}
use Rattle.sheet.specs.Runs.{State, Answers, Run, Account, first_state}
use Rattle.sheet.specs.declared.command.Command.TheVariants.{Link}
use Rattle.sheet.specs.declared.refusal.Refusal.{Refusal}
use Rattle.sheet.specs.declared.reply.Reply.{Reply}
use Rattle.sheet.specs.declared.reply.Reply.TheVariants.{Done, Refused}

-- a reply names no other line than its own
abbrev pub NamesLine : SheetLine → Reply → Type 0
NamesLine l Done = Unit {0}
NamesLine l (Refused e line place) = line ≡ l.number

-- each line in turn has the reply in turn
abbrev pub InTurn : List SheetLine → List Reply → Type 0
InTurn [] rs = rs ≡ []
InTurn (l ∷ ls) [] = ⊥
InTurn (l ∷ ls) (r ∷ rs) = NamesLine l r × InTurn ls rs

-- one reply for each line, in order
abbrev pub OneReplyEach : Type 0
OneReplyEach = (s : State) (ls : List SheetLine) (rs : List Reply) (t : State) → Run s ls rs t → (length rs ≡ length ls) × InTurn ls rs

-- a sheet has one account
abbrev pub OneAccount : Type 0
OneAccount = (sheet a b : List ℕ) → Account sheet a → Account sheet b → a ≡ b

-- the links that the LINK lines answered OK ask for, in order
abbrev pub LinksGranted : List SheetLine → List Reply → List network_link.Link → Type 0
LinksGranted [] rs ks = ks ≡ []
LinksGranted (l ∷ ls) [] ks = ⊥
LinksGranted (l ∷ ls) (r ∷ rs) ks =
    ((a b : ℕ) × (js : List network_link.Link) × Says l (Link a b) × (r ≡ Done) × (ks ≡ network.link a b ∷ js) × LinksGranted ls rs js)
    ⊎ (((a b : ℕ) → Says l (Link a b) → r ≢ Done) × LinksGranted ls rs ks)

-- the links of the network are exactly those of the LINK lines that were answered OK
abbrev pub LinksAreThoseGranted : Type 0
LinksAreThoseGranted = (ls : List SheetLine) (rs : List Reply) (t : State) → Run first_state ls rs t → LinksGranted ls rs t.net.links

-- a line that is refused changes nothing
abbrev pub RefusalChangesNothing : Type 0
RefusalChangesNothing = (s : State) (l : SheetLine) (e : Refusal) (line place : ℕ) (t : State) → Answers s l (Refused e line place) t → t ≡ s

-- without a refused line, every other line is answered as with it
abbrev pub RefusedLineIsNothing : Type 0
RefusedLineIsNothing =
    (s : State) (ls : List SheetLine) (l : SheetLine) (ms : List SheetLine) (rs : List Reply) (e : Refusal) (line place : ℕ) (qs : List Reply) (t : State)
    → length rs ≡ length ls → Run s (ls ++ (l ∷ ms)) (rs ++ (Refused e line place ∷ qs)) t → Run s (ls ++ ms) (rs ++ qs) t

-- all of these
pub record SheetLaws : Type 0 where
  pub pieces_rejoin : PiecesRejoin
  pub lines_in_place : LinesInPlace
  pub words_in_place : WordsInPlace
  pub one_reply_each : OneReplyEach
  pub one_account : OneAccount
  pub links_are_those_granted : LinksAreThoseGranted
  pub refusal_changes_nothing : RefusalChangesNothing
  pub refused_line_is_nothing : RefusedLineIsNothing
