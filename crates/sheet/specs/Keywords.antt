-- The words that a line can begin with. Assumes nothing.
use Rattle.std.specs.Prelude.{◌≡◌, ℕ, Bool, true, false, List, Some, None, codes, Option, ◌≢◌}
use Rattle.sheet.specs.declared.keyword.Keyword.{Keyword}
use Rattle.sheet.specs.declared.keyword.Keyword.TheVariants.{Net, Link, Ready, Flow, Drop, Bar, Lift, Gates, Faults}
use Rattle.sheet.specs.declared.keyword.Stage.{Stage}
use Rattle.sheet.specs.declared.keyword.Stage.TheVariants.{Wiring, Closed}

-- how a keyword is written
abbrev pub spelled : Keyword → List ℕ
spelled Net = codes "NET"
spelled Link = codes "LINK"
spelled Ready = codes "READY"
spelled Flow = codes "FLOW"
spelled Drop = codes "DROP"
spelled Bar = codes "BAR"
spelled Lift = codes "LIFT"
spelled Gates = codes "GATES"
spelled Faults = codes "FAULTS"

-- how many numbers follow a keyword
abbrev pub arity_of : Keyword → ℕ
arity_of Net = 5
arity_of Link = 2
arity_of Ready = 0
arity_of Flow = 7
arity_of Drop = 1
arity_of Bar = 1
arity_of Lift = 1
arity_of Gates = 1
arity_of Faults = 0

-- up to the line that closes the network
abbrev pub while_wiring : Stage → Bool
while_wiring Wiring = true
while_wiring Closed = false

-- after it
abbrev pub once_closed : Stage → Bool
once_closed Wiring = false
once_closed Closed = true

-- at which stages of a sheet a keyword belongs
abbrev pub belongs_in : Keyword → Stage → Bool
belongs_in Net s = while_wiring s
belongs_in Link s = while_wiring s
belongs_in Ready s = while_wiring s
belongs_in Flow s = once_closed s
belongs_in Drop s = once_closed s
belongs_in Bar s = once_closed s
belongs_in Lift s = once_closed s
belongs_in Gates s = once_closed s
belongs_in Faults s = once_closed s

-- the keyword that is written so, or that there is none
abbrev pub Spells : List ℕ → Option Keyword → Type 0
Spells text (Some k) = text ≡ spelled k
Spells text None = (k : Keyword) → text ≢ spelled k
