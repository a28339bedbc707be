-- What each call of a draft answers and leaves. Assumes nothing.
use Rattle.std.specs.Prelude.{◌≡◌, ℕ, ◌+◌, ◌<◌, ◌≤◌, List, [], ◌∷◌, ◌++◌, length, Some, None, Ok, Err, Option, Result}
use Rattle.limits.specs.Ranges.{link_max, Within}
use Rattle.limits.specs.Refusals.{Rule, First}
use Rattle.network.specs.Net.{Net, InRange, Ends, Linked, LinkIs, link}
use Rattle.network.specs.declared.numbers.Link.{Link}
use Rattle.network.specs.declared.numbers.Numbers.{Numbers}
use Rattle.network.specs.declared.refusal.NetworkRefusal.{NetworkRefusal}
use Rattle.network.specs.declared.refusal.NetworkRefusal.TheVariants.{LinkEnds, LinkExists, TooManyLinks, NumberOutOfRange, NumbersAfterLink}

-- the network that a new draft stands for
abbrev pub first_net : Net
first_net = record { numbers = record { nodes = 2; speed = 100; tick = 1000; forwarding = 1; cycle = 1 }; links = [] }

-- when numbers are refused, in order
abbrev pub numbers_rules : Net → Numbers → List (Rule NetworkRefusal)
numbers_rules net n =
    record { when = 0 < length net.links; give = NumbersAfterLink }
    ∷ record { when = InRange n → ⊥; give = NumberOutOfRange }
    ∷ []

-- setting the numbers
abbrev pub SetsNumbers : Net → Numbers → Result (Unit {0}) NetworkRefusal → Net → Type 0
SetsNumbers net n (Ok u) after = First (numbers_rules net n) None × (after ≡ record { numbers = n; links = net.links })
SetsNumbers net n (Err e) after = First (numbers_rules net n) (Some e) × (after ≡ net)

-- when a link is refused, in order
abbrev pub link_rules : Net → ℕ → ℕ → List (Rule NetworkRefusal)
link_rules net a b =
    record { when = Ends net.numbers a b → ⊥; give = LinkEnds }
    ∷ record { when = Linked net a b; give = LinkExists }
    ∷ record { when = link_max ≤ length net.links; give = TooManyLinks }
    ∷ []

-- adding a link, which answers its number
abbrev pub AddsLink : Net → ℕ → ℕ → Result ℕ NetworkRefusal → Net → Type 0
AddsLink net a b (Ok k) after = First (link_rules net a b) None × (k ≡ length net.links + 1) × (after ≡ record { numbers = net.numbers; links = net.links ++ (link a b ∷ []) })
AddsLink net a b (Err e) after = First (link_rules net a b) (Some e) × (after ≡ net)

-- the ends of the link of a number, or nothing where no link has it
abbrev pub TellsEnds : Net → ℕ → Option Link → Type 0
TellsEnds net k (Some l) = LinkIs net k l.from l.to
TellsEnds net k None = Within 1 (length net.links) k → ⊥

-- the number of the one link between two nodes, or nothing where there is none
abbrev pub TellsNumber : Net → ℕ → ℕ → Option ℕ → Type 0
TellsNumber net a b (Some k) = LinkIs net k a b × ((j : ℕ) → LinkIs net j a b → j ≡ k)
TellsNumber net a b None = Linked net a b → ⊥
