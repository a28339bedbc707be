-- The network that a value of the code stands for. Assumes nothing.
use Rattle.network.specs.Net.{Net}
use Rattle.network.specs.declared.draft.Draft.{Draft}
use Rattle.network.specs.declared.closed.Network.{Network}

-- what a draft has so far
abbrev pub drafted : Draft → Net
drafted d = record { numbers = d.numbers; links = d.links.items }

-- what a closed network has
abbrev pub closed : Network → Net
closed n = drafted n.wiring
