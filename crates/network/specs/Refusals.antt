-- The numbers of the network's refusals. Assumes nothing.
use Rattle.std.specs.Prelude.{ℕ}
use Rattle.network.specs.declared.refusal.NetworkRefusal.{NetworkRefusal}
use Rattle.network.specs.declared.refusal.NetworkRefusal.TheVariants.{LinkEnds, LinkExists, TooManyLinks, NumberOutOfRange, NumbersAfterLink}

-- the number that stands for a refusal
abbrev pub number_of : NetworkRefusal → ℕ
number_of LinkEnds = 11
number_of LinkExists = 12
number_of TooManyLinks = 13
number_of NumberOutOfRange = 14
number_of NumbersAfterLink = 16
