-- The layers and numbers of refusals. Assumes nothing.
use Rattle.std.specs.Prelude.{ℕ, List, codes}
use Rattle.network.specs.Refusals as network
use Rattle.sheet.specs.declared.refusal.Layer.{Layer}
use Rattle.sheet.specs.declared.refusal.Layer.TheVariants as layers
use Rattle.sheet.specs.declared.refusal.Refusal.{Refusal}
use Rattle.sheet.specs.declared.refusal.Refusal.TheVariants.{Sheet, Network, NoPlanner}
use Rattle.sheet.specs.declared.refusal.SheetRefusal.{SheetRefusal}
use Rattle.sheet.specs.declared.refusal.SheetRefusal.TheVariants.{UnknownWord, WordCount, NotANumber, OtherSide, TooLong}

-- the number that stands for a refusal of the sheet's own
abbrev pub sheet_number : SheetRefusal → ℕ
sheet_number UnknownWord = 61
sheet_number WordCount = 62
sheet_number NotANumber = 63
sheet_number OtherSide = 64
sheet_number TooLong = 65

-- the number that stands for a refusal
abbrev pub number_of : Refusal → ℕ
number_of (Sheet r) = sheet_number r
number_of (Network r) = network.number_of r
number_of NoPlanner = 15

-- the layer that refuses
abbrev pub layer_of : Refusal → Layer
layer_of (Sheet r) = layers.Sheet
layer_of (Network r) = layers.Network
layer_of NoPlanner = layers.Planner

-- how a layer is written
abbrev pub layer_text : Layer → List ℕ
layer_text layers.Sheet = codes "S"
layer_text layers.Network = codes "N"
layer_text layers.Planner = codes "P"
