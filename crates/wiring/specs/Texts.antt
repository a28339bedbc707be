-- The account of a network, as bytes: what each line says, and all lines in order. Assumes nothing.
use Rattle.std.specs.Prelude.{◌≡◌, ℕ, zero, suc, ◌+◌, List, [], ◌∷◌, ◌++◌, Ok, Err, codes, decimal}
use Rattle.limits.specs.Ranges.{frame_min, frame_max, path_link_max}
use Rattle.network.specs.Net.{Net}
use Rattle.network.specs.Times.{FrameTime, latency}
use Rattle.network.specs.declared.numbers.Link.{Link}
use Rattle.network.specs.declared.numbers.Numbers.{Numbers}
use Rattle.network.specs.Views.{closed}
use Rattle.sheet.specs.Wirings.{Outcome, Wires}

-- what ends each line
abbrev pub line_end : List ℕ
line_end = 10 ∷ []

-- a word and a number
abbrev pub number_line : List ℕ → ℕ → List ℕ
number_line word n = word ++ (codes " " ++ (decimal n ++ line_end))

-- the five numbers of a network
abbrev pub number_lines : Numbers → List ℕ
number_lines n =
    number_line (codes "NODES") n.nodes
    ++ (number_line (codes "SPEED") n.speed
    ++ (number_line (codes "TICK") n.tick
    ++ (number_line (codes "FORWARDING") n.forwarding
    ++ number_line (codes "CYCLE") n.cycle)))

-- a link of a number, and its ends
abbrev pub link_line : ℕ → Link → List ℕ
link_line k l = codes "LINK " ++ (decimal k ++ (codes " FROM " ++ (decimal l.from ++ (codes " TO " ++ (decimal l.to ++ line_end)))))

-- links that are numbered from k on
abbrev pub link_lines : ℕ → List Link → List ℕ
link_lines k [] = []
link_lines k (l ∷ ls) = link_line k l ++ link_lines (k + 1) ls

-- the ticks that a frame of so many bytes holds a link
abbrev pub frame_line : ℕ → ℕ → List ℕ
frame_line size d = codes "FRAME " ++ (decimal size ++ (codes " TICKS " ++ (decimal d ++ line_end)))

-- a number of links, and the latencies of such a path with the smallest and with the largest frame
abbrev pub latency_line : ℕ → ℕ → ℕ → List ℕ
latency_line links least most = codes "LINKS " ++ (decimal links ++ (codes " LATENCY " ++ (decimal least ++ (codes " " ++ (decimal most ++ line_end)))))

-- such lines for n numbers of links, the first of them from, with the two frame times
abbrev pub latency_lines : Net → ℕ → ℕ → ℕ → ℕ → List ℕ
latency_lines net small large from zero = []
latency_lines net small large from (suc n) = latency_line from (latency net small from) (latency net large from) ++ latency_lines net small large (from + 1) n

-- all lines in order, with the times of the smallest and of the largest frame
abbrev pub description : Net → ℕ → ℕ → List ℕ
description net small large =
    number_lines net.numbers
    ++ (link_lines 1 net.links
    ++ (frame_line frame_min small
    ++ (frame_line frame_max large
    ++ latency_lines net small large 1 path_link_max)))

-- the text is the account of the network
abbrev pub Describes : Net → List ℕ → Type 0
Describes net text = (small : ℕ) × (large : ℕ) × FrameTime net frame_min small × FrameTime net frame_max large × (text ≡ description net small large)

-- the text comes of the outcome of a wiring: the account of the network, or the refusals
abbrev pub Tells : Outcome → List ℕ → Type 0
Tells (Ok n) text = Describes (closed n) text
Tells (Err refusals) text = text ≡ refusals

-- the text is the account of the network that a sheet wires
abbrev pub WiringAccount : List ℕ → List ℕ → Type 0
WiringAccount sheet text = (outcome : Outcome) × Wires sheet outcome × Tells outcome text
