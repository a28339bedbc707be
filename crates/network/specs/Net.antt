-- What a network is. Assumes nothing.
use Rattle.std.specs.Prelude.{◌≡◌, ℕ, ◌-◌, ◌<◌, true, ◌||◌, List, length, ◌==◌, ◌≢◌, slice_index_or}
use Rattle.limits.specs.Ranges.{Within, Cycle, Tick, LinkCount}
use Rattle.network.specs.declared.numbers.Link.{Link}
use Rattle.network.specs.declared.numbers.Numbers.{Numbers}

-- a speed in Mbit/s: 10, 100 or 1000
abbrev pub Speed : ℕ → Type 0
Speed n = (n == 10 || n == 100 || n == 1000) ≡ true

-- each of the five numbers is in its range
pub record InRange (n : Numbers) : Type 0 where
  pub nodes : Within 2 12 n.nodes
  pub speed : Speed n.speed
  pub tick : Tick n.tick
  pub forwarding : Within 0 64 n.forwarding
  pub cycle : Cycle n.cycle

-- a network: its numbers, and its one-way links in the order of adding
pub record Net : Type 0 where
  pub numbers : Numbers
  pub links : List Link

-- the link from a to b
abbrev pub link : ℕ → ℕ → Link
link a b = record { from = a; to = b }

-- the link that was added after k others
abbrev pub nth_link : List Link → ℕ → Link
nth_link ls k = slice_index_or ls k (link 0 0)

-- nodes are numbered from 1
abbrev pub Node : Numbers → ℕ → Type 0
Node numbers n = Within 1 numbers.nodes n

-- two different nodes
pub record Ends (numbers : Numbers) (a b : ℕ) : Type 0 where
  pub from : Node numbers a
  pub to : Node numbers b
  pub apart : a ≡ b → ⊥

-- the link of the number k, counted from 1, leads from a to b
pub record LinkIs (net : Net) (k a b : ℕ) : Type 0 where
  pub numbered : Within 1 (length net.links) k
  pub leads : nth_link net.links (k - 1) ≡ link a b

-- there is a link from a to b
abbrev pub Linked : Net → ℕ → ℕ → Type 0
Linked net a b = (k : ℕ) × LinkIs net k a b

-- what holds of every network: numbers in range, proper ends, no link twice, not too many
pub record Sound (net : Net) : Type 0 where
  pub ranges : InRange net.numbers
  pub ends : (k : ℕ) → k < length net.links → Ends net.numbers (nth_link net.links k).from (nth_link net.links k).to
  pub once : (j k : ℕ) → j < k → k < length net.links → nth_link net.links j ≢ nth_link net.links k
  pub few : LinkCount (length net.links)
