-- Each call of a draft has one answer, and leaves one network. Assumes nothing.
use Rattle.std.proofs.Common.{◌≡◌, ℕ, Some, None, Ok, Err, Result, sym, refl, ◌∙◌}
use borrow.Author.Tests.{clash}
use Rattle.limits.proofs.Once.{first_once}
use Rattle.network.specs.Calls.{numbers_rules, SetsNumbers, link_rules, AddsLink}
use Rattle.network.specs.Net.{Net}
use Rattle.network.specs.declared.numbers.Numbers.{Numbers}
use Rattle.network.specs.declared.refusal.NetworkRefusal.{NetworkRefusal}

-- numbers that are set are answered once, and leave one network
pub sets_once : (net : Net) (n : Numbers) (r q : Result (Unit {0}) NetworkRefusal) (a b : Net) → SetsNumbers net n r a → SetsNumbers net n q b → (r ≡ q) × (a ≡ b)
sets_once net n (Ok u) (Ok v) a b x y = (refl, x.1 ∙ sym y.1)
sets_once net n (Ok u) (Err e) a b x y = absurd (let f = first_once (numbers_rules net n) None (Some e) x.0 y.0 in clash (cc))
sets_once net n (Err e) (Ok u) a b x y = absurd (let f = first_once (numbers_rules net n) (Some e) None x.0 y.0 in clash (cc))
sets_once net n (Err e) (Err d) a b x y = let f = first_once (numbers_rules net n) (Some e) (Some d) x.0 y.0 in (cc, x.1 ∙ sym y.1)

-- a link that is added is answered once, and leaves one network
pub adds_once : (net : Net) (from to : ℕ) (r q : Result ℕ NetworkRefusal) (a b : Net) → AddsLink net from to r a → AddsLink net from to q b → (r ≡ q) × (a ≡ b)
adds_once net from to (Ok j) (Ok k) a b x y = (cc, x.2 ∙ sym y.2)
adds_once net from to (Ok j) (Err e) a b x y = absurd (let f = first_once (link_rules net from to) None (Some e) x.0 y.0 in clash (cc))
adds_once net from to (Err e) (Ok k) a b x y = absurd (let f = first_once (link_rules net from to) (Some e) None x.0 y.0 in clash (cc))
adds_once net from to (Err e) (Err d) a b x y = let f = first_once (link_rules net from to) (Some e) (Some d) x.0 y.0 in (cc, x.1 ∙ sym y.1)
