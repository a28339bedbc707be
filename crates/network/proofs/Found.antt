-- A link that was looked for, by its place and by its number. Assumes nothing.
use Rattle.std.proofs.Common.{◌≡◌, ℕ, ◌+◌, ◌-◌, ◌<◌, ◌≤◌, Bool, true, false, ◌==◌, ◌&&◌, length, position, Some, None, sym, ◌∙◌, subst, ⊎_elim, arith, tests}
use Rattle.std.proofs.lemmas.List.Quantifiers.{position-Some}
use Rattle.std.proofs.lemmas.List.Sums.{fails_before_first}
use Rattle.std.specs.List.{position_or_len}
use Rattle.network.specs.declared.numbers.Link.{Link}
use Rattle.std.proofs.lemmas.Bool.{cases_order}
use Rattle.network.specs.Net.{Net, Sound, LinkIs, link, nth_link}

module _ (net : Net) (a b : ℕ) where
  pub found_at : (k : ℕ) → k < length net.links → nth_link net.links k ≡ link a b → LinkIs net (k + 1) a b
  found_at k h e = record { numbered = record { least = omega arith; most = omega arith }; leads = subst (λ n. nth_link net.links n ≡ link a b) (omega arith) e }

  pub found_once : Sound net → (j k : ℕ) → LinkIs net j a b → LinkIs net k a b → j ≡ k
  found_once s j k x y =
      ⊎_elim (λ e. e)
      (⊎_elim
      (λ l. absurd (s.once (j - 1) (k - 1) (omega arith) (omega arith) (x.leads ∙ sym y.leads)))
      (λ l. absurd (s.once (k - 1) (j - 1) (omega arith) (omega arith) (y.leads ∙ sym x.leads))))
      (cases_order j k)

  -- whether a link is the one that is looked for
  abbrev pub joins : Link → Bool
  joins l = (l.from == a) && (l.to == b)

  joins_is : (l : Link) → joins l ≡ true → l ≡ link a b
  joins_is l h = grind (arith, tests)

  pub found_first : (k : ℕ) → position joins net.links ≡ Some k → LinkIs net (k + 1) a b
  found_first k e = let at = position-Some joins net.links k (link 0 0) e in found_at k at.0 (joins_is _ at.1)

  pub found_none : position joins net.links ≡ None → (k : ℕ) → LinkIs net k a b → ⊥
  found_none e k l =
      let past : length net.links ≤ position_or_len joins net.links = grind arith in
      let fails = fails_before_first joins net.links (k - 1) (link 0 0) (omega (arith, l.numbered.least, l.numbered.most)) in
      let same : joins (link a b) ≡ false = subst (λ x. joins x ≡ false) l.leads fails in
      grind (arith, tests)
