-- Every draft stands for a sound network, and each call keeps it so. Assumes nothing.
use Rattle.std.proofs.Common.{◌≡◌, ℕ, ◌+◌, ◌<◌, ◌≤◌, [], ◌∷◌, ◌++◌, length, sym, ◌∙◌, subst, ⊎_elim, arith}
use mathlib.Core.Bool.{Bool-set}
use mathlib.Core.HLevel.{⊥_prop}
use mathlib.Core.Logic.{∥∥₁_elim}
use native.Mathlib.Bridge.{le_prop}
use Rattle.limits.specs.Ranges.{Within, link_max}
use Rattle.std.proofs.lemmas.List.{length_push, get_or_push, get_or_append_left}
use Rattle.std.proofs.lemmas.Bool.{cases_lt}
use Rattle.network.specs.Net.{Net, Sound, InRange, Ends, Linked, link, nth_link}
use Rattle.network.specs.declared.numbers.Numbers.{Numbers}
use Rattle.network.specs.declared.draft.Draft.{Draft}
use Rattle.network.proofs.Found.{found_at}
use Rattle.network.specs.Views.{drafted}

within_prop : {l h n : ℕ} (a b : Within l h n) → a ≡ b
within_prop a b = λ i. record { least = le_prop a.least b.least i; most = le_prop a.most b.most i }

ends_prop : {n : Numbers} {x y : ℕ} (a b : Ends n x y) → a ≡ b
ends_prop a b = λ i. record { from = within_prop a.from b.from i; to = within_prop a.to b.to i; apart = λ e. ⊥_prop (a.apart e) (b.apart e) i }

ranges_prop : {n : Numbers} (a b : InRange n) → a ≡ b
ranges_prop a b = λ i. record {
  nodes = within_prop a.nodes b.nodes i;
  speed = Bool-set _ _ a.speed b.speed i;
  tick = within_prop a.tick b.tick i;
  forwarding = within_prop a.forwarding b.forwarding i;
  cycle = within_prop a.cycle b.cycle i;
}

-- that a network is sound has one proof at most
pub sound_prop : (net : Net) (a b : Sound net) → a ≡ b
sound_prop net a b = λ i. record {
  ranges = ranges_prop a.ranges b.ranges i;
  ends = λ k h. ends_prop (a.ends k h) (b.ends k h) i;
  once = λ j k h l e. ⊥_prop (a.once j k h l e) (b.once j k h l e) i;
  few = within_prop a.few b.few i;
}

pub sound_of : (d : Draft) → Sound (drafted d)
sound_of d = ∥∥₁_elim d.sound (sound_prop _) (λ s. s)

-- a network with no link and numbers in range
pub sound_bare : (net : Net) → length net.links ≡ 0 → InRange net.numbers → Sound net
sound_bare net none h = record {
  ranges = h;
  ends = λ k l. omega arith;
  once = λ j k l m e. omega arith;
  few = record { least = omega arith; most = omega arith };
}

-- a link more, between different nodes that none joins yet
pub sound_more : (net : Net) (a b : ℕ) → Sound net → Ends net.numbers a b → (Linked net a b → ⊥) → length net.links < link_max → Sound (record { numbers = net.numbers; links = net.links ++ (link a b ∷ []) })
sound_more net a b s e fresh room = record {
  ranges = s.ranges;
  ends = λ k h. ⊎_elim (λ l. subst (λ x. Ends net.numbers x.from x.to) (sym (old k l)) (s.ends k l)) (λ l. subst (λ x. Ends net.numbers x.from x.to) (sym (new k l h)) e) (cases_lt k (length net.links));
  once = λ j k h l q. ⊎_elim (λ m. s.once j k h m (sym (old j (omega arith)) ∙ q ∙ old k m)) (λ m. fresh (j + 1, found_at net a b j (omega (arith, count)) (sym (old j (omega (arith, count))) ∙ q ∙ new k m l))) (cases_lt k (length net.links));
  few = record { least = omega arith; most = omega (arith, count) };
}
  where
    count : length (net.links ++ (link a b ∷ [])) ≡ length net.links + 1
    count = length_push net.links (link a b)

    old : (k : ℕ) → k < length net.links → nth_link (net.links ++ (link a b ∷ [])) k ≡ nth_link net.links k
    old k h = get_or_append_left net.links (link a b ∷ []) (link 0 0) k h

    new : (k : ℕ) → length net.links ≤ k → k < length (net.links ++ (link a b ∷ [])) → nth_link (net.links ++ (link a b ∷ [])) k ≡ link a b
    new k l h = get_or_push net.links (link a b) (link 0 0) k (omega (arith, count))
