-- A walk along a chain. Assumes nothing.
use Rattle.std.proofs.Common.{◌≡◌, ℕ, zero, suc, ◌<◌, List, [], ◌∷◌, length, get_or, Some, None, Option, unwrap_or, sym, refl, ap, ◌∙◌, subst, ⊎_elim, arith}
use Rattle.limits.specs.Ranges.{Within}
use Rattle.std.proofs.lemmas.List.{length-map, get_or_past}
use Rattle.std.proofs.lemmas.Bool.{cases_lt}
use Rattle.chains.specs.Boards.{slots_of, Kept, Begins, Walks}
use Rattle.chains.specs.Places.{nexts, values, places, records, held_from, rows_of, Ends, Trail}
use Rattle.chains.specs.Records.{row}
use Rattle.chains.specs.declared.board.Board.{Board}
use Rattle.chains.specs.Views.{left_of}
use Rattle.chains.specs.declared.slot.Slot.{Slot}
use Rattle.chains.specs.declared.walk.Walk.{Walk}
use Rattle.chains.proofs.Lists.{link_at, item_at}
use Rattle.chains.proofs.Outcomes.{places_none, chain_ends, row_is}
use Rattle.chains.proofs.Searches.{starts, records_from, walk_short}
use Rattle.chains.proofs.Trails.{places_are}

pub walk_over : {R : Type 0} (slots : List (Slot R)) (p : ℕ) → p ≡ 0 → held_from slots p ≡ []
walk_over slots p none = ap (held_from slots) none ∙ ap (records (values slots)) (places_none (nexts slots))

module _ {R : Type 0} (slots : List (Slot R)) (p : ℕ) (ends : Ends (nexts slots) p) (some : p ≡ 0 → ⊥) where
  pub walk_below : p < length slots
  walk_below = omega (arith, (starts (nexts slots) p (places (nexts slots) p) ends some).3, length-map slots (λ s. s.next))

  onward : places (nexts slots) p ≡ p ∷ places (nexts slots) (get_or (nexts slots) p 0)
  onward =
      let (js, is, pos, below, t) = starts (nexts slots) p (places (nexts slots) p) ends some in
      is ∙ ap (λ ks. p ∷ ks) (sym (places_are (nexts slots) (get_or (nexts slots) p 0) js t (omega (arith, ap length is, walk_short (length (nexts slots)) (nexts slots) p))))

  pub walk_ends : (d : Slot R) → Ends (nexts slots) (get_or slots p d).next
  walk_ends d = subst (Ends (nexts slots)) (sym (link_at slots p d walk_below)) (subst (Trail (nexts slots) p) onward ends).3

  pub walk_next : (d e : Slot R) → held_from slots p ≡ (get_or slots p e).item ∷ held_from slots (get_or slots p d).next
  walk_next d e =
      ap (records (values slots)) onward
      ∙ records_from (values slots) p (places (nexts slots) (get_or (nexts slots) p 0)) (get_or slots p e).item (item_at slots p e walk_below)
      ∙ ap (λ j. (get_or slots p e).item ∷ held_from slots j) (sym (link_at slots p d walk_below))

-- a walk that is over is one
pub over_ends : {R : Type 0} (slots : List (Slot R)) → Ends (nexts slots) 0
over_ends slots = subst (Trail (nexts slots) 0) (sym (places_none (nexts slots))) refl

-- the chain that a walk begins with ends
pub begun_ends : {R : Type 0} {N : ℕ} (n : ℕ) (b : Board R N) (c p : ℕ) → Kept n b → Begins b.heads c (Some p) → Ends (nexts (slots_of b)) p
begun_ends n b c p kept begins = subst (Ends (nexts (slots_of b))) (sym begins.1) (chain_ends n b kept c begins.0)

row_past : {R : Type 0} (hs : List ℕ) (slots : List (Slot R)) (c : ℕ) → (Within 1 (length hs) c → ⊥) → row (rows_of hs slots) c ≡ []
row_past hs slots zero out = refl
row_past hs slots (suc c) out =
    get_or_past (rows_of hs slots) c [] (⊎_elim (λ less. absurd (out (record { least = omega arith; most = omega arith }))) (λ past. omega (arith, length-map hs (λ p. held_from slots p))) (cases_lt c (length hs)))

-- what a walk along a chain has ahead, or one that is over where there is no such chain
pub begun_row : {R : Type 0} {N : ℕ} (b : Board R N) (c : ℕ) (o : Option (Walk R)) (over : Walk R) → over.place ≡ 0 → Walks b c o → left_of (unwrap_or o over) ≡ row (rows_of b.heads (slots_of b)) c
begun_row b c (Some w) over none walks =
    ap (λ (ss : List (Slot _)). held_from ss w.place) walks.1 ∙ ap (held_from (slots_of b)) walks.0.1 ∙ sym (row_is b.heads (slots_of b) c walks.0.0)
begun_row b c None over none walks = walk_over over.slots.now over.place none ∙ sym (row_past b.heads (slots_of b) c walks)
