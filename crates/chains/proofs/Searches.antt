-- A search along a chain, place by place. Assumes nothing.
use Rattle.std.proofs.Common.{◌≡◌, ℕ, zero, suc, ◌<◌, ◌≤◌, Bool, true, false, List, [], ◌∷◌, ◌++◌, length, get_or, drop, sym, refl, ap, ◌∙◌, subst, inr, suc-le-suc, zero-le, arith}
use Rattle.std.proofs.lemmas.List.{append_assoc, length-append, length-map}
use Rattle.chains.specs.Places.{walk, nexts, values, places, fronted, records, Trail}
use Rattle.chains.specs.Steps.{Passed, Stopped, Reached, Located}
use Rattle.chains.specs.declared.slot.Slot.{Slot}
use Rattle.chains.proofs.Lists.{records_append, slot_link, slot_item}
use Rattle.chains.proofs.Trails.{places_are}

-- a walk is no longer than its bound
pub walk_short : (n : ℕ) (nx : List ℕ) (p : ℕ) → length (walk n nx p) ≤ n
walk_short zero nx p = zero-le
walk_short (suc n) nx zero = zero-le
walk_short (suc n) nx (suc p) = suc-le-suc (walk_short n nx (get_or nx (suc p) 0))

-- a chain that begins at a place begins with it
pub starts : (nx : List ℕ) (p : ℕ) (is : List ℕ) → Trail nx p is → (p ≡ 0 → ⊥) → (js : List ℕ) × (is ≡ p ∷ js) × (0 < p) × (p < length nx) × Trail nx (get_or nx p 0) js
starts nx p [] t some = absurd (some t)
starts nx p (i ∷ is) t some = (is, ap (λ j. j ∷ is) (sym t.0), omega (arith, t.0, t.1), omega (arith, t.0, t.2), subst (λ j. Trail nx (get_or nx j 0) is) (sym t.0) t.3)

pub ended : (nx : List ℕ) (p : ℕ) (is : List ℕ) → Trail nx p is → p ≡ 0 → is ≡ []
ended nx p [] t none = refl
ended nx p (i ∷ is) t none = absurd (omega (arith, t.0, t.1))

-- the records from a place on, by the record at the place
pub records_from : {R : Type 0} (vs : List R) (i : ℕ) (is : List ℕ) (r : R) → records vs (i ∷ []) ≡ r ∷ [] → records vs (i ∷ is) ≡ r ∷ records vs is
records_from vs i is r e =
    elim (drop i vs) as (λ ws. fronted ws [] ≡ r ∷ [] → fronted ws (records vs is) ≡ r ∷ records vs is)
    [ [] ↦ (λ f. absurd (let n = ap length f in omega arith)) | (w ∷ ws) ↦ (λ f. cc) ] e

passed_more : {R : Type 0} (answers : ℕ → Bool → Type 0) (key : R → ℕ) (xs : List R) (r : R) → Passed answers key xs → answers (key r) true → Passed answers key (xs ++ r ∷ [])
passed_more answers key [] r all one = (one, tt)
passed_more answers key (x ∷ xs) r all one = (all.0, passed_more answers key xs r all.1 one)

module _ {R : Type 0} {answers : ℕ → Bool → Type 0} {key : R → ℕ} {nx : List ℕ} {vs : List R} {p at next : ℕ} (s : Reached answers key nx vs p at next) where
  short : length s.after ≤ length nx
  short = omega (arith, ap length s.split, length-append s.before s.after, walk_short (length nx) nx p)

  pub reached_end : next ≡ 0 → Located answers key nx vs p at next
  reached_end none = record { reached = s; stopped = subst (λ zs. Stopped answers key (records vs zs)) (sym (ended nx next s.after s.trail none)) tt }

-- at a place with a slot
module _ {R : Type 0} {answers : ℕ → Bool → Type 0} {key : R → ℕ} (slots : List (Slot R)) {p at next : ℕ} (s : Reached answers key (nexts slots) (values slots) p at next) (some : next ≡ 0 → ⊥) where
  pub reached_below : next < length slots
  reached_below = omega (arith, (starts (nexts slots) next s.after s.trail some).3, length-map slots (λ x. x.next))

  module _ (slot : Slot R) (is : slot ≡ get_or slots next slot) where
    pub reached_less : length (places (nexts slots) slot.next) < length (places (nexts slots) next)
    reached_less =
        let (js, starting, pos, below, t) = starts (nexts slots) next s.after s.trail some in
        let n = short s in
        let e = ap length starting in
        subst (λ q. length (places (nexts slots) q) < length (places (nexts slots) next)) (sym (slot_link slots next slot reached_below is))
        (omega (arith, ap length (places_are (nexts slots) next s.after s.trail n), ap length (places_are (nexts slots) (get_or (nexts slots) next 0) js t (omega arith))))

    module _ (own : ℕ) (key_is : own ≡ key slot.item) where
      pub reached_next : answers own true → Reached answers key (nexts slots) (values slots) p next slot.next
      reached_next pass =
          let (js, starting, pos, below, t) = starts (nexts slots) next s.after s.trail some in
          let here = slot_item slots next slot reached_below is in
          record {
            before = s.before ++ next ∷ [];
            after = js;
            split = s.split ∙ ap (λ zs. s.before ++ zs) starting ∙ sym (append_assoc s.before (next ∷ []) js);
            last = inr (s.before, refl);
            trail = subst (λ q. Trail (nexts slots) q js) (sym (slot_link slots next slot reached_below is)) t;
            passed = subst (Passed answers key) (sym (records_append (values slots) s.before (next ∷ []) ∙ ap (λ zs. records (values slots) s.before ++ zs) here))
                (passed_more answers key (records (values slots) s.before) slot.item s.passed (subst (λ n. answers n true) key_is pass));
          }

      pub reached_stop : answers own false → Located answers key (nexts slots) (values slots) p at next
      reached_stop fails =
          let (js, starting, pos, below, t) = starts (nexts slots) next s.after s.trail some in
          let here = slot_item slots next slot reached_below is in
          record { reached = s; stopped = subst (Stopped answers key) (sym (ap (records (values slots)) starting ∙ records_from (values slots) next js slot.item here)) (subst (λ n. answers n false) key_is fails) }
