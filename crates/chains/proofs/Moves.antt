-- A place goes from one chain to another. Assumes nothing.
use Rattle.std.proofs.Common.{◌≡◌, ℕ, zero, suc, ◌+◌, ◌-◌, ◌<◌, ◌≤◌, eqb, ◌⊎◌, List, [], ◌∷◌, ◌++◌, map, length, get_or, set, sym, refl, ap, ◌∙◌, subst, inl, inr, ⊎_elim, arith, length-set, get_or-set_other, get_or-set_same}
use Rattle.std.proofs.lemmas.List.{append_assoc, length-map, get_or-map, ext_get_or}
use Rattle.std.proofs.lemmas.Bool.{cases_eq, eq-eqb, ne_eqb, cond-true, cond-false}
use Rattle.chains.specs.Places.{places, Trail, Sound}
use Rattle.chains.specs.Records.{In, total}
use Rattle.chains.specs.Steps.{Last, relinked, topped}
use Rattle.chains.proofs.Trails.{places_are, in_range, frame, in_after, hang_after, unhang_after, trail_from}

-- other records in one chain
pub total_set : {R : Type 0} (rows : List (List R)) (i : ℕ) (r : List R) → i < length rows → total (set rows i r) + length (get_or rows i []) ≡ total rows + length r
total_set [] i r l = absurd (omega arith)
total_set (x ∷ xs) zero r l = omega arith
total_set (x ∷ xs) (suc i) r l = omega (arith, total_set xs i r (omega arith))

-- no chain has more records than all together
pub total_covers : {R : Type 0} (rows : List (List R)) (i : ℕ) → length (get_or rows i []) ≤ total rows
total_covers [] i = omega arith
total_covers (x ∷ xs) zero = omega arith
total_covers (x ∷ xs) (suc i) = omega (arith, total_covers xs i)

-- one place more after the last of some
pub hang : (nx : List ℕ) (p : ℕ) (before after : List ℕ) (at q next : ℕ) → Trail nx p (before ++ after) → Last before at → Trail nx next after → (In q (before ++ after) → ⊥) → 0 < q → q < length nx
    → Trail (relinked (set nx q next) at q) (topped p at q) (before ++ q ∷ after)
hang nx p before after at q next t (inl l) u off some less =
    let z = eq-eqb at 0 l.1 in
    let here : get_or (set nx q next) q 0 ≡ next = get_or-set_same nx q next 0 less in
    let rest : Trail (set nx q next) next after = frame nx next after q next u (λ h. off (in_after q before after h)) in
    let all : Trail (set nx q next) q (q ∷ after) = (refl, some, omega (arith, length-set nx q next), subst (λ k. Trail (set nx q next) k after) (sym here) rest) in
    subst (λ ys. Trail (relinked (set nx q next) at q) (topped p at q) (ys ++ q ∷ after)) (sym l.0)
    (subst (λ ns. Trail ns (topped p at q) (q ∷ after)) (sym (cond-true (eqb at 0) (set nx q next) _ z))
    (subst (λ k. Trail (set nx q next) k (q ∷ after)) (sym (cond-true (eqb at 0) q p z)) all))
hang nx p before after at q next t (inr (front, l)) u off some less =
    let whole : before ++ after ≡ front ++ at ∷ after = ap (λ ys. ys ++ after) l ∙ append_assoc front (at ∷ []) after in
    let longer : before ++ q ∷ after ≡ front ++ at ∷ (q ∷ after) = ap (λ ys. ys ++ q ∷ after) l ∙ append_assoc front (at ∷ []) (q ∷ after) in
    let t' = subst (Trail nx p) whole t in
    let z = ne_eqb at 0 (λ e. omega (arith, (in_range nx p (front ++ at ∷ after) at t' (in_after at front (at ∷ after) (inl refl))).0)) in
    let all = hang_after nx p front at after q next t' u (λ h. off (subst (In q) (sym whole) h)) some less in
    subst (Trail (relinked (set nx q next) at q) (topped p at q)) (sym longer)
    (subst (λ ns. Trail ns (topped p at q) (front ++ at ∷ (q ∷ after))) (sym (cond-false (eqb at 0) (set nx q next) _ z))
    (subst (λ k. Trail (set (set nx q next) at q) k (front ++ at ∷ (q ∷ after))) (sym (cond-false (eqb at 0) q p z)) all))

-- one place fewer after the last of some
pub unhang : (nx : List ℕ) (p : ℕ) (before after : List ℕ) (at q : ℕ) → Trail nx p (before ++ q ∷ after) → Last before at
    → Trail (relinked nx at (get_or nx q 0)) (topped p at (get_or nx q 0)) (before ++ after)
unhang nx p before after at q t (inl l) =
    let z = eq-eqb at 0 l.1 in
    let all : Trail nx (get_or nx q 0) after = (trail_from nx p before q after t).3 in
    subst (λ ys. Trail (relinked nx at (get_or nx q 0)) (topped p at (get_or nx q 0)) (ys ++ after)) (sym l.0)
    (subst (λ ns. Trail ns (topped p at (get_or nx q 0)) after) (sym (cond-true (eqb at 0) nx _ z))
    (subst (λ k. Trail nx k after) (sym (cond-true (eqb at 0) (get_or nx q 0) p z)) all))
unhang nx p before after at q t (inr (front, l)) =
    let whole : before ++ q ∷ after ≡ front ++ at ∷ (q ∷ after) = ap (λ ys. ys ++ q ∷ after) l ∙ append_assoc front (at ∷ []) (q ∷ after) in
    let shorter : before ++ after ≡ front ++ at ∷ after = ap (λ ys. ys ++ after) l ∙ append_assoc front (at ∷ []) after in
    let t' = subst (Trail nx p) whole t in
    let z = ne_eqb at 0 (λ e. omega (arith, (in_range nx p (front ++ at ∷ (q ∷ after)) at t' (in_after at front (at ∷ (q ∷ after)) (inl refl))).0)) in
    let all = unhang_after nx p front at q after t' in
    subst (Trail (relinked nx at (get_or nx q 0)) (topped p at (get_or nx q 0))) (sym shorter)
    (subst (λ ns. Trail ns (topped p at (get_or nx q 0)) (front ++ at ∷ after)) (sym (cond-false (eqb at 0) nx _ z))
    (subst (λ k. Trail (set nx at (get_or nx q 0)) k (front ++ at ∷ after)) (sym (cond-false (eqb at 0) (get_or nx q 0) p z)) all))

-- the place q goes from chain a to chain b; xs and ys are their places then
pub record Moves (tops nx tops' nx' : List ℕ) (q a b : ℕ) (xs ys : List ℕ) : Type 0 where
  pub tops_kept : length tops' ≡ length tops
  pub nexts_kept : length nx' ≡ length nx
  pub from : Trail nx' (get_or tops' a 0) xs
  pub to : Trail nx' (get_or tops' b 0) ys
  pub others : (k : ℕ) → k < length tops → (k ≡ a → ⊥) → (k ≡ b → ⊥) → Trail nx' (get_or tops' k 0) (places nx (get_or tops k 0))
  pub less : length xs + 1 ≡ length (places nx (get_or tops a 0))
  pub more : length ys ≡ length (places nx (get_or tops b 0)) + 1
  pub gone : (i : ℕ) → In i xs → (i ≡ q → ⊥) × In i (places nx (get_or tops a 0))
  pub come : (i : ℕ) → In i ys → (i ≡ q) ⊎ In i (places nx (get_or tops b 0))
  pub had : In q (places nx (get_or tops a 0))

-- the places of each chain, and that the chains are sound
pub record Moved (tops nx tops' nx' : List ℕ) (a b : ℕ) (xs ys : List ℕ) : Type 0 where
  pub sound : Sound tops' nx'
  pub from : places nx' (get_or tops' a 0) ≡ xs
  pub to : places nx' (get_or tops' b 0) ≡ ys
  pub others : (k : ℕ) → k < length tops → (k ≡ a → ⊥) → (k ≡ b → ⊥) → places nx' (get_or tops' k 0) ≡ places nx (get_or tops k 0)

module _ (tops nx tops' nx' : List ℕ) (q a b : ℕ) (xs ys : List ℕ) (s : Sound tops nx) (here : a < length tops) (there : b < length tops) (apart : a ≡ b → ⊥) (v : Moves tops nx tops' nx' q a b xs ys) where
  all : List (List ℕ)
  all = map (λ p. places nx p) tops

  all_at : (k : ℕ) → k < length tops → get_or all k [] ≡ places nx (get_or tops k 0)
  unfolding all
  all_at k l = get_or-map (λ p. places nx p) tops k 0 [] l

  fits : (k : ℕ) → k < length tops → length (places nx (get_or tops k 0)) < length nx
  unfolding all
  fits k l =
      let q-in = in_range nx (get_or tops a 0) (places nx (get_or tops a 0)) q (s.ends a here) v.had in
      omega (arith, total_covers all k, ap length (all_at k l), s.whole, q-in.1)

  from_is : places nx' (get_or tops' a 0) ≡ xs
  from_is = places_are nx' (get_or tops' a 0) xs v.from (omega (arith, v.less, fits a here, v.nexts_kept))

  to_is : places nx' (get_or tops' b 0) ≡ ys
  to_is = places_are nx' (get_or tops' b 0) ys v.to (omega (arith, v.more, fits b there, v.nexts_kept))

  others_are : (k : ℕ) → k < length tops → (k ≡ a → ⊥) → (k ≡ b → ⊥) → places nx' (get_or tops' k 0) ≡ places nx (get_or tops k 0)
  others_are k l na nb = places_are nx' (get_or tops' k 0) _ (v.others k l na nb) (omega (arith, fits k l, v.nexts_kept))

  ends_then : (k : ℕ) → k < length tops' → Trail nx' (get_or tops' k 0) (places nx' (get_or tops' k 0))
  ends_then k l =
      ⊎_elim
      (λ e. subst (λ j. Trail nx' (get_or tops' j 0) (places nx' (get_or tops' j 0))) (sym e) (subst (Trail nx' (get_or tops' a 0)) (sym from_is) v.from))
      (λ na. ⊎_elim
      (λ e. subst (λ j. Trail nx' (get_or tops' j 0) (places nx' (get_or tops' j 0))) (sym e) (subst (Trail nx' (get_or tops' b 0)) (sym to_is) v.to))
      (λ nb. let k-in : k < length tops = omega (arith, v.tops_kept) in subst (Trail nx' (get_or tops' k 0)) (sym (others_are k k-in na nb)) (v.others k k-in na nb))
      (cases_eq k b))
      (cases_eq k a)

  -- what stands in a chain then, and is not q, stood there before
  came_from : (k i : ℕ) → k < length tops → In i (places nx' (get_or tops' k 0)) → (i ≡ q → ⊥) → In i (places nx (get_or tops k 0))
  came_from k i l w other =
      ⊎_elim
      (λ e. subst (λ j. In i (places nx (get_or tops j 0))) (sym e) (v.gone i (subst (In i) from_is (subst (λ j. In i (places nx' (get_or tops' j 0))) e w))).1)
      (λ na. ⊎_elim
      (λ e. ⊎_elim (λ is-q. absurd (other is-q)) (λ h. subst (λ j. In i (places nx (get_or tops j 0))) (sym e) h) (v.come i (subst (In i) to_is (subst (λ j. In i (places nx' (get_or tops' j 0))) e w))))
      (λ nb. subst (In i) (others_are k l na nb) w)
      (cases_eq k b))
      (cases_eq k a)

  q_stands : (k : ℕ) → k < length tops → In q (places nx' (get_or tops' k 0)) → k ≡ b
  q_stands k l w =
      ⊎_elim
      (λ e. absurd ((v.gone q (subst (In q) from_is (subst (λ j. In q (places nx' (get_or tops' j 0))) e w))).0 refl))
      (λ na. ⊎_elim (λ e. e) (λ nb. absurd (na (s.apart k a q l here (subst (In q) (others_are k l na nb) w) v.had))) (cases_eq k b))
      (cases_eq k a)

  apart_then : (k l i : ℕ) → k < length tops' → l < length tops' → In i (places nx' (get_or tops' k 0)) → In i (places nx' (get_or tops' l 0)) → k ≡ l
  apart_then k l i kl ll wk wl =
      let k-in : k < length tops = omega (arith, v.tops_kept) in
      let l-in : l < length tops = omega (arith, v.tops_kept) in
      ⊎_elim
      (λ e. q_stands k k-in (subst (λ j. In j (places nx' (get_or tops' k 0))) e wk) ∙ sym (q_stands l l-in (subst (λ j. In j (places nx' (get_or tops' l 0))) e wl)))
      (λ other. s.apart k l i k-in l-in (came_from k i k-in wk other) (came_from l i l-in wl other))
      (cases_eq i q)

  all_then : map (λ p. places nx' p) tops' ≡ set (set all a xs) b ys
  unfolding all
  all_then =
      ext_get_or [] (map (λ p. places nx' p) tops') (set (set all a xs) b ys)
      (length-map tops' (λ p. places nx' p) ∙ v.tops_kept ∙ sym (length-set (set all a xs) b ys ∙ length-set all a xs ∙ length-map tops (λ p. places nx p)))
      (λ k l.
      let k-then : k < length tops' = omega (arith, length-map tops' (λ p. places nx' p)) in
      let k-in : k < length tops = omega (arith, v.tops_kept) in
      let n = length-map tops (λ p. places nx p) in
      let m = length-set all a xs in
      get_or-map (λ p. places nx' p) tops' k 0 [] k-then
      ∙ ⊎_elim
      (λ e. subst (λ j. places nx' (get_or tops' j 0) ≡ get_or (set (set all a xs) b ys) j []) (sym e) (to_is ∙ sym (get_or-set_same (set all a xs) b ys [] (omega arith))))
      (λ nb. ⊎_elim
      (λ e. subst (λ j. places nx' (get_or tops' j 0) ≡ get_or (set (set all a xs) b ys) j []) (sym e) (from_is ∙ sym (get_or-set_other (set all a xs) b a ys [] apart ∙ get_or-set_same all a xs [] (omega arith))))
      (λ na. others_are k k-in na nb ∙ sym (get_or-set_other (set all a xs) b k ys [] nb ∙ get_or-set_other all a k xs [] na ∙ all_at k k-in))
      (cases_eq k a))
      (cases_eq k b))

  whole_then : total (map (λ p. places nx' p) tops') ≡ length nx' - 1
  unfolding all
  whole_then =
      let n = length-map tops (λ p. places nx p) in
      let m = length-set all a xs in
      let one = total_set all a xs (omega arith) in
      let two = total_set (set all a xs) b ys (omega arith) in
      let b_then : length (get_or (set all a xs) b []) ≡ length (places nx (get_or tops b 0)) = ap length (get_or-set_other all a b xs [] (λ e. apart (sym e)) ∙ all_at b there) in
      omega (arith, ap total all_then, one, two, b_then, ap length (all_at a here), v.less, v.more, s.whole, v.nexts_kept)

  pub moved : Moved tops nx tops' nx' a b xs ys
  moved = record { sound = record { ends = ends_then; apart = apart_then; whole = whole_then }; from = from_is; to = to_is; others = others_are }
