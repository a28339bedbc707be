-- Where a byte first stands, there its first piece ends. Assumes nothing.
use Rattle.std.proofs.Common.{◌≡◌, ℕ, zero, suc, eqb, List, [], ◌∷◌, ◌++◌, sym, refl, ap, ◌∙◌, append-nil, arith}
use Rattle.std.specs.List.{AllByRecursion}
use Rattle.std.proofs.lemmas.Bool.{eqb-true, eqb-false, eq-eqb, ne_eqb, cond-true, cond-false, cond_both}
use Rattle.sheet.specs.Pieces.{pieces, Lacks, AllLack, led, rejoined, PiecesRejoin}

module _ (b : ℕ) where
  -- a byte other than b goes before the first piece
  ahead : (x : ℕ) (xs : List ℕ) → (x ≡ b → ⊥) → pieces b (x ∷ xs) ≡ record { first = x ∷ (pieces b xs).first; rest = (pieces b xs).rest }
  ahead x xs other = cond-false (eqb x b) _ _ (ne_eqb x b other)

  -- b ends an empty first piece
  ends : (xs : List ℕ) → pieces b (b ∷ xs) ≡ record { first = []; rest = (pieces b xs).first ∷ (pieces b xs).rest }
  ends xs = cond-true (eqb b b) _ _ (eq-eqb b b refl)

  lacks_rest : (x : ℕ) (xs : List ℕ) → Lacks b (x ∷ xs) → Lacks b xs
  lacks_rest x xs h k l = h (suc k) (omega arith)

  lacks_more : (x : ℕ) (xs : List ℕ) → (x ≡ b → ⊥) → Lacks b xs → Lacks b (x ∷ xs)
  lacks_more x xs other h zero l = other
  lacks_more x xs other h (suc k) l = h k (omega arith)

  -- a text that lacks b goes before the first piece
  in_front : (xs ys : List ℕ) → Lacks b xs → pieces b (xs ++ ys) ≡ record { first = xs ++ (pieces b ys).first; rest = (pieces b ys).rest }
  in_front [] ys h = refl
  in_front (x ∷ xs) ys h = ahead x (xs ++ ys) (h 0 (omega arith)) ∙ ap (λ p. record { first = x ∷ p.first; rest = p.rest }) (in_front xs ys (lacks_rest x xs h))

  -- a text that lacks b, with b after it, is the first piece
  pub first_piece : (xs ys : List ℕ) → Lacks b xs → pieces b (xs ++ b ∷ ys) ≡ record { first = xs; rest = (pieces b ys).first ∷ (pieces b ys).rest }
  first_piece xs ys h = in_front xs (b ∷ ys) h ∙ ap (λ p. record { first = xs ++ p.first; rest = p.rest }) (ends ys) ∙ ap (λ l. record { first = l; rest = (pieces b ys).first ∷ (pieces b ys).rest }) (append-nil xs)

  -- a text that lacks b is its only piece
  pub only_piece : (xs : List ℕ) → Lacks b xs → pieces b xs ≡ record { first = xs; rest = [] }
  only_piece xs h = ap (pieces b) (sym (append-nil xs)) ∙ in_front xs [] h ∙ ap (λ l. record { first = l; rest = [] }) (append-nil xs)

  -- the pieces of joined pieces that lack b
  parted : (t : List ℕ) (ts : List (List ℕ)) → Lacks b t → AllByRecursion (Lacks b) ts → pieces b (t ++ led b ts) ≡ record { first = t; rest = ts }
  parted t [] h hs = ap (pieces b) (append-nil t) ∙ only_piece t h
  parted t (u ∷ us) h hs = first_piece t (u ++ led b us) h ∙ ap (λ p. record { first = t; rest = p.first ∷ p.rest }) (parted u us hs.0 hs.1)

  pub rejoins : (bs : List ℕ) → rejoined b (pieces b bs) ≡ bs
  rejoins [] = refl
  rejoins (x ∷ xs) = cond_both (eqb x b) _ _ (λ p. rejoined b p ≡ x ∷ xs) (λ e. (λ i. sym (eqb-true x b e) i ∷ rejoins xs i)) (λ e. ap (λ l. x ∷ l) (rejoins xs))

  all_lack : (bs : List ℕ) → AllLack b (pieces b bs)
  all_lack [] = (λ k l. absurd (omega arith), tt)
  all_lack (x ∷ xs) = cond_both (eqb x b) _ _ (AllLack b) (λ e. (λ k l. absurd (omega arith), all_lack xs)) (λ e. (lacks_more x (pieces b xs).first (eqb-false x b e) (all_lack xs).0, (all_lack xs).1))

pub pieces_rejoin : PiecesRejoin
pieces_rejoin b bs = (rejoins b bs, all_lack b bs, λ p lack same. sym (parted b p.first p.rest lack.0 lack.1) ∙ ap (pieces b) same)
