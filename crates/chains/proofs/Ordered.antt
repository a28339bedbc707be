-- Records in the order of their keys, and all chains in order. Assumes nothing.
use Rattle.std.proofs.Common.{◌≡◌, ℕ, zero, suc, ◌+◌, ◌-◌, ◌<◌, eqb, ltb, ◌⊎◌, List, [], ◌∷◌, length, get_or, set, replicate, Ok, Err, Result, sym, refl, ap, ◌∙◌, subst, inl, inr, ⊎_elim, arith}
use Rattle.limits.proofs.Once.{none_hold}
use Rattle.std.proofs.lemmas.Bool.{eqb-true, eqb-false, ltb-true, ltb-false, cond_both}
use Rattle.chains.specs.Calls.{Content, insert_rules, Inserts, Removes, Replaces}
use Rattle.chains.specs.Laws.{ChainLaws}
use Rattle.chains.specs.Records.{In, Lacks, Above, Ascends, AllAscend, insert, without, replace, row}
use Rattle.chains.specs.declared.slot.ChainRefusal.{ChainRefusal}

module _ {R : Type 0} (key : R → ℕ) where
  above_in : (k : ℕ) (rs : List R) (r : R) → Above key k rs → In r rs → k < key r
  above_in k [] r h here = absurd here
  above_in k (x ∷ xs) r h (inl e) = subst (λ y. k < key y) (sym e) h.0
  above_in k (x ∷ xs) r h (inr there) = above_in k xs r h.1 there

  distinct : (rs : List R) (r s : R) → Ascends key rs → In r rs → In s rs → key r ≡ key s → r ≡ s
  distinct [] r s h a b e = absurd a
  distinct (x ∷ xs) r s h (inl a) (inl b) e = a ∙ sym b
  distinct (x ∷ xs) r s h (inl a) (inr b) e = absurd (omega (arith, above_in (key x) xs s h.0 b, ap key a))
  distinct (x ∷ xs) r s h (inr a) (inl b) e = absurd (omega (arith, above_in (key x) xs r h.0 a, ap key b))
  distinct (x ∷ xs) r s h (inr a) (inr b) e = distinct xs r s h.1 a b e

  above_insert : (k : ℕ) (r : R) (rs : List R) → k < key r → Above key k rs → Above key k (insert key r rs)
  above_insert k r [] l h = (l, tt)
  above_insert k r (x ∷ xs) l h = cond_both (ltb (key r) (key x)) _ _ (Above key k) (λ e. (l, h)) (λ e. (h.0, above_insert k r xs l h.1))

  above_more : (k l : ℕ) (rs : List R) → l < k → Above key k rs → Above key l rs
  above_more k l [] less h = tt
  above_more k l (x ∷ xs) less h = (omega (arith, h.0), above_more k l xs less h.1)

  insert_ascends : (r : R) (rs : List R) → Ascends key rs → Lacks key (key r) rs → Ascends key (insert key r rs)
  insert_ascends r [] h lacks = (tt, tt)
  insert_ascends r (x ∷ xs) h lacks =
      cond_both (ltb (key r) (key x)) _ _ (Ascends key)
      (λ e. let l = ltb-true (key r) (key x) e in ((l, above_more (key x) (key r) xs l h.0), h))
      (λ e. let other = lacks.0 in (above_insert (key x) r xs (omega (arith, ltb-false (key r) (key x) e)) h.0, insert_ascends r xs h.1 lacks.1))

  above_without : (j k : ℕ) (rs : List R) → Above key j rs → Above key j (without key k rs)
  above_without j k [] h = tt
  above_without j k (x ∷ xs) h = cond_both (eqb (key x) k) _ _ (Above key j) (λ e. h.1) (λ e. (h.0, above_without j k xs h.1))

  without_ascends : (k : ℕ) (rs : List R) → Ascends key rs → Ascends key (without key k rs)
  without_ascends k [] h = tt
  without_ascends k (x ∷ xs) h = cond_both (eqb (key x) k) _ _ (Ascends key) (λ e. h.1) (λ e. (above_without (key x) k xs h.0, without_ascends k xs h.1))

  above_replace : (j : ℕ) (r : R) (rs : List R) → Above key j rs → Above key j (replace key r rs)
  above_replace j r [] h = tt
  above_replace j r (x ∷ xs) h = cond_both (eqb (key x) (key r)) _ _ (Above key j) (λ e. (omega (arith, h.0, eqb-true (key x) (key r) e), h.1)) (λ e. (h.0, above_replace j r xs h.1))

  replace_ascends : (r : R) (rs : List R) → Ascends key rs → Ascends key (replace key r rs)
  replace_ascends r [] h = tt
  replace_ascends r (x ∷ xs) h =
      cond_both (eqb (key x) (key r)) _ _ (Ascends key)
      (λ e. (subst (λ k. Above key k xs) (eqb-true (key x) (key r) e) h.0, h.1))
      (λ e. (above_replace (key x) r xs h.0, replace_ascends r xs h.1))

  insert_adds : (r x : R) (rs : List R) → (In x (insert key r rs) → (x ≡ r) ⊎ In x rs) × ((x ≡ r) ⊎ In x rs → In x (insert key r rs))
  insert_adds r x [] = (λ h. h, λ h. h)
  insert_adds r x (y ∷ ys) =
      let rest = insert_adds r x ys in
      cond_both (ltb (key r) (key y)) _ _ (λ zs. (In x zs → (x ≡ r) ⊎ In x (y ∷ ys)) × ((x ≡ r) ⊎ In x (y ∷ ys) → In x zs))
      (λ e. (λ h. h, λ h. h))
      (λ e. (
        ⊎_elim (λ a. inr (inl a)) (λ b. ⊎_elim (λ a. inl a) (λ c. inr (inr c)) (rest.0 b)),
        ⊎_elim (λ a. inr (rest.1 (inl a))) (⊎_elim (λ a. inl a) (λ c. inr (rest.1 (inr c)))),
      ))

  without_takes : (k : ℕ) (x : R) (rs : List R) → Ascends key rs → (In x (without key k rs) → (key x ≡ k → ⊥) × In x rs) × ((key x ≡ k → ⊥) × In x rs → In x (without key k rs))
  without_takes k x [] h = (λ here. absurd here, λ here. absurd here.1)
  without_takes k x (y ∷ ys) h =
      let rest = without_takes k x ys h.1 in
      cond_both (eqb (key y) k) _ _ (λ zs. (In x zs → (key x ≡ k → ⊥) × In x (y ∷ ys)) × ((key x ≡ k → ⊥) × In x (y ∷ ys) → In x zs))
      (λ e. (
        λ there. (λ same. omega (arith, above_in (key y) ys x h.0 there, eqb-true (key y) k e), inr there),
        λ both. ⊎_elim (λ a. absurd (both.0 (ap key a ∙ eqb-true (key y) k e))) (λ there. there) both.1,
      ))
      (λ e. (
        ⊎_elim (λ a. (λ same. eqb-false (key y) k e (sym (ap key a) ∙ same), inl a)) (λ there. ((rest.0 there).0, inr (rest.0 there).1)),
        λ both. ⊎_elim (λ a. inl a) (λ there. inr (rest.1 (both.0, there))) both.1,
      ))

  insert_counts : (r : R) (rs : List R) → length (insert key r rs) ≡ length rs + 1
  insert_counts r [] = refl
  insert_counts r (x ∷ xs) = cond_both (ltb (key r) (key x)) _ _ (λ ys. length ys ≡ length (x ∷ xs) + 1) (λ e. omega arith) (λ e. omega (arith, insert_counts r xs))

  without_counts : (k : ℕ) (rs : List R) → (Lacks key k rs → ⊥) → length (without key k rs) + 1 ≡ length rs
  without_counts k [] some = absurd (some tt)
  without_counts k (x ∷ xs) some =
      cond_both (eqb (key x) k) _ _ (λ ys. length ys + 1 ≡ length (x ∷ xs)) (λ e. omega arith) (λ e. omega (arith, without_counts k xs (λ lacks. some (eqb-false (key x) k e, lacks))))

  pub chain_laws : ChainLaws key
  chain_laws = record {
    distinct = distinct;
    insert_ascends = insert_ascends;
    without_ascends = without_ascends;
    replace_ascends = replace_ascends;
    insert_adds = insert_adds;
    without_takes = without_takes;
    insert_counts = insert_counts;
    without_counts = without_counts;
  }

  pub none_ascend : (n : ℕ) → AllAscend key (replicate n [])
  none_ascend zero = tt
  none_ascend (suc n) = (tt, none_ascend n)

  ascend_set : (rows : List (List R)) (i : ℕ) (rs : List R) → AllAscend key rows → Ascends key rs → AllAscend key (set rows i rs)
  ascend_set [] i rs h o = tt
  ascend_set (x ∷ xs) zero rs h o = (o, h.1)
  ascend_set (x ∷ xs) (suc i) rs h o = (h.0, ascend_set xs i rs h.1 o)

  ascend_at : (rows : List (List R)) (i : ℕ) → AllAscend key rows → Ascends key (get_or rows i [])
  ascend_at [] i h = tt
  ascend_at (x ∷ xs) zero h = h.0
  ascend_at (x ∷ xs) (suc i) h = ascend_at xs i h.1

  pub ascend_row : (rows : List (List R)) (c : ℕ) → AllAscend key rows → Ascends key (row rows c)
  ascend_row rows zero h = tt
  ascend_row rows (suc c) h = ascend_at rows c h

  lacks_or_not : (k : ℕ) (rs : List R) → ((Lacks key k rs → ⊥) → ⊥) → Lacks key k rs
  lacks_or_not k [] both = tt
  lacks_or_not k (r ∷ rs) both = (λ e. both (λ lacks. lacks.0 e), lacks_or_not k rs (λ present. both (λ lacks. present lacks.1)))

  -- all chains stay in order
  pub inserts_ordered : (m : Content R) (c : ℕ) (r : R) (o : Result (Unit {0}) ChainRefusal) (after : Content R) → Inserts key m c r o after → AllAscend key m.rows → AllAscend key after.rows
  inserts_ordered m c r (Ok u) after i h =
      let (there, (present, (full, end))) = none_hold (insert_rules key m c (key r)) i.0 in
      subst (λ a. AllAscend key a.rows) (sym i.1) (ascend_set m.rows (c - 1) _ h (insert_ascends r (row m.rows c) (ascend_row m.rows c h) (lacks_or_not (key r) (row m.rows c) present)))
  inserts_ordered m c r (Err e) after i h = subst (λ a. AllAscend key a.rows) (sym i.1) h

  pub removes_ordered : (m : Content R) (c k : ℕ) (o : Result R ChainRefusal) (after : Content R) → Removes key m c k o after → AllAscend key m.rows → AllAscend key after.rows
  removes_ordered m c k (Ok r) after i h = subst (λ a. AllAscend key a.rows) (sym i.2) (ascend_set m.rows (c - 1) _ h (without_ascends k (row m.rows c) (ascend_row m.rows c h)))
  removes_ordered m c k (Err e) after i h = subst (λ a. AllAscend key a.rows) (sym i.1) h

  pub replaces_ordered : (m : Content R) (c : ℕ) (r : R) (o : Result R ChainRefusal) (after : Content R) → Replaces key m c r o after → AllAscend key m.rows → AllAscend key after.rows
  replaces_ordered m c r (Ok old) after i h = subst (λ a. AllAscend key a.rows) (sym i.2) (ascend_set m.rows (c - 1) _ h (replace_ascends r (row m.rows c) (ascend_row m.rows c h)))
  replaces_ordered m c r (Err e) after i h = subst (λ a. AllAscend key a.rows) (sym i.1) h
