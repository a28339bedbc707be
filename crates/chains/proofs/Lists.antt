-- Records at places, and lists of records by key. Assumes nothing.
use Rattle.std.proofs.Common.{◌≡◌, ℕ, zero, suc, ◌<◌, ◌≤◌, eqb, ltb, List, [], ◌∷◌, ◌++◌, length, get_or, drop, set, sym, refl, ap, ◌∙◌, inl, inr, arith}
use Rattle.std.proofs.lemmas.Bool.{eq-eqb, ne_eqb, lt-ltb, le-ltb, cond-true, cond-false}
use Rattle.std.proofs.lemmas.List.{get_or-map}
use Rattle.chains.specs.Places.{Trail, fronted, nexts, records, values}
use Rattle.chains.specs.declared.slot.Slot.{Slot}
use Rattle.chains.specs.Records.{In, Lacks, FirstWith, insert, without, replace}

pub fronted_append : {R : Type 0} (vs xs ys : List R) → fronted vs (xs ++ ys) ≡ fronted vs xs ++ ys
fronted_append [] xs ys = refl
fronted_append (v ∷ vs) xs ys = refl

pub records_append : {R : Type 0} (vs : List R) (is js : List ℕ) → records vs (is ++ js) ≡ records vs is ++ records vs js
records_append vs [] js = refl
records_append vs (i ∷ is) js = ap (fronted (drop i vs)) (records_append vs is js) ∙ fronted_append (drop i vs) (records vs is) (records vs js)

-- the record at a place
pub fronted_at : {R : Type 0} (vs : List R) (i : ℕ) → i < length vs → (v : R) × ((rs : List R) → fronted (drop i vs) rs ≡ v ∷ rs)
fronted_at [] i l = absurd (omega arith)
fronted_at (v ∷ vs) zero l = (v, λ rs. refl)
fronted_at (v ∷ vs) (suc i) l = fronted_at vs i (omega arith)

pub fronted_set : {R : Type 0} (vs : List R) (i : ℕ) (v : R) (rs : List R) → i < length vs → fronted (drop i (set vs i v)) rs ≡ v ∷ rs
fronted_set [] i v rs l = absurd (omega arith)
fronted_set (x ∷ vs) zero v rs l = refl
fronted_set (x ∷ vs) (suc i) v rs l = fronted_set vs i v rs (omega arith)

fronted_other : {R : Type 0} (vs : List R) (i q : ℕ) (v : R) (rs : List R) → (q ≡ i → ⊥) → fronted (drop i (set vs q v)) rs ≡ fronted (drop i vs) rs
fronted_other [] i q v rs other = refl
fronted_other (x ∷ vs) zero zero v rs other = absurd (other refl)
fronted_other (x ∷ vs) zero (suc q) v rs other = refl
fronted_other (x ∷ vs) (suc i) zero v rs other = refl
fronted_other (x ∷ vs) (suc i) (suc q) v rs other = fronted_other vs i q v rs (λ e. other (ap suc e))

-- a record written off these places leaves what stands there
pub records_other : {R : Type 0} (vs : List R) (is : List ℕ) (q : ℕ) (v : R) → (In q is → ⊥) → records (set vs q v) is ≡ records vs is
records_other vs [] q v off = refl
records_other vs (i ∷ is) q v off =
    fronted_other vs i q v (records (set vs q v) is) (λ e. off (inl e)) ∙ ap (fronted (drop i vs)) (records_other vs is q v (λ h. off (inr h)))

-- a chain has as many records as places
pub records_count : {R : Type 0} (nx : List ℕ) (vs : List R) (p : ℕ) (is : List ℕ) → length vs ≡ length nx → Trail nx p is → length (records vs is) ≡ length is
records_count nx vs p [] same t = refl
records_count nx vs p (i ∷ is) same t =
    let (v, at) = fronted_at vs i (omega (arith, t.2)) in
    ap length (at (records vs is)) ∙ ap suc (records_count nx vs (get_or nx i 0) is same t.3)

-- where a record goes
pub insert_at : {R : Type 0} (key : R → ℕ) (r : R) (xs ys : List R) → ((x : R) → In x xs → key x ≤ key r) → ((y : R) (zs : List R) → ys ≡ y ∷ zs → key r < key y) → insert key r (xs ++ ys) ≡ xs ++ r ∷ ys
insert_at key r [] [] low high = refl
insert_at key r [] (y ∷ ys) low high = cond-true (ltb (key r) (key y)) _ _ (lt-ltb (key r) (key y) (high y ys refl))
insert_at key r (x ∷ xs) ys low high =
    cond-false (ltb (key r) (key x)) _ _ (le-ltb (key r) (key x) (low x (inl refl))) ∙ ap (λ zs. x ∷ zs) (insert_at key r xs ys (λ z h. low z (inr h)) high)

-- the record that is taken away
pub without_at : {R : Type 0} (key : R → ℕ) (k : ℕ) (xs : List R) (y : R) (ys : List R) → Lacks key k xs → key y ≡ k → without key k (xs ++ y ∷ ys) ≡ xs ++ ys
without_at key k [] y ys lacks e = cond-true (eqb (key y) k) _ _ (eq-eqb (key y) k e)
without_at key k (x ∷ xs) y ys lacks e = cond-false (eqb (key x) k) _ _ (ne_eqb (key x) k lacks.0) ∙ ap (λ zs. x ∷ zs) (without_at key k xs y ys lacks.1 e)

-- the record that is changed
pub replace_at : {R : Type 0} (key : R → ℕ) (r : R) (xs : List R) (y : R) (ys : List R) → Lacks key (key r) xs → key y ≡ key r → replace key r (xs ++ y ∷ ys) ≡ xs ++ r ∷ ys
replace_at key r [] y ys lacks e = cond-true (eqb (key y) (key r)) _ _ (eq-eqb (key y) (key r) e)
replace_at key r (x ∷ xs) y ys lacks e = cond-false (eqb (key x) (key r)) _ _ (ne_eqb (key x) (key r) lacks.0) ∙ ap (λ zs. x ∷ zs) (replace_at key r xs y ys lacks.1 e)

-- the record that is found
pub first_at : {R : Type 0} (key : R → ℕ) (k : ℕ) (xs : List R) (y : R) (ys : List R) → Lacks key k xs → key y ≡ k → FirstWith key k (xs ++ y ∷ ys) y
first_at key k [] y ys lacks e = inl (e, refl)
first_at key k (x ∷ xs) y ys lacks e = inr (lacks.0, first_at key k xs y ys lacks.1 e)

-- a record that is found is there
pub first_there : {R : Type 0} (key : R → ℕ) (k : ℕ) (rs : List R) (r : R) → FirstWith key k rs r → Lacks key k rs → ⊥
first_there key k [] r found lacks = found
first_there key k (x ∷ xs) r (inl here) lacks = lacks.0 here.0
first_there key k (x ∷ xs) r (inr there) lacks = first_there key k xs r there.1 lacks.1

-- a slot that is read: its link, and its record
pub link_at : {R : Type 0} (slots : List (Slot R)) (i : ℕ) (d : Slot R) → i < length slots → (get_or slots i d).next ≡ get_or (nexts slots) i 0
link_at slots i d l = sym (get_or-map (λ x. x.next) slots i d 0 l)

pub slot_link : {R : Type 0} (slots : List (Slot R)) (i : ℕ) (s : Slot R) → i < length slots → s ≡ get_or slots i s → s.next ≡ get_or (nexts slots) i 0
slot_link slots i s l is = ap (λ x. x.next) is ∙ link_at slots i s l

pub item_at : {R : Type 0} (slots : List (Slot R)) (i : ℕ) (d : Slot R) → i < length slots → records (values slots) (i ∷ []) ≡ (get_or slots i d).item ∷ []
item_at [] i d l = absurd (omega arith)
item_at (s ∷ slots) zero d l = refl
item_at (s ∷ slots) (suc i) d l = item_at slots i d (omega arith)

pub slot_item : {R : Type 0} (slots : List (Slot R)) (i : ℕ) (s : Slot R) → i < length slots → s ≡ get_or slots i s → records (values slots) (i ∷ []) ≡ s.item ∷ []
slot_item slots i s l is = item_at slots i s l ∙ ap (λ x. x.item ∷ []) (sym is)
