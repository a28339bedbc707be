-- Chains of places: a write off a chain keeps it, a chain passes no place twice, one place more and one fewer. Assumes nothing.
use Rattle.std.proofs.Common.{◌≡◌, ℕ, zero, suc, ◌<◌, ◌≤◌, ◌⊎◌, List, [], ◌∷◌, ◌++◌, length, get_or, set, sym, refl, ap, ◌∙◌, subst, inl, inr, ⊎_elim, arith, length-set, get_or-set_other, get_or-set_same}
use Rattle.chains.specs.Places.{walk, places, Trail}
use Rattle.chains.specs.Records.{In}

-- the walk along a chain gives its places
pub walk_is : (nx : List ℕ) (p : ℕ) (is : List ℕ) (n : ℕ) → Trail nx p is → length is ≤ n → walk n nx p ≡ is
walk_is nx p [] zero t l = refl
walk_is nx p [] (suc n) t l = ap (walk (suc n) nx) t
walk_is nx p (i ∷ is) zero t l = absurd (omega arith)
walk_is nx p (zero ∷ is) (suc n) t l = absurd (omega (arith, t.1))
walk_is nx p (suc i ∷ is) (suc n) t l = ap (walk (suc n) nx) t.0 ∙ ap (λ js. suc i ∷ js) (walk_is nx (get_or nx (suc i) 0) is n t.3 (omega arith))

-- the places of a chain that is no longer than there are slots
pub places_are : (nx : List ℕ) (p : ℕ) (is : List ℕ) → Trail nx p is → length is ≤ length nx → places nx p ≡ is
places_are nx p is t l = walk_is nx p is (length nx) t l

-- a chain from a place is one
pub trail_once : (nx : List ℕ) (p : ℕ) (is js : List ℕ) → Trail nx p is → Trail nx p js → is ≡ js
trail_once nx p [] [] a b = refl
trail_once nx p [] (j ∷ js) a b = absurd (omega (arith, a, b.0, b.1))
trail_once nx p (i ∷ is) [] a b = absurd (omega (arith, b, a.0, a.1))
trail_once nx p (i ∷ is) (j ∷ js) a b =
    let same : i ≡ j = sym a.0 ∙ b.0 in
    let rest = trail_once nx (get_or nx i 0) is js a.3 (subst (λ k. Trail nx (get_or nx k 0) js) (sym same) b.3) in
    λ k. same k ∷ rest k

-- from a place on a chain on, the chain is shorter
rest_from : (nx : List ℕ) (p : ℕ) (is : List ℕ) (i : ℕ) → Trail nx p is → In i is → (js : List ℕ) × Trail nx (get_or nx i 0) js × (length js < length is)
rest_from nx p [] i t here = absurd here
rest_from nx p (j ∷ js) i t (inl e) = (js, subst (λ k. Trail nx (get_or nx k 0) js) (sym e) t.3, omega arith)
rest_from nx p (j ∷ js) i t (inr there) =
    let (ks, trail, less) = rest_from nx (get_or nx j 0) js i t.3 there in
    (ks, trail, omega arith)

-- a chain passes no place twice
pub no_repeat : (nx : List ℕ) (p i : ℕ) (is : List ℕ) → Trail nx p (i ∷ is) → In i is → ⊥
no_repeat nx p i is t there =
    let (js, trail, less) = rest_from nx (get_or nx i 0) is i t.3 there in
    omega (arith, ap length (trail_once nx (get_or nx i 0) is js t.3 trail))

-- a place on a chain is a place
pub in_range : (nx : List ℕ) (p : ℕ) (is : List ℕ) (i : ℕ) → Trail nx p is → In i is → (0 < i) × (i < length nx)
in_range nx p [] i t here = absurd here
in_range nx p (j ∷ js) i t (inl e) = (omega (arith, e, t.1), omega (arith, e, t.2))
in_range nx p (j ∷ js) i t (inr there) = in_range nx (get_or nx j 0) js i t.3 there

-- a write off a chain keeps it
pub frame : (nx : List ℕ) (p : ℕ) (is : List ℕ) (q v : ℕ) → Trail nx p is → (In q is → ⊥) → Trail (set nx q v) p is
frame nx p [] q v t off = t
frame nx p (i ∷ is) q v t off =
    let other : get_or (set nx q v) i 0 ≡ get_or nx i 0 = get_or-set_other nx q i v 0 (λ e. off (inl (sym e))) in
    (t.0, t.1, omega (arith, t.2, length-set nx q v), subst (λ n. Trail (set nx q v) n is) (sym other) (frame nx (get_or nx i 0) is q v t.3 (λ there. off (inr there))))

pub in_before : {A : Type 0} (x : A) (xs ys : List A) → In x xs → In x (xs ++ ys)
in_before x [] ys here = absurd here
in_before x (y ∷ xs) ys (inl e) = inl e
in_before x (y ∷ xs) ys (inr there) = inr (in_before x xs ys there)

pub in_after : {A : Type 0} (x : A) (xs ys : List A) → In x ys → In x (xs ++ ys)
in_after x [] ys here = here
in_after x (y ∷ xs) ys here = inr (in_after x xs ys here)

pub in_either : {A : Type 0} (x : A) (xs ys : List A) → In x (xs ++ ys) → In x xs ⊎ In x ys
in_either x [] ys here = inr here
in_either x (y ∷ xs) ys (inl e) = inl (inl e)
in_either x (y ∷ xs) ys (inr there) = ⊎_elim (λ h. inl (inr h)) (λ h. inr h) (in_either x xs ys there)

-- one place more, after the place a
pub hang_after : (nx : List ℕ) (p : ℕ) (front : List ℕ) (a : ℕ) (after : List ℕ) (q next : ℕ) → Trail nx p (front ++ a ∷ after) → Trail nx next after → (In q (front ++ a ∷ after) → ⊥) → 0 < q → q < length nx
    → Trail (set (set nx q next) a q) p (front ++ a ∷ (q ∷ after))
hang_after nx p [] a after q next t u off some less =
    let n = length-set nx q next in
    let m = length-set (set nx q next) a q in
    let here : get_or (set (set nx q next) a q) a 0 ≡ q = get_or-set_same (set nx q next) a q 0 (omega (arith, t.2)) in
    let apart : q ≡ a → ⊥ = λ e. off (inl e) in
    let there : get_or (set (set nx q next) a q) q 0 ≡ next = get_or-set_other (set nx q next) a q q 0 apart ∙ get_or-set_same nx q next 0 less in
    let rest : Trail (set (set nx q next) a q) next after = frame (set nx q next) next after a q (frame nx next after q next u (λ h. off (inr h))) (λ h. no_repeat nx p a after t h) in
    (t.0, t.1, omega (arith, t.2), subst (λ k. Trail (set (set nx q next) a q) k (q ∷ after)) (sym here) (refl, some, omega arith, subst (λ k. Trail (set (set nx q next) a q) k after) (sym there) rest))
hang_after nx p (i ∷ front) a after q next t u off some less =
    let n = length-set nx q next in
    let m = length-set (set nx q next) a q in
    let apart : i ≡ a → ⊥ = λ e. no_repeat nx p i (front ++ a ∷ after) t (in_after i front (a ∷ after) (inl e)) in
    let same : get_or (set (set nx q next) a q) i 0 ≡ get_or nx i 0 = get_or-set_other (set nx q next) a i q 0 apart ∙ get_or-set_other nx q i next 0 (λ e. off (inl (sym e))) in
    let rest = hang_after nx (get_or nx i 0) front a after q next t.3 u (λ h. off (inr h)) some less in
    (t.0, t.1, omega (arith, t.2), subst (λ k. Trail (set (set nx q next) a q) k (front ++ a ∷ (q ∷ after))) (sym same) rest)

-- one place fewer, after the place a
pub unhang_after : (nx : List ℕ) (p : ℕ) (front : List ℕ) (a q : ℕ) (after : List ℕ) → Trail nx p (front ++ a ∷ (q ∷ after)) → Trail (set nx a (get_or nx q 0)) p (front ++ a ∷ after)
unhang_after nx p [] a q after t =
    let n = length-set nx a (get_or nx q 0) in
    let here : get_or (set nx a (get_or nx q 0)) a 0 ≡ get_or nx q 0 = get_or-set_same nx a (get_or nx q 0) 0 t.2 in
    let rest : Trail (set nx a (get_or nx q 0)) (get_or nx q 0) after = frame nx (get_or nx q 0) after a (get_or nx q 0) t.3.3 (λ h. no_repeat nx p a (q ∷ after) t (inr h)) in
    (t.0, t.1, omega (arith, t.2), subst (λ k. Trail (set nx a (get_or nx q 0)) k after) (sym here) rest)
unhang_after nx p (i ∷ front) a q after t =
    let n = length-set nx a (get_or nx q 0) in
    let apart : i ≡ a → ⊥ = λ e. no_repeat nx p i (front ++ a ∷ (q ∷ after)) t (in_after i front (a ∷ (q ∷ after)) (inl e)) in
    let same : get_or (set nx a (get_or nx q 0)) i 0 ≡ get_or nx i 0 = get_or-set_other nx a i (get_or nx q 0) 0 apart in
    (t.0, t.1, omega (arith, t.2), subst (λ k. Trail (set nx a (get_or nx q 0)) k (front ++ a ∷ after)) (sym same) (unhang_after nx (get_or nx i 0) front a q after t.3))

-- the last part of a chain is a chain
pub trail_from : (nx : List ℕ) (p : ℕ) (before : List ℕ) (q : ℕ) (after : List ℕ) → Trail nx p (before ++ q ∷ after) → Trail nx q (q ∷ after)
trail_from nx p [] q after t = (refl, t.1, t.2, t.3)
trail_from nx p (i ∷ before) q after t = trail_from nx (get_or nx i 0) before q after t.3
