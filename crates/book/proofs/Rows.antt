-- The bookings of one link: one more, one fewer. Assumes nothing.
use Rattle.std.proofs.Common.{◌≡◌, ℕ, ◌+◌, ◌-◌, ◌%◌, ◌<◌, eqb, ltb, ◌⊎◌, List, [], ◌∷◌, length, sym, refl, ap, ◌∙◌, subst, inl, inr, ⊎_elim, arith}
use native.Mathlib.Nat.{mod_self}
use Rattle.std.proofs.lemmas.Bool.{cases_lt, cases_order, ltb-true, ltb-false, eqb-false, eq-eqb, ne_eqb, cond_both, cond-true, cond-false}
use Rattle.book.specs.Calls.{Clashes}
use Rattle.book.specs.Laws.{RunIsOne, FreeThroughout, InsertCoversItsOwn, ReleaseFreesItsOwn}
use Rattle.book.specs.Spans.{Span, Covers, Free, In, NoneBeginsAt, Later, Fits, Orderly, insert, without}

-- a tick has one run
pub run_is_one : RunIsOne
run_is_one H ss t k l a b = ⊎_elim (λ e. e) (⊎_elim (λ h. absurd (a.ends (omega (arith, b.most)) (b.stretch.alike k h))) (λ h. absurd (b.ends (omega (arith, a.most)) (a.stretch.alike l h)))) (cases_order k l)

-- a stretch that begins with a free tick is free
pub free_throughout : FreeThroughout
free_throughout H ss t k j s free h = (s.alike j h).onward free

-- whether a tick is free is decided
pub free_or_not : (H : ℕ) (ss : List Span) (t : ℕ) → Free H ss t ⊎ (Free H ss t → ⊥)
free_or_not H [] t = inl tt
free_or_not H (s ∷ ss) t =
    ⊎_elim
    (λ covers. inr (λ free. free.0 covers))
    (λ past. ⊎_elim (λ free. inl (λ covers. omega arith, free)) (λ not-Free. inr (λ free. not-Free free.1)) (free_or_not H ss t))
    (cases_lt ((t + H - s.start) % H) s.ticks)

-- a booking more covers exactly its own ticks besides
pub insert_covers_its_own : InsertCoversItsOwn
insert_covers_its_own H s [] t = (λ free. free, λ free. free)
insert_covers_its_own H s (x ∷ xs) t =
    let rest = insert_covers_its_own H s xs t in
    cond_both (ltb s.start x.start) _ _ (λ ys. (Free H ys t → (Covers H s t → ⊥) × Free H (x ∷ xs) t) × ((Covers H s t → ⊥) × Free H (x ∷ xs) t → Free H ys t))
    (λ e. (λ free. (free.0, free.1), λ free. (free.0, free.1)))
    (λ e. (λ free. ((rest.0 free.1).0, (free.0, (rest.0 free.1).1)), λ free. (free.1.0, rest.1 (free.0, free.1.1))))

pub insert_counts : (s : Span) (ss : List Span) → length (insert s ss) ≡ length ss + 1
insert_counts s [] = refl
insert_counts s (x ∷ xs) = cond_both (ltb s.start x.start) _ _ (λ ys. length ys ≡ length (x ∷ xs) + 1) (λ e. omega arith) (λ e. omega (arith, insert_counts s xs))

-- what is covered is not free
pub covered : (H : ℕ) (ss : List Span) (s : Span) (t : ℕ) → In s ss → Covers H s t → Free H ss t → ⊥
covered H [] s t here covers free = here
covered H (x ∷ xs) s t (inl e) covers free = free.0 (subst (λ y. Covers H y t) e covers)
covered H (x ∷ xs) s t (inr there) covers free = covered H xs s t there covers free.1

-- a booking among later ones begins later
later_in : (n : ℕ) (ss : List Span) (s : Span) → Later n ss → In s ss → n < s.start
later_in n [] s h here = absurd here
later_in n (x ∷ xs) s h (inl e) = subst (λ y. n < y.start) (sym e) h.0
later_in n (x ∷ xs) s h (inr there) = later_in n xs s h.1 there

later_more : (n m : ℕ) (ss : List Span) → m < n → Later n ss → Later m ss
later_more n m [] l h = tt
later_more n m (x ∷ xs) l h = (omega (arith, h.0), later_more n m xs l h.1)

-- without the booking that begins at a tick, every other stays free
still_free : (H n : ℕ) (ss : List Span) (t : ℕ) → Free H ss t → Free H (without n ss) t
still_free H n [] t free = tt
still_free H n (x ∷ xs) t free = cond_both (eqb x.start n) _ _ (λ ys. Free H ys t) (λ e. free.1) (λ e. (free.0, still_free H n xs t free.1))

-- a booking that is released frees exactly its own ticks
freed : (H : ℕ) (ss : List Span) (s : Span) (t : ℕ) → Orderly H ss → In s ss → Free H (without s.start ss) t → (Covers H s t → ⊥) → Free H ss t
freed H [] s t h here free other = tt
freed H (x ∷ xs) s t h (inl e) free other =
    let same : x.start ≡ s.start = ap (λ y. y.start) (sym e) in
    (λ covers. other (subst (λ y. Covers H y t) (sym e) covers), subst (λ ys. Free H ys t) (cond-true (eqb x.start s.start) _ _ (eq-eqb _ _ same)) free)
freed H (x ∷ xs) s t h (inr there) free other =
    let apart : x.start ≡ s.start → ⊥ = λ e. omega (arith, later_in x.start xs s h.1 there) in
    let free' = subst (λ ys. Free H ys t) (cond-false (eqb x.start s.start) _ _ (ne_eqb _ _ apart)) free in
    (free'.0, freed H xs s t h.3 there free'.1 other)

released : (H : ℕ) (ss : List Span) (s : Span) (t : ℕ) → Orderly H ss → In s ss → t < H → Covers H s t → Free H (without s.start ss) t
released H [] s t h here l covers = tt
released H (x ∷ xs) s t h (inl e) l covers =
    let same : x.start ≡ s.start = ap (λ y. y.start) (sym e) in
    subst (λ ys. Free H ys t) (sym (cond-true (eqb x.start s.start) _ _ (eq-eqb _ _ same))) (h.2 t l (subst (λ y. Covers H y t) e covers))
released H (x ∷ xs) s t h (inr there) l covers =
    let apart : x.start ≡ s.start → ⊥ = λ e. omega (arith, later_in x.start xs s h.1 there) in
    subst (λ ys. Free H ys t) (sym (cond-false (eqb x.start s.start) _ _ (ne_eqb _ _ apart))) (λ first. covered H xs s t there covers (h.2 t l first), released H xs s t h.3 there l covers)

pub release_frees_its_own : ReleaseFreesItsOwn
release_frees_its_own H ss s t h here l = (
  λ free. ⊎_elim (λ covers. inr covers) (λ past. inl (freed H ss s t h here free (λ covers. omega arith))) (cases_lt ((t + H - s.start) % H) s.ticks),
  ⊎_elim (λ free. still_free H s.start ss t free) (λ covers. released H ss s t h here l covers),
)

pub release_counts : (n : ℕ) (ss : List Span) → (NoneBeginsAt ss n → ⊥) → length (without n ss) + 1 ≡ length ss
release_counts n [] some = absurd (some tt)
release_counts n (x ∷ xs) some =
    cond_both (eqb x.start n) _ _ (λ ys. length ys + 1 ≡ length (x ∷ xs))
    (λ e. omega arith)
    (λ e. omega (arith, release_counts n xs (λ none. some (eqb-false x.start n e, none))))

later_without : (n m : ℕ) (ss : List Span) → Later n ss → Later n (without m ss)
later_without n m [] h = tt
later_without n m (x ∷ xs) h = cond_both (eqb x.start m) _ _ (Later n) (λ e. h.1) (λ e. (h.0, later_without n m xs h.1))

-- the bookings stay in order without one
pub release_keeps : (H n : ℕ) (ss : List Span) → Orderly H ss → Orderly H (without n ss)
release_keeps H n [] h = tt
release_keeps H n (x ∷ xs) h =
    cond_both (eqb x.start n) _ _ (Orderly H) (λ e. h.3) (λ e. (h.0, later_without x.start n xs h.1, λ t l covers. still_free H n xs t (h.2 t l covers), release_keeps H n xs h.3))

-- a booking covers its own start
pub own_start : (H : ℕ) (s : Span) → Fits H s → Covers H s s.start
own_start H s fits =
    let whole : s.start + H - s.start ≡ H = omega arith in
    let none : (s.start + H - s.start) % H ≡ 0 = ap (λ n. n % H) whole ∙ mod_self H in
    omega (arith, fits.ticks.least)

later_insert : (n : ℕ) (s : Span) (ss : List Span) → n < s.start → Later n ss → Later n (insert s ss)
later_insert n s [] l h = (l, tt)
later_insert n s (x ∷ xs) l h = cond_both (ltb s.start x.start) _ _ (Later n) (λ e. (l, h)) (λ e. (h.0, later_insert n s xs l h.1))

-- the bookings stay in order with one more that clashes with none
pub insert_keeps : (H : ℕ) (s : Span) (ss : List Span) → Orderly H ss → Fits H s → (Clashes H ss s → ⊥) → Orderly H (insert s ss)
insert_keeps H s [] h fits clear = (fits, tt, λ t l covers. tt, tt)
insert_keeps H s (x ∷ xs) h fits clear =
    cond_both (ltb s.start x.start) _ _ (Orderly H)
    (λ e.
    let first = ltb-true s.start x.start e in
    (fits, (first, later_more x.start s.start xs first h.1), λ t l covers. ⊎_elim (λ free. free) (λ taken. absurd (clear (t, l, covers, taken))) (free_or_not H (x ∷ xs) t), h))
    (λ e.
    let apart : s.start ≡ x.start → ⊥ = λ same. clear (s.start, fits.start, own_start H s fits, λ free. free.0 (subst (Covers H x) (sym same) (own_start H x h.0))) in
    let after : x.start < s.start = omega (arith, ltb-false s.start x.start e) in (
      h.0,
      later_insert x.start s xs after h.1,
      λ t l covers. (insert_covers_its_own H s xs t).1 (λ both. clear (t, l, both, λ free. free.0 covers), h.2 t l covers),
      insert_keeps H s xs h.3 fits (λ clash. clear (clash.0, clash.1, clash.2, λ free. clash.3 free.1)),
    ))

-- two bookings in order that begin at one tick are one
pub begins_once : (H : ℕ) (ss : List Span) (a b : Span) → Orderly H ss → In a ss → In b ss → a.start ≡ b.start → a ≡ b
begins_once H [] a b h x y e = absurd x
begins_once H (s ∷ ss) a b h (inl x) (inl y) e = x ∙ sym y
begins_once H (s ∷ ss) a b h (inl x) (inr y) e = absurd (omega (arith, later_in s.start ss b h.1 y, ap (λ z. z.start) x))
begins_once H (s ∷ ss) a b h (inr x) (inl y) e = absurd (omega (arith, later_in s.start ss a h.1 x, ap (λ z. z.start) y))
begins_once H (s ∷ ss) a b h (inr x) (inr y) e = begins_once H ss a b h.3 x y e

-- a booking that is there begins where it begins
pub in_begins : (ss : List Span) (s : Span) → In s ss → NoneBeginsAt ss s.start → ⊥
in_begins [] s here none = here
in_begins (x ∷ xs) s (inl e) none = none.0 (ap (λ z. z.start) (sym e))
in_begins (x ∷ xs) s (inr there) none = in_begins xs s there none.1
