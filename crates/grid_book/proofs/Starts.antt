-- The bookings that begin in a row of cells, with one cell changed. Assumes nothing.
use Rattle.std.proofs.Common.{◌≡◌, ℕ, zero, suc, ◌+◌, ◌<◌, eqb, ltb, List, [], ◌∷◌, length, set, Some, None, Option, sym, refl, ap, ◌∙◌, inl, inr, arith}
use Rattle.book.specs.Calls.{Holds}
use Rattle.book.specs.Spans.{Span, span, Later, NoneBeginsAt, insert, without}
use Rattle.book.specs.declared.refusal.Holding.{Holding}
use Rattle.std.proofs.lemmas.Bool.{lt-ltb, le-ltb, eq-eqb, ne_eqb, cond-true, cond-false}
use Rattle.grid_book.specs.declared.cell.Cell.{Cell}
use Rattle.grid_book.specs.Cells.{begun, cell_at, begins, spans_from, spans}

later_begins : (n t : ℕ) (o : Option Holding) (ss : List Span) → n < t → Later n ss → Later n (begins t o ss)
later_begins n t None ss l h = h
later_begins n t (Some x) ss l h = (l, h)

-- what begins from a tick on begins after every earlier one
later_from : (n t : ℕ) (cs : List Cell) → n < t → Later n (spans_from t cs)
later_from n t [] l = tt
later_from n t (c ∷ cs) l = later_begins n t (begun c) (spans_from (t + 1) cs) l (later_from n (t + 1) cs (omega arith))

none_later : (n m : ℕ) (ss : List Span) → n ≡ m → Later n ss → NoneBeginsAt ss m
none_later n m [] e h = tt
none_later n m (s ∷ ss) e h = (λ same. omega (arith, h.0), none_later n m ss e h.1)

holds_here : (t n : ℕ) (o : Option Holding) (ss : List Span) → t ≡ n → Later t ss → Holds (begins t o ss) n o
holds_here t n None ss e h = none_later t n ss e h
holds_here t n (Some x) ss e h = inl (ap (λ m. span m x.ticks x.flow) (sym e))

holds_past : (t n : ℕ) (p o : Option Holding) (ss : List Span) → t < n → Holds ss n o → Holds (begins t p ss) n o
holds_past t n None o ss l h = h
holds_past t n (Some x) None ss l h = (λ e. omega arith, h)
holds_past t n (Some x) (Some y) ss l h = inr h

holds_from : (t n i : ℕ) (cs : List Cell) → n ≡ t + i → Holds (spans_from t cs) n (begun (cell_at cs i))
holds_from t n i [] e = tt
holds_from t n zero (c ∷ cs) e = holds_here t n (begun c) (spans_from (t + 1) cs) (omega arith) (later_from t (t + 1) cs (omega arith))
holds_from t n (suc i) (c ∷ cs) e = holds_past t n (begun c) (begun (cell_at cs i)) (spans_from (t + 1) cs) (omega arith) (holds_from (t + 1) n i cs (omega arith))

-- the cell of a tick has the booking that begins there
pub holds_at : (cs : List Cell) (t : ℕ) → Holds (spans cs) t (begun (cell_at cs t))
holds_at cs t = holds_from 0 t t cs (omega arith)

insert_first : (s : Span) (ss : List Span) → Later s.start ss → insert s ss ≡ s ∷ ss
insert_first s [] h = refl
insert_first s (x ∷ xs) h = cond-true (ltb s.start x.start) _ _ (lt-ltb _ _ h.0)

insert_past : (t : ℕ) (o : Option Holding) (s : Span) (ss : List Span) → t < s.start → begins t o (insert s ss) ≡ insert s (begins t o ss)
insert_past t None s ss l = refl
insert_past t (Some x) s ss l = sym (cond-false (ltb s.start t) _ _ (le-ltb _ _ (omega arith)))

insert_from : (t n i : ℕ) (cs : List Cell) (c : Cell) (h : Holding) → n ≡ t + i → i < length cs → begun (cell_at cs i) ≡ None → begun c ≡ Some h → spans_from t (set cs i c) ≡ insert (span n h.ticks h.flow) (spans_from t cs)
insert_from t n i [] c h e l none some = absurd (omega arith)
insert_from t n zero (x ∷ cs) c h e l none some =
    let rest = spans_from (t + 1) cs in
    let same : t ≡ n = omega arith in
    ap (λ o. begins t o rest) some
    ∙ ap (λ m. span m h.ticks h.flow ∷ rest) same
    ∙ sym (insert_first (span n h.ticks h.flow) rest (later_from n (t + 1) cs (omega arith)))
    ∙ sym (ap (λ o. insert (span n h.ticks h.flow) (begins t o rest)) none)
insert_from t n (suc i) (x ∷ cs) c h e l none some =
    ap (begins t (begun x)) (insert_from (t + 1) n i cs c h (omega arith) (omega arith) none some)
    ∙ insert_past t (begun x) (span n h.ticks h.flow) (spans_from (t + 1) cs) (omega arith)

-- the first cell of a booking over one where none begins adds the booking
pub first_inserts : (cs : List Cell) (t : ℕ) (c : Cell) (h : Holding) → t < length cs → begun (cell_at cs t) ≡ None → begun c ≡ Some h → spans (set cs t c) ≡ insert (span t h.ticks h.flow) (spans cs)
first_inserts cs t c h = insert_from 0 t t cs c h (omega arith)

without_none : (t n : ℕ) (ss : List Span) → t ≡ n → Later t ss → without n ss ≡ ss
without_none t n [] e h = refl
without_none t n (s ∷ ss) e h = cond-false (eqb s.start n) _ _ (ne_eqb _ _ (λ same. omega (arith, h.0))) ∙ ap (λ r. s ∷ r) (without_none t n ss e h.1)

without_here : (t n : ℕ) (o : Option Holding) (ss : List Span) → t ≡ n → Later t ss → without n (begins t o ss) ≡ ss
without_here t n None ss e h = without_none t n ss e h
without_here t n (Some x) ss e h = cond-true (eqb t n) _ _ (eq-eqb _ _ e)

without_past : (t n : ℕ) (o : Option Holding) (ss : List Span) → t < n → begins t o (without n ss) ≡ without n (begins t o ss)
without_past t n None ss l = refl
without_past t n (Some x) ss l = sym (cond-false (eqb t n) _ _ (ne_eqb _ _ (λ e. omega arith)))

without_from : (t n i : ℕ) (cs : List Cell) (c : Cell) → n ≡ t + i → i < length cs → begun c ≡ None → spans_from t (set cs i c) ≡ without n (spans_from t cs)
without_from t n i [] c e l none = absurd (omega arith)
without_from t n zero (x ∷ cs) c e l none =
    ap (λ o. begins t o (spans_from (t + 1) cs)) none
    ∙ sym (without_here t n (begun x) (spans_from (t + 1) cs) (omega arith) (later_from t (t + 1) cs (omega arith)))
without_from t n (suc i) (x ∷ cs) c e l none =
    ap (begins t (begun x)) (without_from (t + 1) n i cs c (omega arith) (omega arith) none)
    ∙ without_past t n (begun x) (spans_from (t + 1) cs) (omega arith)

-- another cell over the first of a booking takes the booking away
pub other_removes : (cs : List Cell) (t : ℕ) (c : Cell) → t < length cs → begun c ≡ None → spans (set cs t c) ≡ without t (spans cs)
other_removes cs t c = without_from 0 t t cs c (omega arith)

same_from : (t : ℕ) (xs ys : List Cell) → length xs ≡ length ys → ((i : ℕ) → i < length xs → begun (cell_at xs i) ≡ begun (cell_at ys i)) → spans_from t xs ≡ spans_from t ys
same_from t [] [] e h = refl
same_from t [] (y ∷ ys) e h = absurd (omega arith)
same_from t (x ∷ xs) [] e h = absurd (omega arith)
same_from t (x ∷ xs) (y ∷ ys) e h =
    let rest = same_from (t + 1) xs ys (omega arith) (λ i l. h (suc i) (omega arith)) in
    ap (λ o. begins t o (spans_from (t + 1) xs)) (h zero (omega arith)) ∙ ap (begins t (begun y)) rest

-- rows in which the same bookings begin at each tick have the same bookings
pub same_spans : (xs ys : List Cell) → length xs ≡ length ys → ((i : ℕ) → i < length xs → begun (cell_at xs i) ≡ begun (cell_at ys i)) → spans xs ≡ spans ys
same_spans = same_from 0
