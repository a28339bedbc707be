-- The cells of one booking written over a row. Assumes nothing.
use Rattle.std.proofs.Common.{◌≡◌, ℕ, ◌+◌, ◌<◌, true, false, List, [], ◌∷◌, length, set, Some, None, Decides, Option, sym, refl, ap, ◌∙◌, subst, inl, inr, ⊎_elim, arith}
use Rattle.book.proofs.Rows.{covered, own_start, free_or_not, insert_covers_its_own, release_frees_its_own}
use Rattle.book.specs.Calls.{Clashes, Holds}
use Rattle.book.specs.Spans.{offset, Span, span, Covers, Free, In, Fits, Orderly, insert, without, round}
use Rattle.book.specs.declared.refusal.Holding.{Holding}
use Rattle.std.proofs.lemmas.List.{length-set, get_or-set_same, get_or-set_other}
use Rattle.std.proofs.lemmas.Bool.{cases_lt, cases_eq, false≢true}
use Rattle.std.proofs.lemmas.Bool.Decides.{Decides-like}
use Rattle.grid_book.specs.declared.cell.Cell.{Cell}
use Rattle.grid_book.specs.declared.cell.Cell.TheVariants.{Free as free_cell, First, Further}
use Rattle.grid_book.specs.Cells.{is_free, begun, cell_at, spans, Marked}
use Rattle.grid_book.specs.Rows.{Painted}
use Rattle.book.proofs.Offsets.{offset_round, round_offset, offset_start, offset_zero}
use Rattle.grid_book.proofs.Starts.{holds_at, first_inserts, other_removes, same_spans}

-- one further tick more
pub painted_more : (H start k : ℕ) (first further : Cell) (before row : List Cell) → start < H → 0 < k → k < H → length row ≡ H → Painted H start k first further before row → Painted H start (k + 1) first further before (set row (round H start k) further)
painted_more H start k first further before row begins some few long p =
    let far = offset_round H start begins k few in
    let none = offset_start H start begins in
    let apart : start ≡ round H start k → ⊥ = λ e. omega (arith, ap (offset H start) e) in
    record {
      long = length-set row (round H start k) further ∙ p.long;
      at_start = get_or-set_other row (round H start k) start further free_cell apart ∙ p.at_start;
      within = λ t l pos lt.
          ⊎_elim
          (λ e. ap (cell_at (set row (round H start k) further)) e ∙ get_or-set_same row (round H start k) further free_cell (subst (λ n. n < length row) e (omega arith)))
          (λ other.
          let differs : offset H start t ≡ k → ⊥ = λ e. other (sym (round_offset H start begins t l) ∙ ap (round H start) e) in
          get_or-set_other row (round H start k) t further free_cell other ∙ p.within t l pos (omega arith))
          (cases_eq t (round H start k));
      outside = λ t l past.
          let other : t ≡ round H start k → ⊥ = λ e. omega (arith, ap (offset H start) e) in
          get_or-set_other row (round H start k) t further free_cell other ∙ p.outside t l (omega arith);
    }

-- the first tick alone
pub painted_one : (H start : ℕ) (first further : Cell) (row : List Cell) → start < H → length row ≡ H → Painted H start 1 first further row (set row start first)
painted_one H start first more row begins long =
    let none = offset_start H start begins in
    record {
      long = length-set row start first;
      at_start = get_or-set_same row start first free_cell (omega arith);
      within = λ t l pos one. absurd (omega arith);
      outside = λ t l past.
          let other : t ≡ start → ⊥ = λ e. omega (arith, ap (offset H start) e) in
          get_or-set_other row start t first free_cell other;
    }

free_begun : (c : Cell) → is_free c ≡ true → begun c ≡ None
free_begun free_cell e = refl
free_begun (First h) e = absurd (false≢true e)
free_begun Further e = refl

none_begun : (ss : List Span) (t : ℕ) (o : Option Holding) → Holds ss t o → ((h : Holding) → In (span t h.ticks h.flow) ss → ⊥) → o ≡ None
none_begun ss t None h none = refl
none_begun ss t (Some x) h none = absurd (none x h)

pub fits_in : (H : ℕ) (ss : List Span) (s : Span) → Orderly H ss → In s ss → Fits H s
fits_in H [] s o here = absurd here
fits_in H (x ∷ xs) s o (inl e) = subst (Fits H) (sym e) o.0
fits_in H (x ∷ xs) s o (inr there) = fits_in H xs s o.3 there

-- two bookings in order that cover one tick are one
covers_once : (H : ℕ) (ss : List Span) (a b : Span) (t : ℕ) → Orderly H ss → t < H → In a ss → In b ss → Covers H a t → Covers H b t → a ≡ b
covers_once H [] a b t o l x y p q = absurd x
covers_once H (s ∷ ss) a b t o l (inl x) (inl y) p q = x ∙ sym y
covers_once H (s ∷ ss) a b t o l (inl x) (inr y) p q = absurd (covered H ss b t y q (o.2 t l (subst (λ z. Covers H z t) x p)))
covers_once H (s ∷ ss) a b t o l (inr x) (inl y) p q = absurd (covered H ss a t x p (o.2 t l (subst (λ z. Covers H z t) y q)))
covers_once H (s ∷ ss) a b t o l (inr x) (inr y) p q = covers_once H ss a b t o.3 l x y p q

module _ (H start ticks : ℕ) (first further : Cell) (before after : List Cell) (begins : start < H) (some : 0 < ticks) (long : length before ≡ H) (p : Painted H start ticks first further before after) where
  -- what holds of both cells holds at every tick of the booking
  at_ticks : (P : Cell → Type 0) → P first → P further → (t : ℕ) → t < H → offset H start t < ticks → P (cell_at after t)
  at_ticks P one more t l low =
      ⊎_elim
      (λ e. subst (λ n. P (cell_at after n)) (sym (offset_zero H start begins t l e)) (subst P (sym p.at_start) one))
      (λ other. subst P (sym (p.within t l (omega arith) low)) more)
      (cases_eq (offset H start t) 0)

  -- where no booking begins at a further tick before or after, only the first tick tells
  spans_painted : begun further ≡ None → ((t : ℕ) → t < H → 0 < offset H start t → offset H start t < ticks → begun (cell_at before t) ≡ None) → spans after ≡ spans (set before start first)
  spans_painted none clear =
      same_spans after (set before start first) (p.long ∙ sym (length-set before start first))
      (λ i l.
      let low : i < H = omega (arith, p.long) in
      ⊎_elim
      (λ e. ap begun (ap (cell_at after) e ∙ p.at_start ∙ sym (get_or-set_same before start first free_cell (omega arith)) ∙ ap (cell_at (set before start first)) (sym e)))
      (λ other.
      let kept : cell_at (set before start first) i ≡ cell_at before i = get_or-set_other before start i first free_cell other in
      let away : offset H start i ≡ 0 → ⊥ = λ e. other (offset_zero H start begins i low e) in
      ⊎_elim
      (λ lt. ap begun (p.within i low (omega arith) lt) ∙ none ∙ sym (ap begun kept ∙ clear i low (omega arith) lt))
      (λ ge. ap begun (p.outside i low ge ∙ sym kept))
      (cases_lt (offset H start i) ticks))
      (cases_eq i start))

module _ (H start : ℕ) (h : Holding) (before after : List Cell) (begins : start < H) (some : 0 < h.ticks) (long : length before ≡ H) (marked : Marked H before) where
  module _ (p : Painted H start h.ticks (First h) Further before after) (clear : Clashes H (spans before) (span start h.ticks h.flow) → ⊥) where
    free_before : (t : ℕ) → t < H → offset H start t < h.ticks → begun (cell_at before t) ≡ None
    free_before t l low = free_begun (cell_at before t) ((marked t l).1 (⊎_elim (λ free. free) (λ taken. absurd (clear (t, l, low, taken))) (free_or_not H (spans before) t)))

    -- the cells of a booking add it
    pub booked_spans : spans after ≡ insert (span start h.ticks h.flow) (spans before)
    booked_spans =
        spans_painted H start h.ticks (First h) Further before after begins some long p refl (λ t l _ low. free_before t l low)
        ∙ first_inserts before start (First h) h (omega arith) (free_before start begins (omega (arith, offset_start H start begins))) refl

    pub booked_marked : Marked H after
    booked_marked t l =
        let own = insert_covers_its_own H (span start h.ticks h.flow) (spans before) t in
        subst (λ ss. Decides (is_free (cell_at after t)) (Free H ss t)) (sym booked_spans)
        (⊎_elim
        (λ low.
        let taken : is_free (cell_at after t) ≡ false = at_ticks H start h.ticks (First h) Further before after begins some long p (λ c. is_free c ≡ false) refl refl t l low in
        (λ e. absurd (false≢true (sym taken ∙ e)), λ free. absurd ((own.0 free).0 low)))
        (λ past.
        subst (λ c. Decides (is_free c) (Free H (insert (span start h.ticks h.flow) (spans before)) t)) (sym (p.outside t l past))
        (Decides-like _ (λ free. own.1 (λ covers. omega arith, free)) (λ free. (own.0 free).1) (marked t l)))
        (cases_lt (offset H start t) h.ticks))

  module _ (p : Painted H start h.ticks free_cell free_cell before after) (orderly : Orderly H (spans before)) (there : In (span start h.ticks h.flow) (spans before)) where
    further_before : (t : ℕ) → t < H → 0 < offset H start t → offset H start t < h.ticks → begun (cell_at before t) ≡ None
    further_before t l pos low =
        none_begun (spans before) t (begun (cell_at before t)) (holds_at before t)
        (λ g other.
        let own = own_start H (span t g.ticks g.flow) (fits_in H (spans before) _ orderly other) in
        let same : t ≡ start = ap (λ s. s.start) (covers_once H (spans before) _ _ t orderly l other there own low) in
        omega (arith, ap (offset H start) same, offset_start H start begins))

    -- free cells over a booking take it away
    pub freed_spans : spans after ≡ without start (spans before)
    freed_spans =
        spans_painted H start h.ticks free_cell free_cell before after begins some long p refl further_before
        ∙ other_removes before start free_cell (omega arith) refl

    pub freed_marked : Marked H after
    freed_marked t l =
        let own = release_frees_its_own H (spans before) (span start h.ticks h.flow) t orderly there l in
        subst (λ ss. Decides (is_free (cell_at after t)) (Free H ss t)) (sym freed_spans)
        (⊎_elim
        (λ low. (λ e. own.1 (inr low), λ free. at_ticks H start h.ticks free_cell free_cell before after begins some long p (λ c. is_free c ≡ true) refl refl t l low))
        (λ past.
        subst (λ c. Decides (is_free c) (Free H (without start (spans before)) t)) (sym (p.outside t l past))
        (Decides-like _ (λ free. own.1 (inl free)) (λ free. ⊎_elim (λ f. f) (λ covers. absurd (omega arith)) (own.0 free)) (marked t l)))
        (cases_lt (offset H start t) h.ticks))
