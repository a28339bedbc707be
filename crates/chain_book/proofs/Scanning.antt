-- Passes along the bookings of a link. Assumes nothing.
use Rattle.std.proofs.Common.{◌≡◌, ℕ, ◌+◌, ◌-◌, ◌%◌, ◌<◌, ◌≤◌, min, ◌⊎◌, List, [], ◌∷◌, sym, refl, ap, ◌∙◌, subst, inl, inr, ⊎_elim, add-zero, mod-eq_of_lt, zero-add, arith}
use Rattle.book.proofs.Offsets.{remainder, round_below, round_offset, offset_start, offset_zero}
use Rattle.book.proofs.Rows.{covered, own_start}
use Rattle.book.specs.Calls.{Clashes}
use Rattle.book.specs.Spans.{Span, Covers, Free, In, Fits, Orderly, Run, offset, round}
use Rattle.std.proofs.lemmas.Bool.{cases_lt}
use Rattle.chain_book.specs.Scans.{Placed, Overlaps, CoveredFor, BookedFor, Gap}

-- two ticks that come after a third
offset_between : (H a b t : ℕ) → a < H → b < H → t < H → offset H b t ≤ offset H a t → offset H a b ≡ offset H a t - offset H b t
offset_between H a b t al bl tl le =
    ⊎_elim
    (λ x. ⊎_elim (λ y. ⊎_elim (λ z. omega arith) (λ z. omega arith) (remainder (b + H - a) H (omega arith))) (λ y. ⊎_elim (λ z. omega arith) (λ z. omega arith) (remainder (b + H - a) H (omega arith))) (remainder (t + H - b) H (omega arith)))
    (λ x. ⊎_elim (λ y. ⊎_elim (λ z. omega arith) (λ z. omega arith) (remainder (b + H - a) H (omega arith))) (λ y. ⊎_elim (λ z. omega arith) (λ z. omega arith) (remainder (b + H - a) H (omega arith))) (remainder (t + H - b) H (omega arith)))
    (remainder (t + H - a) H (omega arith))

-- j ticks further on, while the start is not passed
along : (H s t k j : ℕ) → s < H → t < H → k + j < H → offset H s (round H t k) + j < H → offset H s (round H t (k + j)) ≡ offset H s (round H t k) + j
along H s t k j sl tl kl le =
    let below = round_below H t tl k in
    let below' = round_below H t tl (k + j) in
    ⊎_elim
    (λ x. ⊎_elim
    (λ y. ⊎_elim (λ z. ⊎_elim (λ w. omega arith) (λ w. omega arith) (remainder (round H t (k + j) + H - s) H (omega arith))) (λ z. ⊎_elim (λ w. omega arith) (λ w. omega arith) (remainder (round H t (k + j) + H - s) H (omega arith))) (remainder (round H t k + H - s) H (omega arith)))
    (λ y. ⊎_elim (λ z. ⊎_elim (λ w. omega arith) (λ w. omega arith) (remainder (round H t (k + j) + H - s) H (omega arith))) (λ z. ⊎_elim (λ w. omega arith) (λ w. omega arith) (remainder (round H t (k + j) + H - s) H (omega arith))) (remainder (round H t k + H - s) H (omega arith)))
    (remainder (t + (k + j)) H (omega arith)))
    (λ x. ⊎_elim
    (λ y. ⊎_elim (λ z. ⊎_elim (λ w. omega arith) (λ w. omega arith) (remainder (round H t (k + j) + H - s) H (omega arith))) (λ z. ⊎_elim (λ w. omega arith) (λ w. omega arith) (remainder (round H t (k + j) + H - s) H (omega arith))) (remainder (round H t k + H - s) H (omega arith)))
    (λ y. ⊎_elim (λ z. ⊎_elim (λ w. omega arith) (λ w. omega arith) (remainder (round H t (k + j) + H - s) H (omega arith))) (λ z. ⊎_elim (λ w. omega arith) (λ w. omega arith) (remainder (round H t (k + j) + H - s) H (omega arith))) (remainder (round H t k + H - s) H (omega arith)))
    (remainder (t + (k + j)) H (omega arith)))
    (remainder (t + k) H (omega arith))

-- before the start comes there is room to the end of the cycle
opposite : (H s t j : ℕ) → s < H → t < H → j < offset H t s → offset H s t + j < H
opposite H s t j sl tl l =
    ⊎_elim
    (λ x. ⊎_elim (λ y. omega arith) (λ y. omega arith) (remainder (t + H - s) H (omega arith)))
    (λ x. ⊎_elim (λ y. omega arith) (λ y. omega arith) (remainder (t + H - s) H (omega arith)))
    (remainder (s + H - t) H (omega arith))

-- the tick itself
pub round_none : (H t : ℕ) → t < H → round H t 0 ≡ t
round_none H t l = ap (λ n. n % H) (add-zero t) ∙ mod-eq_of_lt l

own : (H : ℕ) (s : Span) → Placed H s → Covers H s s.start
own H s p = subst (λ n. n < s.ticks) (sym (offset_start H s.start p.start)) p.ticks.least

-- bookings that overlap cover one another's start
pub overlap_start : (H : ℕ) (a b : Span) → Placed H a → Placed H b → Overlaps H a b → Covers H a b.start ⊎ Covers H b a.start
overlap_start H a b p q (t, l, x, y) =
    ⊎_elim
    (λ less. inr (subst (λ n. n < b.ticks) (sym (offset_between H b.start a.start t q.start p.start l (omega arith))) (omega arith)))
    (λ le. inl (subst (λ n. n < a.ticks) (sym (offset_between H a.start b.start t p.start q.start l le)) (omega arith)))
    (cases_lt (offset H a.start t) (offset H b.start t))

pub overlap_first : (H : ℕ) (a b : Span) → Placed H b → Covers H a b.start → Overlaps H a b
overlap_first H a b q c = (b.start, q.start, c, own H b q)

pub overlap_second : (H : ℕ) (a b : Span) → Placed H a → Covers H b a.start → Overlaps H a b
overlap_second H a b p c = (a.start, p.start, own H a p, c)

-- each booking in order fits
pub each_fits : (H : ℕ) (ss : List Span) (s : Span) → Orderly H ss → In s ss → Fits H s
each_fits H [] s o here = absurd here
each_fits H (x ∷ xs) s o (inl e) = subst (Fits H) (sym e) o.0
each_fits H (x ∷ xs) s o (inr there) = each_fits H xs s o.3 there

-- a tick that none of these covers is free
pub free_from : (H : ℕ) (ss : List Span) (t : ℕ) → ((s : Span) → In s ss → Covers H s t → ⊥) → Free H ss t
free_from H [] t none = tt
free_from H (x ∷ xs) t none = (none x (inl refl), free_from H xs t (λ s h. none s (inr h)))

-- those still ahead are among these
abbrev pub Among : List Span → List Span → Type 0
Among rest ss = (s : Span) → In s rest → In s ss

pub among_first : (ss rest all : List Span) (s : Span) → all ≡ s ∷ rest → Among all ss → In s ss
among_first ss rest all s e among = among s (subst (In s) (sym e) (inl refl))

pub among_rest : (ss rest all : List Span) (s : Span) → all ≡ s ∷ rest → Among all ss → Among rest ss
among_rest ss rest all s e among x h = among x (subst (In x) (sym e) (inr h))

-- a booking among these that overlaps another clashes with it
pub clash_here : (H : ℕ) (ss : List Span) (a s : Span) → In s ss → Overlaps H a s → Clashes H ss a
clash_here H ss a s here (t, l, x, y) = (t, l, x, λ free. covered H ss s t here y free)

-- the ticks of a booking that covers the next tick are covered
pub covered_more : (H : ℕ) (ss : List Span) (t k : ℕ) (s : Span) → t < H → k < H → In s ss → Fits H s → Covers H s (round H t k) → CoveredFor H ss t k → CoveredFor H ss t (min (k + s.ticks - offset H s.start (round H t k)) H)
covered_more H ss t k s tl kl here fits covers all j l free =
    ⊎_elim
    (λ old. all j old free)
    (λ new.
    let whole : k + (j - k) ≡ j = omega arith in
    let at = along H s.start t k (j - k) fits.start tl (omega arith) (omega (arith, fits.ticks.most)) in
    covered H ss s (round H t j) here (subst (λ n. offset H s.start (round H t n) < s.ticks) whole (omega (arith, at))) free)
    (cases_lt j k)

-- where a pass has come to
pub record Extending (H : ℕ) (ss : List Span) (t k : ℕ) (rest : List Span) (reach : ℕ) : Type 0 where
  pub among : Among rest ss
  pub covered : CoveredFor H ss t k → CoveredFor H ss t reach
  pub least : k ≤ reach
  pub most : reach ≤ H
  pub passed : reach ≡ k → k < H → Free H rest (round H t k) → Free H ss (round H t k)

pub extending_more : (H : ℕ) (ss : List Span) (t k : ℕ) (s : Span) (rest all : List Span) (reach : ℕ) → all ≡ s ∷ rest → t < H → Fits H s → Extending H ss t k all reach → reach < H → Covers H s (round H t reach)
    → (further : ℕ) → further ≡ min (reach + s.ticks - offset H s.start (round H t reach)) H → Extending H ss t k rest further
extending_more H ss t k s rest all reach on tl fits e l covers further is = record {
  among = among_rest ss rest all s on e.among;
  covered = λ h. subst (CoveredFor H ss t) (sym is) (covered_more H ss t reach s tl l (among_first ss rest all s on e.among) fits covers (e.covered h));
  least = omega (arith, e.least);
  most = omega arith;
  passed = λ same kl free. absurd (omega (arith, e.least, covers));
}

pub extending_past : (H : ℕ) (ss : List Span) (t k : ℕ) (s : Span) (rest all : List Span) (reach : ℕ) → all ≡ s ∷ rest → Extending H ss t k all reach → (reach < H → Covers H s (round H t reach) → ⊥) → Extending H ss t k rest reach
extending_past H ss t k s rest all reach on e off = record {
  among = among_rest ss rest all s on e.among;
  covered = e.covered;
  least = e.least;
  most = e.most;
  passed = λ same kl free. e.passed same kl (subst (λ rs. Free H rs (round H t k)) (sym on) (subst (λ n. Covers H s (round H t n) → ⊥) same (off (omega arith)), free));
}

-- covered ticks, as many as there are, are the run
pub booked_run : (H : ℕ) (ss : List Span) (t k : ℕ) → t < H → 0 < k → BookedFor H ss t k → (Free H ss t → ⊥) × Run H ss t k
booked_run H ss t k tl some b =
    let taken : Free H ss t → ⊥ = λ free. b.covered 0 some (subst (Free H ss) (sym (round_none H t tl)) free) in (
      taken,
      record {
        stretch = record { some = some; alike = λ j l. record { onward = λ free. absurd (taken free); back = λ free. absurd (b.covered j l free) } };
        most = b.most;
        ends = λ l a. taken (a.back (b.ends l));
      },
    )

-- free ticks up to the next booking are the run
pub free_run : (H : ℕ) (ss : List Span) (t k : ℕ) → t < H → Orderly H ss → Free H ss t → Gap H ss t k → Run H ss t k
free_run H ss t k tl o free g = record {
  stretch = record { some = some; alike = λ j l. record { onward = λ _. free_at j l; back = λ _. free } };
  most = g.most;
  ends = λ l a. let (s, here, e) = g.begins l in
      let fits = each_fits H ss s o here in
      let at : round H t k ≡ s.start = ap (round H t) (sym e) ∙ round_offset H t tl s.start fits.start in
      covered H ss s (round H t k) here (subst (Covers H s) (sym at) (own_start H s fits)) (a.onward free);
}
  where
    free_at : (j : ℕ) → j < k → Free H ss (round H t j)
    free_at j l = free_from H ss (round H t j) (λ s here covers.
        let fits = each_fits H ss s o here in
        let before = g.before s here in
        let room = opposite H s.start t j fits.start tl (omega arith) in
        let start_is = round_none H t tl in
        let far = along H s.start t 0 j fits.start tl (omega (arith, g.most)) (subst (λ n. offset H s.start n + j < H) (sym start_is) room) in
        let at : offset H s.start (round H t j) ≡ offset H s.start t + j = ap (λ n. offset H s.start (round H t n)) (sym (zero-add j)) ∙ far ∙ ap (λ n. offset H s.start n + j) start_is in
        covered H ss s t here (omega (arith, at)) free)

    some : 0 < k
    some =
        ⊎_elim (λ h. h)
        (λ none.
        let (s, here, e) = g.begins (omega arith) in
        let fits = each_fits H ss s o here in
        let same : s.start ≡ t = offset_zero H t tl s.start fits.start (omega (arith, e)) in
        absurd (covered H ss s t here (subst (Covers H s) same (own_start H s fits)) free))
        (cases_lt 0 k)

-- the same gap, and the same freedom from clashes, by another word for the cycle and for the bookings
pub gap_at : (G H : ℕ) (rs ss : List Span) (t k : ℕ) → G ≡ H → rs ≡ ss → Gap G rs t k → Gap H ss t k
gap_at G H rs ss t k e f g = subst (λ (n : ℕ). Gap n ss t k) e (subst (λ xs. Gap G xs t k) f g)

pub clear_at : (G H : ℕ) (rs ss : List Span) (a : Span) → G ≡ H → rs ≡ ss → (Clashes G rs a → ⊥) → Clashes H ss a → ⊥
clear_at G H rs ss a e f clear = subst (λ (n : ℕ). Clashes n ss a → ⊥) e (subst (λ xs. Clashes G xs a → ⊥) f clear)
