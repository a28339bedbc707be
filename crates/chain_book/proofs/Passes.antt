-- What every pass keeps. Assumes nothing.
use mathlib.Core.Logic.{∥∥₁_elim}
use Rattle.book.proofs.Props.{orderly_prop}
use Rattle.std.proofs.Common.{◌≡◌, ℕ, zero, suc, ◌<◌, ◌≤◌, min, ◌⊎◌, ⊎_elim, ap, map, Bool, true, false, MatchBool, Decides, List, [], ◌∷◌, Some, None, Option, unwrap_or, ◌+◌, ◌-◌, mod-lt, length, get_or, sym, refl, subst, inl, inr, arith}
use Rattle.std.proofs.lemmas.Bool.{cases_lt}
use Rattle.std.specs.List.{HoldsAt, AllWithin, fold, reduce}
use Rattle.std.specs.Option.{option_map}
use Rattle.book.specs.Calls.{Clashes}
use Rattle.book.specs.Spans.{Span, Covers, In, Fits, Orderly, offset}
use Rattle.chains.specs.Views.{left_of}
use Rattle.chain_book.specs.Bookings.{spans_of, to_span}
use Rattle.chain_book.specs.Scans.{Overlaps, Gap}
use Rattle.chain_book.specs.declared.booking.Booking.{Booking}
use Rattle.chain_book.specs.declared.pass.Pass.{Pass}
use Rattle.chain_book.proofs.Scanning.{Among, among_first, each_fits, clash_here, free_from}

pub orderly_of : (p : Pass) → Orderly p.cycle (spans_of (left_of p.ahead))
orderly_of p = ∥∥₁_elim p.orderly (orderly_prop _ _) (λ o. o)

-- the booking that a pass has come to fits
pub fits_here : (p : Pass) (rest all : List Span) (s : Span) → all ≡ s ∷ rest → Among all (spans_of (left_of p.ahead)) → Fits p.cycle s
fits_here p rest all s on among = each_fits p.cycle (spans_of (left_of p.ahead)) s (orderly_of p) (among_first (spans_of (left_of p.ahead)) rest all s on among)

-- the bookings of a list of records, by place
pub in_at : (bs : List Booking) (k : ℕ) (d : Booking) → k < length bs → In (to_span (get_or bs k d)) (spans_of bs)
in_at [] k d l = absurd (omega arith)
in_at (b ∷ bs) zero d l = inl refl
in_at (b ∷ bs) (suc k) d l = inr (in_at bs k d (omega arith))

place_in : (bs : List Booking) (s : Span) → In s (spans_of bs) → (k : ℕ) × (k < length bs) × ((d : Booking) → s ≡ to_span (get_or bs k d))
place_in [] s here = absurd here
place_in (b ∷ bs) s (inl e) = (0, omega arith, λ d. e)
place_in (b ∷ bs) s (inr there) = let (k, l, e) = place_in bs s there in (suc k, omega arith, e)

-- each booking that a pass may come to fits
pub fits_at : (p : Pass) (k : ℕ) (b : Booking) → k < length (left_of p.ahead) → b ≡ get_or (left_of p.ahead) k b → Fits p.cycle (to_span b)
fits_at p k b l e = each_fits p.cycle (spans_of (left_of p.ahead)) (to_span b) (orderly_of p) (subst (λ x. In (to_span x) (spans_of (left_of p.ahead))) (sym e) (in_at (left_of p.ahead) k b l))

-- whether one of the bookings overlaps another decides whether they clash with it
pub clash_any : (H : ℕ) (bs : List Booking) (a : Span) (r : Bool)
    → MatchBool r ((k : ℕ) × (k < length bs) × HoldsAt (λ b. Overlaps H a (to_span b)) bs k) (AllWithin (λ b. Overlaps H a (to_span b) → ⊥) bs 0 (length bs))
    → Decides r (Clashes H (spans_of bs) a)
clash_any H [] a true (k, l, at) = absurd (omega arith)
clash_any H (b ∷ bs) a true (k, l, at) = (λ _. clash_here H (spans_of (b ∷ bs)) a (to_span (get_or (b ∷ bs) k b)) (in_at (b ∷ bs) k b l) (at b), λ _. refl)
clash_any H bs a false none = (
  λ e. absurd (cc),
  λ (t, l, x, taken). absurd (taken (free_from H (spans_of bs) t (λ s here y.
      let (k, low, e) = place_in bs s here in
      elim bs as (λ cs. k < length cs → ⊥) [ [] ↦ (λ z. omega arith) | (d ∷ ds) ↦ (λ z. none k d (omega arith) low (t, l, x, subst (λ z. Covers H z t) (e d) y)) ] low))),
)

-- the least of k and of the distances to the starts
least_from : (H t k : ℕ) (bs : List Booking)
    → let least = fold min k (map (λ b. offset H t b.start) bs) in
    (least ≤ k) × ((s : Span) → In s (spans_of bs) → least ≤ offset H t s.start) × ((least ≡ k) ⊎ ((s : Span) × In s (spans_of bs) × (offset H t s.start ≡ least)))
least_from H t k [] = (omega arith, λ s here. absurd here, inl refl)
least_from H t k (b ∷ bs) =
    let (low, before, is) = least_from H t (min k (offset H t b.start)) bs in (
      omega arith,
      λ s here. ⊎_elim (λ e. omega (arith, ap (λ x. offset H t x.start) e)) (λ there. before s there) here,
      ⊎_elim
          (λ same. ⊎_elim (λ less. inl (omega arith)) (λ le. inr (to_span b, inl refl, omega arith)) (cases_lt k (offset H t b.start)))
          (λ (s, there, e). inr (s, inr there, e))
          is,
    )

pub gap_least : (H t : ℕ) (bs : List Booking) (r : Option ℕ) → Orderly H (spans_of bs) → option_map (λ n. n) r ≡ reduce min (map (λ b. offset H t b.start) bs) → Gap H (spans_of bs) t (unwrap_or r H)
gap_least H t [] None o is = record { before = λ s here. absurd here; most = omega arith; begins = λ l. absurd (omega arith) }
gap_least H t [] (Some k) o is = absurd (cc)
gap_least H t (b ∷ bs) None o is = absurd (cc)
gap_least H t (b ∷ bs) (Some k) o is =
    let (low, before, at) = least_from H t (offset H t b.start) bs in
    let same : k ≡ fold min (offset H t b.start) (map (λ x. offset H t x.start) bs) = cc in
    let below : offset H t b.start < H = mod-lt (b.start + H - t) (omega (arith, o.0.start)) in
    record {
      before = λ s here. ⊎_elim (λ e. omega (arith, ap (λ x. offset H t x.start) e)) (λ there. omega (arith, before s there)) here;
      most = omega arith;
      begins = λ l. ⊎_elim (λ e. (to_span b, inl refl, omega arith)) (λ (s, there, e). (s, inr there, omega arith)) at;
    }
