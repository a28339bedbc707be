-- Books in which nothing stands. Assumes nothing.
use Rattle.std.specs.Prelude.{◌≡◌, ℕ, zero, suc, ◌<◌, List, [], replicate, slice_index_or, refl}
use Rattle.std.proofs.Common.{arith}
use Rattle.std.proofs.lemmas.List.{length-replicate}
use Rattle.book.specs.Bare.{empty}
use Rattle.book.specs.Meanings.{total, AllOrderly, Formed}
use Rattle.book.specs.Spans.{Span, Run}

-- no link has a booking
pub empty_row : (n k : ℕ) → slice_index_or {A = List Span} (replicate n []) k [] ≡ []
empty_row zero k = refl
empty_row (suc n) zero = refl
empty_row (suc n) (suc k) = empty_row n k

pub empty_total : (n : ℕ) → total (replicate n []) ≡ 0
empty_total zero = refl
empty_total (suc n) = omega (arith, empty_total n)

empty_orderly : (H n : ℕ) → AllOrderly H (replicate n [])
empty_orderly H zero = tt
empty_orderly H (suc n) = (tt, empty_orderly H n)

pub empty_formed : (cycle links room : ℕ) → Formed (empty cycle links room)
empty_formed cycle links room = record { linked = length-replicate links []; orderly = empty_orderly cycle links; roomy = omega (arith, empty_total links) }

-- where nothing stands the run is the cycle
pub empty_run : (H t : ℕ) → 0 < H → Run H [] t H
empty_run H t some = record {
  stretch = record { some = some; alike = λ j h. record { onward = λ free. free; back = λ free. free } };
  most = omega arith;
  ends = λ h a. omega arith;
}
