-- That a book is formed has one proof at most. Assumes nothing.
use mathlib.Core.HLevel.{⊥_prop}
use Rattle.std.proofs.Common.{◌≡◌, ℕ, List, [], ◌∷◌, refl}
use native.Mathlib.Bridge.{le_prop}
use native.Mathlib.Nat.{ℕ_set}
use Rattle.limits.specs.Ranges.{Within}
use Rattle.book.specs.Meanings.{Meaning, AllOrderly, Formed}
use Rattle.book.specs.Spans.{Span, Free, Later, Fits, Orderly}

pub within_prop : {l h n : ℕ} (a b : Within l h n) → a ≡ b
within_prop a b = λ i. record { least = le_prop a.least b.least i; most = le_prop a.most b.most i }

pub free_prop : (H : ℕ) (ss : List Span) (t : ℕ) (a b : Free H ss t) → a ≡ b
free_prop H [] t a b = refl
free_prop H (s ∷ ss) t a b = λ i. (λ c. ⊥_prop (a.0 c) (b.0 c) i, free_prop H ss t a.1 b.1 i)

later_prop : (t : ℕ) (ss : List Span) (a b : Later t ss) → a ≡ b
later_prop t [] a b = refl
later_prop t (s ∷ ss) a b = λ i. (le_prop a.0 b.0 i, later_prop t ss a.1 b.1 i)

fits_prop : {H : ℕ} {s : Span} (a b : Fits H s) → a ≡ b
fits_prop a b = λ i. record { start = le_prop a.start b.start i; ticks = within_prop a.ticks b.ticks i; flow = within_prop a.flow b.flow i }

pub orderly_prop : (H : ℕ) (ss : List Span) (a b : Orderly H ss) → a ≡ b
orderly_prop H [] a b = refl
orderly_prop H (s ∷ ss) a b = λ i. (fits_prop a.0 b.0 i, later_prop s.start ss a.1 b.1 i, λ t l c. free_prop H ss t (a.2 t l c) (b.2 t l c) i, orderly_prop H ss a.3 b.3 i)

all_prop : (H : ℕ) (rs : List (List Span)) (a b : AllOrderly H rs) → a ≡ b
all_prop H [] a b = refl
all_prop H (r ∷ rs) a b = λ i. (orderly_prop H r a.0 b.0 i, all_prop H rs a.1 b.1 i)

pub formed_prop : (m : Meaning) (a b : Formed m) → a ≡ b
formed_prop m a b = λ i. record { linked = ℕ_set _ _ a.linked b.linked i; orderly = all_prop m.cycle m.rows a.orderly b.orderly i; roomy = le_prop a.roomy b.roomy i }
