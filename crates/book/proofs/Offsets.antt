-- Ticks that go round a cycle, and how far they lie from a start. Assumes nothing.
use Rattle.std.proofs.Common.{◌≡◌, ℕ, ◌+◌, ◌-◌, ◌%◌, ◌<◌, ◌≤◌, ◌⊎◌, ◌∙◌, inl, inr, ⊎_elim, mod-lt, mod-eq_of_lt, arith}
use native.Mathlib.Nat.{mod-eq-sub-mod}
use Rattle.book.specs.Spans.{round, offset}
use Rattle.std.proofs.lemmas.Bool.{cases_lt}

-- what is left of a number below two cycles
pub remainder : (x H : ℕ) → x < H + H → ((x < H) × (x % H ≡ x)) ⊎ ((H ≤ x) × (x % H ≡ x - H))
remainder x H l =
    ⊎_elim
    (λ h. inl (h, mod-eq_of_lt h))
    (λ h. let less : x - H < H = omega arith in inr (h, mod-eq-sub-mod h ∙ mod-eq_of_lt less))
    (cases_lt x H)

module _ (H start : ℕ) (begins : start < H) where
  pub round_below : (j : ℕ) → round H start j < H
  round_below j = mod-lt (start + j) (omega arith)

  pub offset_below : (t : ℕ) → offset H start t < H
  offset_below t = mod-lt (t + H - start) (omega arith)

  -- the tick that comes j ticks after the start comes j ticks after it
  pub offset_round : (j : ℕ) → j < H → offset H start (round H start j) ≡ j
  offset_round j l =
      let below = round_below j in
      ⊎_elim
      (λ a. ⊎_elim (λ b. omega arith) (λ b. omega arith) (remainder (round H start j + H - start) H (omega arith)))
      (λ a. ⊎_elim (λ b. omega arith) (λ b. omega arith) (remainder (round H start j + H - start) H (omega arith)))
      (remainder (start + j) H (omega arith))

  -- a tick comes after the start by its offset
  pub round_offset : (t : ℕ) → t < H → round H start (offset H start t) ≡ t
  round_offset t l =
      let below = offset_below t in
      ⊎_elim
      (λ a. ⊎_elim (λ b. omega arith) (λ b. omega arith) (remainder (start + offset H start t) H (omega arith)))
      (λ a. ⊎_elim (λ b. omega arith) (λ b. omega arith) (remainder (start + offset H start t) H (omega arith)))
      (remainder (t + H - start) H (omega arith))

  pub offset_start : offset H start start ≡ 0
  offset_start = ⊎_elim (λ b. omega arith) (λ b. omega arith) (remainder (start + H - start) H (omega arith))

  -- only the start has offset 0
  pub offset_zero : (t : ℕ) → t < H → offset H start t ≡ 0 → t ≡ start
  offset_zero t l e = ⊎_elim (λ b. omega arith) (λ b. omega arith) (remainder (t + H - start) H (omega arith))
