-- The numbers of a sheet. Assumes nothing.
use Rattle.std.specs.Prelude.{◌≡◌, ℕ, ◌+◌, ◌-◌, ◌*◌, ◌<◌, ◌≤◌, List, [], ◌∷◌, length, slice_index, slice_index_or}

-- the number n with the digits of a text written after it
abbrev pub value_after : ℕ → List ℕ → ℕ
value_after n [] = n
value_after n (x ∷ xs) = value_after (n * 10 + (x - 48)) xs

-- the decimal value of a text of digits
abbrev pub value_of : List ℕ → ℕ
value_of w = value_after 0 w

-- the word w is a number, and n is its value
pub record Numeral (w : List ℕ) (n : ℕ) : Type 0 where
  pub some : 0 < length w
  pub few : length w ≤ 7
  pub digits : (k : ℕ) → k < length w → (48 ≤ slice_index w k) × (slice_index w k ≤ 57)
  pub plain : slice_index_or w 0 0 ≡ 48 → length w ≡ 1
  pub value : n ≡ value_of w

-- the word is no number
abbrev pub NoNumber : List ℕ → Type 0
NoNumber w = (n : ℕ) → Numeral w n → ⊥
