-- The value of a text of few digits, read digit by digit. Assumes nothing.
use Rattle.std.proofs.Common.{◌≡◌, ℕ, suc, ◌+◌, ◌-◌, ◌*◌, ◌%◌, ◌^◌, ◌<◌, ◌≤◌, List, [], ◌∷◌, length, get_or, refl, ap, ◌∙◌, pow-suc, arith}
use native.Mathlib.Nat.{pow-le-pow_right}
use Rattle.std.proofs.Math.Nat.{mod-eq_of_lt}
use Rattle.std.specs.Int.{IsInRange}
use Rattle.std.specs.List.{fold}
use Rattle.sheet.specs.Numerals.{value_after, value_of}

-- every byte is a digit
abbrev pub Digits : List ℕ → Type 0
Digits w = (k : ℕ) → k < length w → IsInRange 48 57 (get_or w k 0)

-- the number n with the digit x written after it, in 32 bits
abbrev pub with_digit : ℕ → ℕ → ℕ
with_digit n x = (n * 10 + (x - 48)) % 2 ^ 32

-- i digits are worth less than ten to the i
pub one_digit_more : (v i x : ℕ) → v < 10 ^ i → x ≤ 57 → v * 10 + (x - 48) < 10 ^ (i + 1)
one_digit_more v i x low digit =
    let next : i + 1 ≡ suc i = omega arith in
    let more : 10 ^ (i + 1) ≡ 10 ^ i * 10 = ap (λ n. 10 ^ n) next ∙ pow-suc 10 i in
    omega arith

-- six digits are worth less than a million
pub six_digits : (v i : ℕ) → v < 10 ^ i → i < 7 → v < 1000000
six_digits v i low few =
    let within : i ≤ 6 = omega arith in
    let ten : 0 < 10 = omega arith in
    let most : 10 ^ i ≤ 10 ^ 6 = pow-le-pow_right ten within in
    omega arith

-- after i digits, up to seven in all are read as their value
read_on : (w : List ℕ) (n i : ℕ) → Digits w → n < 10 ^ i → i + length w ≤ 7 → fold with_digit n w ≡ value_after n w
read_on [] n i digits low few = refl
read_on (x ∷ xs) n i digits low few =
    let digit = digits 0 (omega arith) in
    let small : n < 1000000 = six_digits n i low (omega arith) in
    let kept : with_digit n x ≡ n * 10 + (x - 48) = mod-eq_of_lt (omega arith) in
    ap (λ m. fold with_digit m xs) kept ∙ read_on xs (n * 10 + (x - 48)) (i + 1) (λ k l. digits (suc k) (omega arith)) (one_digit_more n i x low digit.1) (omega arith)

-- up to seven digits are read as their value
pub read_value : (w : List ℕ) → Digits w → length w ≤ 7 → fold with_digit 0 w ≡ value_of w
read_value w digits few = read_on w 0 0 digits (omega arith) (omega arith)
