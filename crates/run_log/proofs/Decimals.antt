-- The digits of a number. Assumes nothing.
use Rattle.std.proofs.Common.{◌≡◌, ℕ, zero, suc, ◌+◌, ◌*◌, ◌/◌, ◌%◌, ◌^◌, ◌<◌, ◌≤◌, true, false, cond, eqb, List, [], ◌∷◌, ◌++◌, length, decimal, max, sym, ap, ◌∙◌, subst, arith, length-append}
use Rattle.std.proofs.Math.Nat.{pow-succ', one-le-pow}
use Rattle.std.specs.Fmt.{digit_glyph, digits_onto}
use Rattle.std.proofs.DigitsParse.{digits_onto-nil}
use Rattle.std.proofs.lemmas.Fmt.{decimal_digit, decimal_step_wide}

-- spelling adds at most as many digits as it is allowed
spelled_short : (k n : ℕ) (acc : List ℕ) → length (digits_onto k 10 false n acc) ≤ k + length acc
spelled_short zero n acc = omega arith
spelled_short (suc k) n acc =
    elim (eqb (n / 10) 0) as (λ t. length (cond t (digit_glyph false (n % 10) ∷ acc) (digits_onto k 10 false (n / 10) (digit_glyph false (n % 10) ∷ acc))) ≤ suc k + length acc) [
      | true ↦ omega arith
      | false ↦ omega (arith, spelled_short k (n / 10) (digit_glyph false (n % 10) ∷ acc))
    ]

-- no number is written with more than 64 digits
pub decimal_short : (n : ℕ) → length (decimal n) ≤ 64
decimal_short n = subst (λ (l : List ℕ). length l ≤ 64) (digits_onto-nil 10 false n) (omega (arith, spelled_short 64 n []))

-- a number is written as its tenth part and then its last digit
pub decimal_split : (n : ℕ) → 10 ≤ n → n < 2 ^ 128 → decimal n ≡ decimal (n / 10) ++ decimal (n % 10)
decimal_split n h fits = decimal_step_wide n h (omega arith) ∙ ap (λ (l : List ℕ). decimal (n / 10) ++ l) (sym (decimal_digit (n % 10) (omega arith)))

pub length-decimal_digit : (n : ℕ) → n < 10 → length (decimal n) ≡ 1
length-decimal_digit n h = ap length (decimal_digit n h)

pub length-decimal_split : (n : ℕ) → 10 ≤ n → n < 2 ^ 128 → length (decimal n) ≡ length (decimal (n / 10)) + 1
length-decimal_split n h fits = omega (arith, ap length (decimal_split n h fits), length-append (decimal (n / 10)) (decimal (n % 10)), length-decimal_digit (n % 10) (omega arith))

-- as many digits as the logarithm of base 10 says
pub digits_counted : (k n : ℕ) → n < 2 ^ 128 → 10 ^ k ≤ max n 1 → max n 1 < 10 * 10 ^ k → k + 1 ≡ length (decimal n)
digits_counted zero n fits low high = omega (arith, length-decimal_digit n (omega arith))
digits_counted (suc k) n fits low high =
    let step : 10 ^ suc k ≡ 10 * 10 ^ k = pow-succ' 10 k in
    let some : 0 < 10 ^ k = one-le-pow k 10 (omega arith) in
    omega (arith, length-decimal_split n (omega arith) fits, digits_counted k (n / 10) (omega arith) (omega arith) (omega arith))
