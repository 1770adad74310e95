-- The bits of and, or, xor, not and of a number with one bit set or cleared.
use Rattle.std.proofs.Common.{◌≡◌, ℕ, suc, ◌-◌, ◌*◌, ◌/◌, ◌%◌, ◌^◌, ◌<◌, true, false, cond, not, ◌&&◌, ◌||◌, eqb, ap, ◌∙◌, arith, shr-shr}
use native.Mathlib.Nat.{zero-div}
use lib.Bits.{bit_and, bit_or, bit_xor}
use Rattle.std.specs.Int.{bit_at, w64}
use Rattle.std.proofs.lemmas.Bool.Decides.{nat_tests}
use Rattle.std.proofs.lemmas.Nat.Bits.{bit_at-lt, bit_at_and, bit_at_or, bit_at_xor, bit_at_not, same_from_bits_below, shr_and_one, bit_at_set_same, bit_at_set_other, bit_at_clear_same, bit_at_clear_other}
use Rattle.ternary.specs.Bit.{bit}
pub use Rattle.ternary.specs.Bit.{differs}

pub bit-bit_and : (a b i : ℕ) → bit (bit_and a b) i ≡ (bit a i && bit b i)
unfolding bit
bit-bit_and a b i =
    let e = bit_at_and a b i in let l = bit_at-lt a i in let m = bit_at-lt b i in
    grind (arith, nat_tests)

pub bit-bit_or : (a b i : ℕ) → bit (bit_or a b) i ≡ (bit a i || bit b i)
unfolding bit
bit-bit_or a b i =
    let e = bit_at_or a b i in let l = bit_at-lt a i in let m = bit_at-lt b i in
    grind (arith, nat_tests)

pub bit-bit_xor : (a b i : ℕ) → bit (bit_xor a b) i ≡ differs (bit a i) (bit b i)
unfolding bit
bit-bit_xor a b i =
    let e = bit_at_xor a b i in let l = bit_at-lt a i in let m = bit_at-lt b i in
    grind (arith, nat_tests)

pub bit_not : (n i : ℕ) → n < 2 ^ 64 → i < 64 → bit (2 ^ 64 - 1 - n) i ≡ not (bit n i)
unfolding bit
bit_not n i h lt =
    let e = bit_at_not w64 n i h lt in let l = bit_at-lt n i in
    grind (arith, nat_tests)

same_test : (x y : ℕ) → x < 2 → y < 2 → eqb x 1 ≡ eqb y 1 → x ≡ y
same_test x y hx hy e = grind (arith, nat_tests)

pub bit_zero : (i : ℕ) → bit 0 i ≡ false
unfolding bit
bit_zero i = ap (λ (n : ℕ). eqb (n % 2) 1) (zero-div (2 ^ i))

pub bit_suc : (n i : ℕ) → bit (n / 2) i ≡ bit n (suc i)
unfolding bit
bit_suc n i = ap (λ (m : ℕ). eqb (m % 2) 1) (shr-shr n 1 i ∙ ap (λ (j : ℕ). n / 2 ^ j) (omega arith))

-- numbers of k bits with the same bits are one
pub bits_same : (k n m : ℕ) → n < 2 ^ k → m < 2 ^ k → ((i : ℕ) → i < k → bit n i ≡ bit m i) → n ≡ m
unfolding bit
bits_same k n m h g all = same_from_bits_below k n m h g (λ i lt. same_test (bit_at n i) (bit_at m i) (bit_at-lt n i) (bit_at-lt m i) (all i lt))

-- what `(n >> i) & 1 == 1` tells of bit i
pub bit_test : (n i : ℕ) → eqb (bit_and (n / 2 ^ i) 1) 1 ≡ bit n i
unfolding bit
bit_test n i = ap (λ (m : ℕ). eqb m 1) (shr_and_one n i)

-- `n | 1 << j` and `n & !(1 << j)`
pub bit_set : (n j i : ℕ) → j < 64 → bit (bit_or n (1 * 2 ^ j % 2 ^ 64)) i ≡ cond (eqb i j) true (bit n i)
unfolding bit
bit_set n j i h =
    let same = bit_at_set_same w64 n j h in let other = bit_at_set_other w64 n j h i in
    grind (arith, nat_tests)

pub bit_clear : (n j i : ℕ) → j < 64 → i < 64 → bit (bit_and n (2 ^ 64 - 1 - 1 * 2 ^ j % 2 ^ 64)) i ≡ cond (eqb i j) false (bit n i)
unfolding bit
bit_clear n j i h lt =
    let same = bit_at_clear_same w64 n j h in let other = bit_at_clear_other w64 n j h i lt in
    grind (arith, nat_tests)
