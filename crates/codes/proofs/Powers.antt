-- Powers of two.
use Rattle.std.proofs.Common.{◌≡◌, ℕ, zero, suc, ◌+◌, ◌-◌, ◌*◌, ◌/◌, ◌%◌, ◌^◌, ◌<◌, ◌≤◌, count_ones, sym, ap, ◌∙◌, ⊎_elim, pow-suc, arith, pow_mono, pow-add}
use lib.Count.{ones_step}
use Rattle.std.specs.Int.{IsPowerOfTwo}
use Rattle.std.proofs.lemmas.Nat.{zero_from_ones, ones_le_self, pow_below}
use Rattle.std.proofs.lemmas.Bool.{cases_eq, cases_lt}

-- the logarithm of a power of two is its exponent
pub exponent : (k j h : ℕ) → 2 ^ k ≤ h → h < 2 * 2 ^ k → h ≡ 2 ^ j → j ≡ k
exponent k j h lo hi e =
    ⊎_elim (λ (l : j < k). let p = pow_below j k l in absurd (omega arith))
    (λ (g : k ≤ j). ⊎_elim (λ x. sym x) (λ ne. let p = pow_mono (let z : suc k ≤ j = omega (arith, ne) in z) in let q = pow-suc 2 k in absurd (omega arith)) (cases_eq k j))
    (cases_lt j k)

pub even_power : (k : ℕ) → 1 ≤ k → 2 ^ k ≡ 2 ^ (k - 1) * 2
even_power k h = ap (λ (n : ℕ). 2 ^ n) (let e : k ≡ suc (k - 1) = omega arith in e) ∙ pow-suc 2 (k - 1)

pub power_parts : (w k : ℕ) → k ≤ w → 2 ^ w ≡ 2 ^ (w - k) * 2 ^ k
power_parts w k h = ap (λ (n : ℕ). 2 ^ n) (let e : w ≡ (w - k) + k = omega arith in e) ∙ pow-add 2 (w - k) k

-- a number of which one binary digit is set is a power of two, and the other way round
pub one_digit : (d n : ℕ) → n ≤ d → count_ones n ≡ 1 → IsPowerOfTwo n
one_digit zero n h e = absurd (omega (arith, ones_le_self n))
one_digit (suc d) n h e =
    let s = ones_step n in
    ⊎_elim
    (λ (even : n % 2 ≡ 0).
    let p = one_digit d (n / 2) (omega (arith, ones_le_self n)) (omega arith) in
    let q = p.1 in let r = pow-suc 2 p.0 in (suc p.0, omega arith))
    (λ odd. let z = zero_from_ones (n / 2) (omega (arith, odd)) in (0, omega (arith, odd)))
    (cases_eq (n % 2) 0)

pub digit_of_power : (k : ℕ) → count_ones (2 ^ k) ≡ 1
digit_of_power zero = let s = ones_step 1 in let z = ones_le_self 0 in omega arith
digit_of_power (suc k) =
    let p = pow-suc 2 k in let s = ones_step (2 ^ suc k) in
    let half : 2 ^ suc k / 2 ≡ 2 ^ k = omega arith in
    let e = ap count_ones half in let r = digit_of_power k in omega arith
