-- The Gray code by its bits: it tells numbers apart, and what has the bits on which two neighbours agree is one of them.
use Rattle.std.specs.Prelude.{◌≡◌, ℕ, zero, suc, ◌+◌, ◌*◌, ◌/◌, ◌%◌, ◌^◌, ◌<◌, ◌⊎◌, ◌==◌, nat_eq}
use Rattle.std.proofs.Common.{sym, ap, ◌∙◌, inl, inr, ⊎_elim, pow-suc, arith, shr-shr}
use Rattle.std.proofs.lemmas.Bool.{cases_eq}
use Rattle.std.proofs.lemmas.Bool.Decides.{nat_tests}
use Rattle.ternary.specs.Bit.{bit}
use Rattle.ternary.proofs.Bits.{bit-bit_xor, bit_suc, differs}
use Rattle.short.specs.Short.{lead}

-- bit b of the Gray code of x
unfoldable pub gray : ℕ → ℕ → ℕ
gray x b = (x / 2 ^ b + 1) / 2 % 2

gray_lt : (x b : ℕ) → gray x b < 2
unfolding gray
gray_lt x b = omega arith

differs_gray : (x : ℕ) → differs (x % 2 == 1) (x / 2 % 2 == 1) ≡ ((x + 1) / 2 % 2 == 1)
differs_gray x = grind (arith, nat_tests)

lead_gray : (v b : ℕ) → lead v b ≡ (gray v b == 1)
unfolding lead gray bit
lead_gray v b =
    bit-bit_xor v (v / 2) b ∙ ap (differs (bit v b)) (bit_suc v b)
    ∙ ap (λ (n : ℕ). differs (v / 2 ^ b % 2 == 1) (n % 2 == 1)) (sym (shr-shr v b 1 ∙ ap (λ (j : ℕ). v / 2 ^ j) (omega arith)))
    ∙ differs_gray (v / 2 ^ b)

pub ones_same : (a b : ℕ) → a < 2 → b < 2 → (a == 1) ≡ (b == 1) → a ≡ b
ones_same a b ha hb e = grind (arith, nat_tests)

pub gray_from_lead : (v s b : ℕ) → lead v b ≡ lead s b → gray v b ≡ gray s b
gray_from_lead v s b e = ones_same (gray v b) (gray s b) (gray_lt v b) (gray_lt s b) (sym (lead_gray v b) ∙ e ∙ lead_gray s b)

pub lead_from_gray : (v s b : ℕ) → gray v b ≡ gray s b → lead v b ≡ lead s b
lead_from_gray v s b e = lead_gray v b ∙ ap (λ (n : ℕ). nat_eq n 1) e ∙ sym (lead_gray s b)

-- above its k low bits the code of x is that of x / 2^k
pub gray_high : (x k b : ℕ) → gray x (k + b) ≡ gray (x / 2 ^ k) b
unfolding gray
gray_high x k b = ap (λ (n : ℕ). (n + 1) / 2 % 2) (sym (shr-shr x k b))

gray_suc : (x b : ℕ) → gray x (suc b) ≡ gray (x / 2) b
gray_suc x b = ap (gray x) (omega arith) ∙ gray_high x 1 b

gray_zero : (x : ℕ) → gray x 0 ≡ (x + 1) / 2 % 2
unfolding gray
gray_zero x = ap (λ (n : ℕ). (n + 1) / 2 % 2) (omega arith)

even_or_odd : (q : ℕ) → (q % 2 ≡ 0) ⊎ (q % 2 ≡ 1)
even_or_odd q = ⊎_elim (λ h. inl h) (λ ne. inr (omega (arith, ne))) (cases_eq (q % 2) 0)

-- the half of a number and the lowest bit of its code fix it
low_same : (x y : ℕ) → x / 2 ≡ y / 2 → (x + 1) / 2 % 2 ≡ (y + 1) / 2 % 2 → x ≡ y
low_same x y e f = omega arith

-- numbers of m bits with the same code are one
pub gray_apart : (m x y : ℕ) → x < 2 ^ m → y < 2 ^ m → ((b : ℕ) → b < m → gray x b ≡ gray y b) → x ≡ y
gray_apart zero x y hx hy all = omega arith
gray_apart (suc m) x y hx hy all =
    let p : 2 ^ suc m ≡ 2 ^ m * 2 = pow-suc 2 m in
    low_same x y
    (gray_apart m (x / 2) (y / 2) (omega arith) (omega arith) (λ b h. sym (gray_suc x b) ∙ all (suc b) (omega arith) ∙ gray_suc y b))
    (sym (gray_zero x) ∙ all 0 (omega arith) ∙ gray_zero y)

-- r comes next after q in a circle of p numbers
abbrev pub Next : ℕ → ℕ → ℕ → Type 0
Next p q r = (r ≡ q + 1) ⊎ ((q + 1 ≡ p) × (r ≡ 0))

-- neighbours modulo 2^m: a number with the bits on which they agree is one of the two
pub gray_pair : (m q r x : ℕ) → q < 2 ^ m → r < 2 ^ m → x < 2 ^ m → Next (2 ^ m) q r
    → ((b : ℕ) → b < m → gray q b ≡ gray r b → gray x b ≡ gray q b) → (x ≡ q) ⊎ (x ≡ r)
gray_pair zero q r x hq hr hx n all = inl (omega arith)
gray_pair (suc zero) q r x hq hr hx n all = grind arith
gray_pair (suc (suc m)) q r x hq hr hx n all =
    let p : 2 ^ suc (suc m) ≡ 2 ^ suc m * 2 = pow-suc 2 (suc m) in
    let o : 2 ^ suc m ≡ 2 ^ m * 2 = pow-suc 2 m in
    ⊎_elim
    (λ (even : q % 2 ≡ 0).
    -- the neighbour differs from q in bit 0 alone
    let next : r ≡ q + 1 = grind arith in
    let half : r / 2 ≡ q / 2 = omega arith in
    let high : x / 2 ≡ q / 2 =
    gray_apart (suc m) (x / 2) (q / 2) (omega arith) (omega arith)
    (λ b h. sym (gray_suc x b) ∙ all (suc b) (omega arith) (gray_suc q b ∙ ap (λ (y : ℕ). gray y b) (sym half) ∙ sym (gray_suc r b)) ∙ gray_suc q b) in
    ⊎_elim (λ e. inl e) (λ ne. inr (omega (arith, ne))) (cases_eq x q))
    (λ (odd : q % 2 ≡ 1).
    -- the halves are neighbours, and q and r agree in bit 0
    let next : Next (2 ^ suc m) (q / 2) (r / 2) = grind arith in
    let low : (q + 1) / 2 % 2 ≡ (r + 1) / 2 % 2 = grind arith in
    let bottom : (x + 1) / 2 % 2 ≡ (q + 1) / 2 % 2 =
    sym (gray_zero x) ∙ all 0 (omega arith) (gray_zero q ∙ low ∙ sym (gray_zero r)) ∙ gray_zero q in
    ⊎_elim
    (λ (e : x / 2 ≡ q / 2). inl (low_same x q e bottom))
    (λ (e : x / 2 ≡ r / 2). inr (low_same x r e (bottom ∙ low)))
    (gray_pair (suc m) (q / 2) (r / 2) (x / 2) (omega arith) (omega arith) (omega arith) next
    (λ b h same. sym (gray_suc x b) ∙ all (suc b) (omega arith) (gray_suc q b ∙ same ∙ sym (gray_suc r b)) ∙ gray_suc q b)))
    (even_or_odd q)
