-- Division of integers with the quotient taken downward, toward minus infinity, and its remainder by 2.
use Rattle.std.specs.Prelude.{◌≡◌, ℕ, ◌/◌, ◌%◌, ◌<◌, Bool, cond, ℤ, pos, negsuc, ◌+ℤ◌, ◌*ℤ◌, ◌≤ℤ◌, ◌<ℤ◌, ◌==◌}

-- floor(a / h). `negsuc n` is −(n + 1): the h numbers −h to −1 have the quotient −1, the h below them −2, and so on.
abbrev pub floor : ℤ → ℕ → ℤ
floor (pos n) h = pos (n / h)
floor (negsuc n) h = negsuc (n / h)

-- a mod 2 is 1, where the result of mod is 0 or 1 for a negative a too
abbrev pub odd : ℤ → Bool
odd (pos n) = n % 2 == 1
odd (negsuc n) = n % 2 == 0

-- the quotient is the greatest number whose product with h is at most a; and a is twice some number, or one more
abbrev pub FloorLaw : Type 0
FloorLaw =
    ((a : ℤ) (h : ℕ) → 0 < h → ((floor a h *ℤ pos h) ≤ℤ a) × (a <ℤ ((floor a h +ℤ pos 1) *ℤ pos h)))
    × ((a : ℤ) → (q : ℤ) × (a ≡ (q *ℤ pos 2) +ℤ pos (cond (odd a) 1 0)))
