-- Quotients that are taken downward, and the two ways in which a layer's digit comes out.
use Rattle.std.specs.Prelude.{◌≡◌, ℕ, zero, suc, ◌+◌, ◌-◌, ◌*◌, ◌/◌, ◌%◌, ◌<◌, ◌≤◌, Bool, true, false, cond, ℤ, pos, negsuc, ◌+ℤ◌, ◌*ℤ◌, ◌≤ℤ◌, ◌<ℤ◌, ◌==◌, nat_eq, nat_lt, refl}
use Rattle.std.proofs.Common.{sym, ap, subst, ◌∙◌, div-add-mod', mod-lt, add-mul, arith}
use Rattle.std.proofs.Math.Nat.{div-eq_of_lt}
use Rattle.std.proofs.Math.IntN.{sub_ℕ}
use Rattle.std.proofs.lemmas.Int.{ints}
use Rattle.std.proofs.lemmas.Bool.{lt-ltb, le-ltb, cond-true, cond-false, eqb-true, eqb-false}
use Rattle.std.proofs.lemmas.Bool.Decides.{nat_tests}
use Rattle.short.specs.Floor.{floor, odd, FloorLaw}
use Rattle.short.specs.Short.{layer}

-- at a value from i on the quotient is that of naturals
pub layer_from : (h v i : ℕ) → i ≤ v → layer h v i ≡ ((v - i) / h % 2 == 1)
unfolding layer
layer_from h v i le = ap (λ (a : ℤ). odd (floor a h)) (cond-false (nat_lt v i) (negsuc (i - suc v)) (pos (v - i)) (le-ltb v i le))

-- at a value below i, which is less than h, it is −1
pub layer_under : (h v i : ℕ) → v < i → i < h → layer h v i ≡ true
unfolding layer
layer_under h v i lt below =
    ap (λ (a : ℤ). odd (floor a h)) (cond-true (nat_lt v i) (negsuc (i - suc v)) (pos (v - i)) (lt-ltb v i lt))
    ∙ ap (λ (n : ℕ). nat_eq (n % 2) 0) (div-eq_of_lt (let l : i - suc v < h = omega arith in l))

next_above : (n h q : ℕ) → q * h ≤ n → negsuc n <ℤ ((negsuc q +ℤ pos 1) *ℤ pos h)
next_above n h zero le = omega (arith, ints)
next_above n h (suc q) le =
    let e : sub_ℕ 1 (suc (suc q)) ≡ negsuc q =
    cond-true (nat_lt 1 (suc (suc q))) (negsuc (suc (suc q) - 2)) (pos (1 - suc (suc q))) (lt-ltb 1 (suc (suc q)) (omega arith)) ∙ ap negsuc (omega arith) in
    subst (λ (a : ℤ). negsuc n <ℤ (a *ℤ pos h)) (sym e) (omega (arith, ints))

floors : (a : ℤ) (h : ℕ) → 0 < h → ((floor a h *ℤ pos h) ≤ℤ a) × (a <ℤ ((floor a h +ℤ pos 1) *ℤ pos h))
floors (pos n) h p =
    let d = div-add-mod' n h in let m = mod-lt n p in let t = add-mul (n / h) 1 h in let o : 1 * h ≡ h = omega arith in
    (omega (arith, ints), omega (arith, ints))
floors (negsuc n) h p =
    let d = div-add-mod' n h in let m = mod-lt n p in let t = add-mul (n / h) 1 h in let o : 1 * h ≡ h = omega arith in
    let q : suc (n / h) * h ≡ (n / h + 1) * h = ap (λ (x : ℕ). x * h) (omega arith) in
    (omega (arith, ints), next_above n h (n / h) (omega arith))

negative : (n : ℕ) (b : Bool) → (n % 2 == 0) ≡ b → negsuc n ≡ (negsuc (n / 2) *ℤ pos 2) +ℤ pos (cond b 1 0)
negative n true e = let z = eqb-true (n % 2) 0 e in omega (arith, ints)
negative n false e = omega (arith, ints, eqb-false (n % 2) 0 e)

halves : (a : ℤ) → (q : ℤ) × (a ≡ (q *ℤ pos 2) +ℤ pos (cond (odd a) 1 0))
halves (pos n) = (pos (n / 2), ap pos (grind (arith, nat_tests)))
halves (negsuc n) = (negsuc (n / 2), negative n (n % 2 == 0) refl)

pub floor_law : FloorLaw
floor_law = (floors, halves)
