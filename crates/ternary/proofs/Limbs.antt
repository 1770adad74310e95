-- A plane's bits, by its four limbs.
use Rattle.std.proofs.Common.{◌≡◌, ℕ, ◌+◌, ◌-◌, ◌*◌, ◌/◌, ◌%◌, ◌^◌, ◌<◌, Bool, false, cond, not, eqb, List, length, get_or, set, replicate, Decides, sym, ap, ◌∙◌, ap₂, ⊎_elim, arith, ext_get_or, get_or-set_other, get_or-set_same}
use Rattle.std.proofs.lemmas.Bool.{cases_eq, ne_eqb}
use Rattle.std.proofs.lemmas.Bool.Decides.{nat_tests}
use Rattle.std.specs.Cmp.Lexicographic.{pointwise}
use Rattle.std.proofs.lemmas.List.{get_or-replicate}
use Rattle.std.proofs.lemmas.Slice.Eq.{bytes_eq-Decides}
use Rattle.ternary.specs.declared.plane.Plane.{Plane}
use Rattle.ternary.specs.Bit.{bit}
use Rattle.ternary.specs.Planes.{plane_bit, HasBits}
use Rattle.ternary.proofs.Bits.{bit_not, bit_zero, bits_same}

plane_limb : (x : Plane) (k j : ℕ) → j < 64 → plane_bit x (k * 64 + j) ≡ bit (get_or x.limbs k 0) j
unfolding plane_bit
plane_limb x k j h =
    let ki : (k * 64 + j) / 64 ≡ k = omega arith in
    let ji : (k * 64 + j) % 64 ≡ j = omega arith in
    ap₂ (λ (m n : ℕ). bit (get_or x.limbs m 0) n) ki ji

-- planes with the same bits have the same limbs
pub limbs_same : (x y : Plane) → HasBits x (plane_bit y) → x.limbs ≡ y.limbs
limbs_same x y all =
    let l = x.long in
    let m = y.long in
    ext_get_or 0 x.limbs y.limbs (l ∙ sym m)
    (λ k h.
    let lt : k < 4 = omega arith in
    bits_same 64 (get_or x.limbs k 0) (get_or y.limbs k 0) (x.fitting k lt) (y.fitting k lt)
    (λ j jh. sym (plane_limb x k j jh) ∙ all (k * 64 + j) (omega arith) ∙ plane_limb y k j jh))

-- where each limb is g of the limbs of two planes, and bit j of g is f of their bits j, each bit is f of the bits of both
pub plane_by : (g : ℕ → ℕ → ℕ) (f : Bool → Bool → Bool) → ((x y j : ℕ) → bit (g x y) j ≡ f (bit x j) (bit y j)) → (a b r : Plane)
    → ((k : ℕ) → k < 4 → get_or r.limbs k 0 ≡ g (get_or a.limbs k 0) (get_or b.limbs k 0)) → HasBits r (λ p. f (plane_bit a p) (plane_bit b p))
unfolding plane_bit
plane_by g f rule a b r at p h =
    ap (λ (n : ℕ). bit n (p % 64)) (at (p / 64) (omega arith)) ∙ rule (get_or a.limbs (p / 64) 0) (get_or b.limbs (p / 64) 0) (p % 64)

pub plane_not : (a r : Plane) → ((k : ℕ) → k < 4 → get_or r.limbs k 0 ≡ 2 ^ 64 - 1 - get_or a.limbs k 0) → HasBits r (λ p. not (plane_bit a p))
unfolding plane_bit
plane_not a r at p h =
    let k : p / 64 < 4 = omega arith in
    ap (λ (n : ℕ). bit n (p % 64)) (at (p / 64) k) ∙ bit_not (get_or a.limbs (p / 64) 0) (p % 64) (a.fitting (p / 64) k) (omega arith)

pub plane_none : (x : Plane) → x.limbs ≡ replicate 4 0 → HasBits x (λ p. false)
unfolding plane_bit
plane_none x e p h =
    ap (λ (xs : List ℕ). bit (get_or xs (p / 64) 0) (p % 64)) e
    ∙ ap (λ (n : ℕ). bit n (p % 64)) (get_or-replicate 4 (p / 64) 0 0 (omega arith)) ∙ bit_zero (p % 64)

-- `==` of two planes tells whether they have the same bits
pub planes_decide : (x y : Plane) → Decides (pointwise eqb x.limbs y.limbs) (HasBits x (plane_bit y))
unfolding plane_bit
planes_decide x y = (
  λ t p h. ap (λ (xs : List ℕ). bit (get_or xs (p / 64) 0) (p % 64)) ((bytes_eq-Decides x.limbs y.limbs).0 t),
  λ all. (bytes_eq-Decides x.limbs y.limbs).1 (limbs_same x y all),
)

-- a plane whose limb i / 64 has bit i % 64 made b, and the other limbs and bits as before
pub plane_set : (x y : Plane) (i v : ℕ) (b : Bool) → i < 256 → y.limbs ≡ set x.limbs (i / 64) v
    → ((j : ℕ) → j < 64 → bit v j ≡ cond (eqb j (i % 64)) b (bit (get_or x.limbs (i / 64) 0) j)) → HasBits y (λ p. cond (eqb p i) b (plane_bit x p))
unfolding plane_bit
plane_set x y i v b lt is at p h =
    let l = x.long in
    ap (λ (xs : List ℕ). bit (get_or xs (p / 64) 0) (p % 64)) is
    ∙ ⊎_elim
    (λ e.
    let in' : i / 64 < length x.limbs = omega arith in
    let same : eqb (p % 64) (i % 64) ≡ eqb p i = grind (arith, nat_tests) in
    ap (λ (n : ℕ). bit n (p % 64)) (ap (λ (q : ℕ). get_or (set x.limbs (i / 64) v) q 0) e ∙ get_or-set_same x.limbs (i / 64) v 0 in')
    ∙ at (p % 64) (omega arith) ∙ ap₂ (λ (q : ℕ) t. cond t b (bit (get_or x.limbs q 0) (p % 64))) (sym e) same)
    (λ ne.
    let off : eqb p i ≡ false = ne_eqb p i (λ e. ne (ap (λ (q : ℕ). q / 64) e)) in
    ap (λ (n : ℕ). bit n (p % 64)) (get_or-set_other x.limbs (i / 64) (p / 64) v 0 ne)
    ∙ sym (ap (λ t. cond t b (bit (get_or x.limbs (p / 64) 0) (p % 64))) off))
    (cases_eq (p / 64) (i / 64))
