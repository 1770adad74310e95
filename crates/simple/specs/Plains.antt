-- The plain code keeps the laws.
use Rattle.std.specs.Prelude.{◌≡◌, ℕ, zero, suc, ◌+◌, ◌-◌, ◌*◌, ◌/◌, ◌%◌, ◌^◌, ◌<◌, ◌≤◌, min, Bool, true, false, not, ◌&&◌, List, [], ◌∷◌, length, Some, None, Decides, Option, ◌==◌, nat_eq, nat_le, nat_lt, slice_index, slice_index_or, refl}
use Rattle.std.proofs.Common.{sym, ap, subst, ◌∙◌, ⊎_elim, add-mul, mul-le-mul_right, div-add-mod', mod-lt, arith, pow_pos, pow_mono, shr-shr, count_ones}
use Rattle.std.proofs.Math.Bool.{and-true}
use Rattle.std.proofs.Math.Nat.{mod-one}
use Rattle.std.proofs.Math.Arith.{digits_div}
use Rattle.std.specs.Int.{is_power_of_two}
use Rattle.std.specs.List.{range_with_len, AllByRecursion}
use Rattle.std.proofs.lemmas.Nat.{div_below, pow_below, shr_below}
use Rattle.std.proofs.lemmas.List.FromFn.{length-map-range_with_len, get_or-map-range_with_len}
use Rattle.std.proofs.lemmas.Bool.{eqb-true, eq-eqb, and_parts, and_from, or_cases, or_left, or_right, cases_lt, cases_eq, le-ltb, lt-ltb, true≢false, leb-true, le-leb}
use Rattle.std.proofs.lemmas.Bool.Decides.{same_from_decides}
use Rattle.ternary.specs.declared.digit.Digit.{Digit}
use Rattle.ternary.specs.declared.digit.Digit.TheVariants.{Any}
use Rattle.ternary.specs.Bit.{bit}
use Rattle.ternary.specs.Words.{digit_of, agree, fits}
use Rattle.ternary.proofs.Digits.{agree_any, sharp_agree, agree_sharp}
use Rattle.ternary.proofs.Bits.{bits_same}
use Rattle.codes.specs.declared.span.Span.{Span}
use Rattle.codes.specs.Spans.{holds}
use Rattle.codes.specs.Meaning.{Lawful, Small, Values, Boxes, in_box, sharp}
use Rattle.simple.specs.Plain.{power, plain_side, highest, plain_field, plain}
use Rattle.codes.proofs.Maps.{fits_map, all_map, sharp_of}
use Rattle.codes.proofs.Powers.{exponent, power_parts, one_digit, digit_of_power}
use Rattle.codes.proofs.Offsets.{in_field_parts, straight}

bit_high : (x k b : ℕ) → bit x (k + b) ≡ bit (x / 2 ^ k) b
unfolding bit
bit_high x k b = ap (λ (n : ℕ). nat_eq (n % 2) 1) (sym (shr-shr x k b))

pub power_is : (w n : ℕ) → power w n ≡ true → (j : ℕ) × (j ≤ w) × (n ≡ 2 ^ j)
unfolding power
power_is zero n e = (0, omega arith, eqb-true n 1 e)
power_is (suc w) n e =
    ⊎_elim (λ x. (suc w, omega arith, eqb-true n (2 ^ suc w) x)) (λ x. let r = power_is w n x in (r.0, omega (arith, r.1), r.2)) (or_cases (n == 2 ^ suc w) (power w n) e)

pub power_one : (w : ℕ) → power w 1 ≡ true
unfolding power
power_one zero = refl
power_one (suc w) = or_right (1 == 2 ^ suc w) (power w 1) (power_one w)

pub fits_highest : (f g : ℕ → Digit) (w : ℕ) → Decides (fits (highest f w) (highest g w)) ((b : ℕ) → b < w → agree (f b) (g b) ≡ true)
unfolding highest
fits_highest f g w =
    let d = fits_map (λ (p : ℕ). f (w - 1 - p)) (λ (p : ℕ). g (w - 1 - p)) 0 w in (
      (λ e b lt. let j : w - 1 - (w - 1 - b) ≡ b = omega arith in subst (λ (x : ℕ). agree (f x) (g x) ≡ true) j (d.0 e (w - 1 - b) (omega arith) (omega arith))),
      (λ all. d.1 (λ p lo hi. all (w - 1 - p) (omega arith))),
    )

-- a span of one block: v lies in it exactly when v / n is s / n
block_span : (n B N s v : ℕ) → 0 < n → N ≡ B * n → s < N → s % n ≡ 0 → v < N → Decides (nat_lt ((v + (N - s % N)) % N) n) (v / n ≡ s / n)
block_span n B N s v np e_n hs z hv =
    let bs = div-add-mod' s n in let bv = div-add-mod' v n in
    let hr : v % n < n = mod-lt v np in
    let hq : s / n < B = div_below s n B np (subst (λ (x : ℕ). s < x) e_n hs) in
    let m = mul-le-mul_right n (let q : s / n + 1 ≤ B = omega arith in q) in
    let a = add-mul (s / n) 1 n in
    let one : 1 * n ≡ n = omega arith in
    let d = straight N s n v hv hs (omega arith) in (
      (λ t. let p = d.0 t in let p0 = p.0 in let p1 = p.1 in
          ap (λ (x : ℕ). x / n) (let e : v ≡ s / n * n + (v - s) = omega arith in e) ∙ digits_div (s / n) (let l : v - s < n = omega arith in l)),
      (λ e. let q : v / n * n ≡ s / n * n = ap (λ (x : ℕ). x * n) e in d.1 (omega arith, omega arith)),
    )

-- at a span of length 2^j
module _ (w j v s : ℕ) (hj : j ≤ w) (hv : v < 2 ^ w) (hs : s < 2 ^ w) (z : s % 2 ^ j ≡ 0) where
  e_n : 2 ^ w ≡ 2 ^ (w - j) * 2 ^ j
  e_n = power_parts w j hj

  kept : (b : ℕ) → j ≤ b → not (nat_lt (2 ^ b) (2 ^ j)) ≡ true
  kept b h = ap not (le-ltb (2 ^ b) (2 ^ j) (pow_mono h))

  dropped : (b : ℕ) → not (nat_lt (2 ^ b) (2 ^ j)) ≡ true → j ≤ b
  dropped b e = ⊎_elim (λ (l : b < j). absurd (true≢false (sym e ∙ ap not (lt-ltb (2 ^ b) (2 ^ j) (pow_below b j l))))) (λ g. g) (cases_lt b j)

  half : (x : ℕ) → x < 2 ^ w → x / 2 ^ j < 2 ^ (w - j)
  half x h = shr_below x (w - j) j (subst (λ (n : ℕ). x < 2 ^ n) (let e : w ≡ (w - j) + j = omega arith in e) h)

  plain_span : fits (highest (λ b. digit_of true (bit v b)) w) (highest (λ b. digit_of (not (nat_lt (2 ^ b) (2 ^ j))) (bit s b)) w) ≡ nat_lt ((v + (2 ^ w - s % 2 ^ w)) % 2 ^ w) (2 ^ j)
  plain_span =
      let d = fits_highest (λ b. digit_of true (bit v b)) (λ b. digit_of (not (nat_lt (2 ^ b) (2 ^ j))) (bit s b)) w in
      same_from_decides {P = v / 2 ^ j ≡ s / 2 ^ j} _ _ (
        (λ e. bits_same (w - j) (v / 2 ^ j) (s / 2 ^ j) (half v hv) (half s hs)
            (λ b h. sym (bit_high v j b) ∙ agree_sharp _ _ _ (d.0 e (j + b) (omega arith)) (kept (j + b) (omega arith)) ∙ bit_high s j b)),
        (λ e. d.1 (λ b h. sharp_agree (bit v b) (not (nat_lt (2 ^ b) (2 ^ j))) (bit s b) (λ c.
            let le = dropped b c in
            let y : j + (b - j) ≡ b = omega arith in
            subst (λ (x : ℕ). bit v x ≡ bit s x) y (bit_high v j (b - j) ∙ ap (λ (x : ℕ). bit x (b - j)) e ∙ sym (bit_high s j (b - j)))))),
      )
      (block_span (2 ^ j) (2 ^ (w - j)) (2 ^ w) s v (pow_pos j) e_n hs z hv)

pub highest_length : (f : ℕ → Digit) (w : ℕ) → length (highest f w) ≡ w
unfolding highest
highest_length f w = length-map-range_with_len (λ (p : ℕ). f (w - 1 - p)) 0 w

sharp_highest : (v w : ℕ) → AllByRecursion (λ d. sharp d ≡ true) (highest (λ b. digit_of true (bit v b)) w)
unfolding highest
sharp_highest v w = all_map (λ d. sharp d ≡ true) (λ (p : ℕ). digit_of true (bit v (w - 1 - p))) (λ p. sharp_of (bit v (w - 1 - p))) (range_with_len 0 w)

single : (w s n : ℕ) → n ≡ 1 → (power w n && s % n == 0) ≡ true
single w s n e = subst (λ (m : ℕ). (power w m && s % m == 0) ≡ true) (sym e) (and_from (power w 1) (s % 1 == 0) (power_one w) (eq-eqb (s % 1) 0 (mod-one s)))

pub plain_lawful : (w : ℕ) → 2 ≤ w → w ≤ 16 → Lawful (plain w)
plain_lawful w h k = record {
  some = omega arith;
  each = (
    record {
      least = omega arith;
      most = k;
      single = λ s lt. single w s 1 refl;
      reaches = λ q r lt le. single w (q - r) (min (2 ^ w - 1) (q + r) + 1 - (q - r)) (omega arith);
    },
    tt,
  );
  value_size = λ vs t. highest_length (λ b. digit_of true (bit (slice_index vs 0) b)) w;
  box_size = λ bs t. highest_length (plain_side (slice_index_or bs 0 None)) w;
  no_any = λ vs t. sharp_highest (slice_index vs 0) w;
  matching = match;
}
  where
    match : Small (plain w) → (vs : List ℕ) (bs : List (Option Span)) → Values (plain_field w ∷ []) vs → Boxes (plain_field w ∷ []) bs
        → fits (highest (λ b. digit_of true (bit (slice_index vs 0) b)) w) (highest (plain_side (slice_index_or bs 0 None)) w) ≡ in_box (plain_field w ∷ []) vs bs
    match small [] bs t u = absurd t
    match small (v ∷ vs) [] t u = absurd u
    match small (v ∷ vs) (None ∷ bs) t u = (fits_highest (λ b. digit_of true (bit v b)) (plain_side None) w).1 (λ b lt. agree_any (digit_of true (bit v b)))
    match small (v ∷ vs) (Some s ∷ bs) t u =
        let p = and_parts (power w s.len) (s.low % s.len == 0) u.0.1 in
        let j = power_is w s.len p.0 in
        let z : s.low % 2 ^ j.0 ≡ 0 = ap (λ (n : ℕ). s.low % n) (sym j.2) ∙ eqb-true (s.low % s.len) 0 p.1 in
        subst (λ (n : ℕ). fits (highest (λ b. digit_of true (bit v b)) w) (highest (λ b. digit_of (not (nat_lt (2 ^ b) n)) (bit s.low b)) w) ≡ nat_lt ((v + (2 ^ w - s.low % 2 ^ w)) % 2 ^ w) n) (sym j.2)
        (plain_span w j.0 v s.low j.1 t.0 (in_field_parts w s u.0.0).0 z)
        ∙ sym (and-true (holds w (Some s) v))

pub highest_at : (f : ℕ → Digit) (w j : ℕ) → j < w → slice_index_or (highest f w) j Any ≡ f (w - 1 - j)
unfolding highest
highest_at f w j h = get_or-map-range_with_len (λ (p : ℕ). f (w - 1 - p)) 0 w j j Any h (omega arith)

pub power_from : (w j n : ℕ) → j ≤ w → n ≡ 2 ^ j → power w n ≡ true
unfolding power
power_from zero j n h e = eq-eqb n 1 (e ∙ ap (λ (i : ℕ). 2 ^ i) (let z : j ≡ 0 = omega arith in z))
power_from (suc w) j n h e =
    ⊎_elim (λ (x : j ≡ suc w). or_left (n == 2 ^ suc w) (power w n) (eq-eqb n (2 ^ suc w) (e ∙ ap (λ (i : ℕ). 2 ^ i) x)))
    (λ ne. or_right (n == 2 ^ suc w) (power w n) (power_from w j n (omega (arith, ne)) e)) (cases_eq j (suc w))

-- a number between two powers of 2
pub power_log : (w n k : ℕ) → 2 ^ k ≤ n → n < 2 * 2 ^ k → (2 ^ k == n && nat_le k w) ≡ power w n
power_log w n k lo hi =
    same_from_decides {P = (n ≡ 2 ^ k) × (k ≤ w)} _ _
    ((λ e. let p = and_parts (2 ^ k == n) (nat_le k w) e in (sym (eqb-true (2 ^ k) n p.0), leb-true k w p.1)), (λ p. and_from (2 ^ k == n) (nat_le k w) (eq-eqb (2 ^ k) n (sym p.0)) (le-leb k w p.1)))
    ((λ e. let j = power_is w n e in let x = exponent k j.0 n lo hi j.2 in (j.2 ∙ ap (λ (i : ℕ). 2 ^ i) x, omega (arith, j.1))), (λ p. power_from w k n p.1 p.0))

-- a number of which one binary digit is set, with the logarithm k
pub power_log_alone : (w n k : ℕ) → is_power_of_two n ≡ true → 2 ^ k ≤ n → n < 2 * 2 ^ k → nat_le k w ≡ power w n
power_log_alone w n k one lo hi =
    let p = one_digit n n (omega arith) (eqb-true (count_ones n) 1 one) in
    let e : 2 ^ k ≡ n = sym (p.1 ∙ ap (λ (i : ℕ). 2 ^ i) (exponent k p.0 n lo hi p.1)) in
    sym (ap (λ (b : Bool). b && nat_le k w) (eq-eqb (2 ^ k) n e)) ∙ power_log w n k lo hi

pub no_power : (w n : ℕ) → is_power_of_two n ≡ false → false ≡ power w n
no_power w n none = by (power w n) refl
  where
    by : (b : Bool) → power w n ≡ b → false ≡ power w n
    by true e = let j = power_is w n e in absurd (true≢false (sym (eq-eqb (count_ones n) 1 (ap count_ones j.2 ∙ digit_of_power j.0)) ∙ none))
    by false e = sym e
