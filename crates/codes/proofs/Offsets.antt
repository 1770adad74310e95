-- Offsets modulo 2^w: the subtraction that wraps and is masked, and spans that do not wrap.
use Rattle.std.proofs.Common.{◌≡◌, ℕ, ◌+◌, ◌-◌, ◌*◌, ◌/◌, ◌%◌, ◌^◌, ◌<◌, ◌≤◌, true, ◌&&◌, ltb, leb, Some, Decides, sym, ap, ◌∙◌, subst, ⊎_elim, mod-lt, mod-eq_of_lt, add-mul, div-add-mod', arith, pow_pos, pow-add}
use native.Mathlib.Nat.{add-mod_right, mul-add-mod_self_right}
use lib.Bits.{bit_and, and_mask}
use lib.Pow.{mod-mod-pow}
use Rattle.std.proofs.lemmas.Nat.{div_below}
use Rattle.std.proofs.lemmas.Bool.{cases_lt, ltb-true, lt-ltb, leb-true, and_parts}
use Rattle.codes.specs.declared.span.Span.{Span}
use Rattle.codes.specs.Spans.{in_field}

-- what it says that a span stands in a field
pub in_field_parts : (w : ℕ) (s : Span) → in_field w (Some s) ≡ true → (s.low < 2 ^ w) × (1 ≤ s.len) × (s.len ≤ 2 ^ w)
in_field_parts w s e =
    let p = and_parts (ltb s.low (2 ^ w)) (leb 1 s.len && leb s.len (2 ^ w)) e in
    let q = and_parts (leb 1 s.len) (leb s.len (2 ^ w)) p.1 in
    (ltb-true s.low (2 ^ w) p.0, leb-true 1 s.len q.0, leb-true s.len (2 ^ w) q.1)

-- the offset of v from s modulo P, where neither reaches P
module _ (P s v : ℕ) where
  pub offset_above : s ≤ v → v < P → (v + (P - s % P)) % P ≡ v - s
  offset_above h k =
      let m : s % P ≡ s = mod-eq_of_lt (let l : s < P = omega arith in l) in
      ap (λ (x : ℕ). x % P) (let e : v + (P - s % P) ≡ (v - s) + P = omega arith in e)
      ∙ add-mod_right (v - s) P ∙ mod-eq_of_lt (let e : v - s < P = omega arith in e)

  pub offset_below : v < s → s < P → (v + (P - s % P)) % P ≡ v + P - s
  offset_below h k =
      let m : s % P ≡ s = mod-eq_of_lt k in
      ap (λ (x : ℕ). x % P) (let e : v + (P - s % P) ≡ v + P - s = omega arith in e) ∙ mod-eq_of_lt (let e : v + P - s < P = omega arith in e)

-- a span that does not wrap holds v exactly when v is from s to s + n
pub straight : (P s n v : ℕ) → v < P → s < P → s + n ≤ P → Decides (ltb ((v + (P - s % P)) % P) n) ((s ≤ v) × (v < s + n))
straight P s n v hv hs hn =
    ⊎_elim
    (λ (h : v < s).
    let e = offset_below P s v h hs in (
      (λ t. let l = ltb-true ((v + (P - s % P)) % P) n t in absurd (omega arith)),
      (λ t. absurd (omega (arith, t.0))),
    ))
    (λ (h : s ≤ v).
    let e = offset_above P s v h hv in (
      (λ t. let l = ltb-true ((v + (P - s % P)) % P) n t in (h, omega arith)),
      (λ t. lt-ltb ((v + (P - s % P)) % P) n (omega (arith, t.1))),
    ))
    (cases_lt v s)

-- 65,536 less s is a multiple of 2^w more than 2^w less s mod 2^w
module _ (w : ℕ) (h : w ≤ 16) where
  whole : 65536 ≡ 2 ^ (16 - w) * 2 ^ w
  whole = ap (λ (n : ℕ). 2 ^ n) (let e : 16 ≡ (16 - w) + w = omega arith in e) ∙ pow-add 2 (16 - w) w

  -- subtraction that wraps at 16 bits, masked to w bits, is subtraction modulo 2^w
  pub masked_offset : (v s : ℕ) → s < 65536 → bit_and ((v + (65536 - s)) % 65536) (2 ^ w - 1) ≡ (v + (2 ^ w - s % 2 ^ w)) % 2 ^ w
  masked_offset v s hs =
      let pos : 0 < 2 ^ w = pow_pos w in
      let low : s % 2 ^ w < 2 ^ w = mod-lt s pos in
      let parts : s / 2 ^ w * 2 ^ w + s % 2 ^ w ≡ s = div-add-mod' s (2 ^ w) in
      let under : s / 2 ^ w < 2 ^ (16 - w) = div_below s (2 ^ w) (2 ^ (16 - w)) pos (subst (λ (n : ℕ). s < n) whole hs) in
      let sum : (2 ^ (16 - w) - 1 - s / 2 ^ w + (s / 2 ^ w + 1)) * 2 ^ w ≡ (2 ^ (16 - w) - 1 - s / 2 ^ w) * 2 ^ w + (s / 2 ^ w + 1) * 2 ^ w = add-mul (2 ^ (16 - w) - 1 - s / 2 ^ w) (s / 2 ^ w + 1) (2 ^ w) in
      let one : (s / 2 ^ w + 1) * 2 ^ w ≡ s / 2 ^ w * 2 ^ w + 1 * 2 ^ w = add-mul (s / 2 ^ w) 1 (2 ^ w) in
      let all : (2 ^ (16 - w) - 1 - s / 2 ^ w + (s / 2 ^ w + 1)) * 2 ^ w ≡ 65536 =
      ap (λ (n : ℕ). n * 2 ^ w) (let e : 2 ^ (16 - w) - 1 - s / 2 ^ w + (s / 2 ^ w + 1) ≡ 2 ^ (16 - w) = omega arith in e) ∙ sym whole in
      let total : v + (65536 - s) ≡ (2 ^ (16 - w) - 1 - s / 2 ^ w) * 2 ^ w + (v + (2 ^ w - s % 2 ^ w)) = omega arith in
      and_mask ((v + (65536 - s)) % 65536) w
      ∙ ap (λ (n : ℕ). (v + (65536 - s)) % 2 ^ n % 2 ^ w) (let e : 16 ≡ (16 - w) + w = omega arith in e)
      ∙ mod-mod-pow (v + (65536 - s)) (16 - w) w
      ∙ ap (λ (n : ℕ). n % 2 ^ w) total
      ∙ mul-add-mod_self_right (2 ^ (16 - w) - 1 - s / 2 ^ w) (2 ^ w) (v + (2 ^ w - s % 2 ^ w))
