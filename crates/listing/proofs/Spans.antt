-- The span from one value of a field to another holds the values that lie there.
use Rattle.std.proofs.Common.{◌≡◌, ℕ, ◌+◌, ◌-◌, ◌%◌, ◌^◌, ◌<◌, ◌≤◌, cond, ◌&&◌, ◌||◌, ltb, leb, ap, ◌∙◌, ap₂, ⊎_elim, arith, pow_pos}
use Rattle.std.proofs.lemmas.Bool.{cases_lt}
use Rattle.std.proofs.lemmas.Bool.Decides.{nat_tests}
use Rattle.codes.proofs.Offsets.{offset_above, offset_below}
use Rattle.listing.specs.Sides.{BetweenLaw}

-- an offset x from l is below the length exactly when v lies from l to h
reached : (c l h v x : ℕ) → l < c → h < c → v < c → x ≡ cond (leb l v) (v - l) (v + c - l) →
    ltb x (cond (leb l h) (h - l + 1) (h + c - l + 1)) ≡ cond (leb l h) (leb l v && leb v h) (leb l v || leb v h)
reached c l h v x hl hh hv e = grind (arith, nat_tests)

-- how far v lies above l modulo c, where neither reaches c
offset : (c l v : ℕ) → l < c → v < c → (v + (c - l % c)) % c ≡ cond (leb l v) (v - l) (v + c - l)
offset c l v hl hv =
    ⊎_elim
    (λ (h : v < l). let e = offset_below c l v h hl in grind (arith, nat_tests))
    (λ (h : l ≤ v). let e = offset_above c l v h hv in grind (arith, nat_tests))
    (cases_lt v l)

pub between_holds : BetweenLaw
between_holds w l h v s b hv =
    let pos : 0 < 2 ^ w = pow_pos w in
    let top : 2 ^ w - 1 + 1 ≡ 2 ^ w = omega arith in
    ap₂ (λ (m n : ℕ). ltb ((v + (2 ^ w - m % 2 ^ w)) % 2 ^ w) n) b.2 (b.3 ∙ ap (λ (c : ℕ). cond (leb l h) (h - l + 1) (h + c - l + 1)) top)
    ∙ reached (2 ^ w) l h v ((v + (2 ^ w - l % 2 ^ w)) % 2 ^ w) (omega (arith, b.0)) (omega (arith, b.1)) hv (offset (2 ^ w) l v (omega (arith, b.0)) hv)
