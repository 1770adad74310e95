-- The fence code keeps the laws.
use Rattle.std.specs.Prelude.{◌≡◌, ℕ, ◌+◌, ◌-◌, ◌^◌, ◌<◌, ◌≤◌, min, Bool, true, false, cond, List, [], ◌∷◌, length, Some, None, Option, nat_le, slice_index, slice_index_or, refl}
use Rattle.std.proofs.Common.{sym, ◌∙◌, arith}
use Rattle.std.proofs.Math.Bool.{and-true}
use Rattle.std.proofs.Math.Logic.{⊎_elim}
use Rattle.std.specs.List.{range_with_len, AllByRecursion}
use Rattle.std.proofs.lemmas.List.FromFn.{get_or-map-range_with_len, length-map-range_with_len}
use Rattle.std.proofs.lemmas.Bool.{cases_lt, le-leb, lt-leb, leb-true, leb-false}
use Rattle.std.proofs.lemmas.Bool.Decides.{same_from_decides}
use Rattle.ternary.specs.declared.digit.Digit.{Digit}
use Rattle.ternary.specs.declared.digit.Digit.TheVariants.{Zero, One, Any}
use Rattle.ternary.specs.Words.{agree, fits}
use Rattle.ternary.proofs.Digits.{agree_any}
use Rattle.codes.specs.declared.span.Span.{Span}
use Rattle.codes.specs.Spans.{holds}
use Rattle.codes.specs.Meaning.{Lawful, Small, Values, Boxes, in_box, sharp}
use Rattle.simple.specs.Fence.{fence, fenced, fence_field, fence_digit, fence_side}
use Rattle.codes.proofs.Maps.{fits_map, all_map}
use Rattle.codes.proofs.Offsets.{in_field_parts, straight}

sharp_fence : (v i : ℕ) → sharp (fence_digit v i) ≡ true
sharp_fence v i = elim (nat_le i v) as (λ b. sharp (cond b One Zero) ≡ true) [ true ↦ refl | false ↦ refl ]

-- a digit of the value and one of the span agree, by the three ways of each
agree_fence : (x y z : Bool) → agree (cond x One Zero) (cond y One (cond z Zero Any)) ≡ true → (y ≡ true → x ≡ true) × (y ≡ false → z ≡ true → x ≡ false)
agree_fence true true z e = (λ _. refl, λ f _. f)
agree_fence true false true e = (λ _. refl, λ _ _. sym e)
agree_fence true false false e = (λ _. refl, λ _ f. sym f)
agree_fence false true z e = (λ _. e, λ _ _. refl)
agree_fence false false z e = (λ f. f, λ _ _. refl)

fence_agree : (x y z : Bool) → (y ≡ true → x ≡ true) → (y ≡ false → z ≡ true → x ≡ false) → agree (cond x One Zero) (cond y One (cond z Zero Any)) ≡ true
fence_agree true true z p q = refl
fence_agree true false true p q = sym (q refl refl)
fence_agree true false false p q = refl
fence_agree false true z p q = p refl
fence_agree false false true p q = refl
fence_agree false false false p q = refl

module _ (w : ℕ) (v : ℕ) (s : Span) (hv : v < 2 ^ w) (hs : s.low < 2 ^ w) (hn : 1 ≤ s.len) (ht : s.low + s.len ≤ 2 ^ w) where
  fence_span : fits (fenced (fence_digit v) w) (fenced (fence_side (Some s)) w) ≡ holds w (Some s) v
  unfolding fenced
  fence_span =
      let l = s.low in let t = s.low + s.len in
      let d = fits_map (fence_digit v) (fence_side (Some s)) 1 (2 ^ w - 1) in
      same_from_decides {P = (l ≤ v) × (v < t)} _ _ (
        (λ e. (
          ⊎_elim (λ (b : v < l).
              let a = agree_fence (nat_le l v) (nat_le l l) (nat_le t l) (d.0 e l (omega arith) (omega arith)) in
              let g = leb-true l v (a.0 (le-leb l l (omega arith))) in absurd (omega arith))
              (λ b. b) (cases_lt v l),
          ⊎_elim (λ b. b) (λ (b : t ≤ v).
              let a = agree_fence (nat_le t v) (nat_le t l) (nat_le t t) (d.0 e t (omega arith) (omega arith)) in
              let g = leb-false t v (a.1 (lt-leb t l (omega arith)) (le-leb t t (omega arith))) in absurd (omega arith)) (cases_lt v t),
        )),
        (λ p. d.1 (λ i lo hi.
            fence_agree (nat_le i v) (nat_le i l) (nat_le t i)
            (λ y. le-leb i v (omega (arith, leb-true i l y, p.0)))
            (λ y z. lt-leb i v (omega (arith, leb-true t i z, p.1))))),
      )
      (straight (2 ^ w) l s.len v hv hs ht)

any_fits : (f : ℕ → Digit) (w : ℕ) → fits (fenced f w) (fenced (fence_side None) w) ≡ true
unfolding fenced
any_fits f w = (fits_map f (fence_side None) 1 (2 ^ w - 1)).1 (λ i lo hi. agree_any (f i))

pub fenced_length : (f : ℕ → Digit) (w : ℕ) → length (fenced f w) ≡ 2 ^ w - 1
unfolding fenced
fenced_length f w = length-map-range_with_len f 1 (2 ^ w - 1)

-- the digit at place j is digit j + 1
pub fenced_at : (f : ℕ → Digit) (w j : ℕ) → j < 2 ^ w - 1 → slice_index_or (fenced f w) j Any ≡ f (j + 1)
unfolding fenced
fenced_at f w j h = get_or-map-range_with_len f 1 (2 ^ w - 1) j (j + 1) Any h (omega arith)

fenced_sharp : (v w : ℕ) → AllByRecursion (λ d. sharp d ≡ true) (fenced (fence_digit v) w)
unfolding fenced
fenced_sharp v w = all_map (λ d. sharp d ≡ true) (fence_digit v) (sharp_fence v) (range_with_len 1 (2 ^ w - 1))

pub fence_lawful : (w : ℕ) → 1 ≤ w → w ≤ 6 → Lawful (fence w)
fence_lawful w h k = record {
  some = omega arith;
  each = (
    record {
      least = h;
      most = omega arith;
      single = λ s lt. le-leb (s + 1) (2 ^ w) (omega arith);
      reaches = λ q r lt le. le-leb (q - r + (min (2 ^ w - 1) (q + r) + 1 - (q - r))) (2 ^ w) (omega arith);
    },
    tt,
  );
  value_size = λ vs t. fenced_length (fence_digit (slice_index vs 0)) w;
  box_size = λ bs t. fenced_length (fence_side (slice_index_or bs 0 None)) w;
  no_any = λ vs t. fenced_sharp (slice_index vs 0) w;
  matching = match;
}
  where
    match : Small (fence w) → (vs : List ℕ) (bs : List (Option Span)) → Values (fence_field w ∷ []) vs → Boxes (fence_field w ∷ []) bs
        → fits (fenced (fence_digit (slice_index vs 0)) w) (fenced (fence_side (slice_index_or bs 0 None)) w) ≡ in_box (fence_field w ∷ []) vs bs
    match small [] bs t u = absurd t
    match small (v ∷ vs) [] t u = absurd u
    match small (v ∷ vs) (None ∷ bs) t u = any_fits (fence_digit v) w
    match small (v ∷ vs) (Some s ∷ bs) t u =
        let p = in_field_parts w s u.0.0 in
        fence_span w v s t.0 p.0 p.1 (leb-true _ _ u.0.1) ∙ sym (and-true (holds w (Some s) v))
