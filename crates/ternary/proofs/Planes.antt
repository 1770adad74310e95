-- A word's digits, by its two planes of bits.
use Rattle.std.proofs.Common.{◌≡◌, ℕ, ◌<◌, Bool, true, false, cond, not, ◌&&◌, ◌||◌, eqb, List, length, get_or, set, replicate, Decides, sym, refl, ap, ◌∙◌, ap₂, ⊎_elim, arith, ext_get_or, length-set, get_or-set_other, get_or-set_same}
use denote.Enum.Bare.{sameb}
use mathlib.Core.Bool.{and-true}
use Rattle.std.proofs.lemmas.Bool.{cases_eq, cond-true, cond-false, eq-eqb, ne_eqb, true≢false, not-true}
use Rattle.std.proofs.lemmas.List.{length-replicate, get_or-replicate}
use Rattle.std.proofs.lemmas.List.FromFn.{get_or-map-range_with_len, length-map-range_with_len}
use Rattle.ternary.specs.contracts.digit.Digit.{the_type}
use Rattle.ternary.specs.declared.digit.Digit.{Digit}
use Rattle.ternary.specs.declared.digit.Digit.TheVariants.{Zero, One, Any}
use Rattle.ternary.specs.declared.plane.Plane.{Plane}
use Rattle.ternary.specs.declared.word.Word.{Word}
use Rattle.ternary.specs.Bit.{differs}
use Rattle.ternary.specs.Planes.{plane_bit, HasBits}
use Rattle.ternary.specs.Words.{digit_of, digit_at, digits, agree, fits, over, joining}
use Rattle.ternary.proofs.Digits.{fits_at, fits_from, joining_length, joining_at}

pub digits_at : (w : Word) (i : ℕ) → i < 256 → get_or (digits w) i Any ≡ digit_at w i
unfolding digits
digits_at w i h = get_or-map-range_with_len (digit_at w) 0 256 i i Any h (omega arith)

pub digits_length : (w : Word) → length (digits w) ≡ 256
unfolding digits
digits_length w = length-map-range_with_len (digit_at w) 0 256

-- what two planes that read bits c and o read as digits
pub digits_from : (w : Word) (c o : ℕ → Bool) → HasBits w.care c → HasBits w.ones o → (ds : List Digit) → length ds ≡ 256
    → ((p : ℕ) → p < 256 → digit_of (c p) (o p) ≡ get_or ds p Any) → digits w ≡ ds
unfolding digit_at
digits_from w c o care ones ds l at =
    let n = digits_length w in
    ext_get_or Any (digits w) ds (n ∙ sym l)
    (λ p h. let lt : p < 256 = omega arith in digits_at w p lt ∙ ap₂ digit_of (care p lt) (ones p lt) ∙ at p lt)

pub get_digit : (w : Word) (i : ℕ) → i < 256 → get_or (digits w) i Any ≡ digit_of (plane_bit w.care i) (plane_bit w.ones i)
unfolding digit_at
get_digit = digits_at

pub blank_digits : (w : Word) → HasBits w.care (λ p. false) → HasBits w.ones (λ p. false) → digits w ≡ replicate 256 Any
blank_digits w care ones =
    digits_from w (λ p. false) (λ p. false) care ones (replicate 256 Any) (length-replicate 256 Any) (λ p h. sym (get_or-replicate 256 p Any Any h))

-- digit i made d
pub put_digit : (w v : Word) (i : ℕ) (d : Digit) → i < 256
    → ((p : ℕ) → p < 256 → plane_bit v.care p ≡ cond (eqb p i) (not (sameb the_type d Any)) (plane_bit w.care p))
    → ((p : ℕ) → p < 256 → plane_bit v.ones p ≡ cond (eqb p i) (sameb the_type d One) (plane_bit w.ones p)) → digits v ≡ set (digits w) i d
unfolding digit_at
put_digit w v i d lt care ones =
    let lw = digits_length w in
    let hi : i < length (digits w) = omega arith in
    digits_from v (λ p. cond (eqb p i) (not (sameb the_type d Any)) (plane_bit w.care p)) (λ p. cond (eqb p i) (sameb the_type d One) (plane_bit w.ones p))
    care ones (set (digits w) i d) (length-set (digits w) i d ∙ lw)
    (λ p h.
    put_bits d (eqb p i) (plane_bit w.care p) (plane_bit w.ones p)
    ∙ ⊎_elim
    (λ e. cond-true (eqb p i) d (digit_at w p) (eq-eqb p i e) ∙ sym (ap (λ (q : ℕ). get_or (set (digits w) i d) q Any) e ∙ get_or-set_same (digits w) i d Any hi))
    (λ ne. cond-false (eqb p i) d (digit_at w p) (ne_eqb p i ne) ∙ sym (get_or-set_other (digits w) i p d Any ne ∙ digits_at w p h))
    (cases_eq p i))
  where
    put_bits : (d : Digit) (t x y : Bool) → digit_of (cond t (not (sameb the_type d Any)) x) (cond t (sameb the_type d One) y) ≡ cond t d (digit_of x y)
    put_bits Zero true x y = refl
    put_bits One true x y = refl
    put_bits Any true x y = refl
    put_bits d false x y = refl

-- two words joined
pub join_digits : (a b v : Word) → ((p : ℕ) → p < 256 → plane_bit v.care p ≡ (plane_bit a.care p || plane_bit b.care p))
    → ((p : ℕ) → p < 256 → plane_bit v.ones p ≡ (plane_bit a.ones p || (plane_bit b.ones p && not (plane_bit a.care p))))
    → digits v ≡ joining (digits a) (digits b)
unfolding digit_at
join_digits a b v care ones =
    let l = digits_length a in
    digits_from v (λ p. plane_bit a.care p || plane_bit b.care p) (λ p. plane_bit a.ones p || (plane_bit b.ones p && not (plane_bit a.care p))) care ones
    (joining (digits a) (digits b)) (joining_length (digits a) (digits b) ∙ l)
    (λ p h.
    join_bits (plane_bit a.care p) (plane_bit a.ones p) (plane_bit b.care p) (plane_bit b.ones p) (a.within p h)
    ∙ sym (joining_at (digits a) (digits b) p (omega arith) ∙ ap₂ over (digits_at a p h) (digits_at b p h)))
  where
    join_bits : (c v d u : Bool) → (v && not c) ≡ false → digit_of (c || d) (v || (u && not c)) ≡ over (digit_of c v) (digit_of d u)
    join_bits true true d u h = refl
    join_bits true false d true h = refl
    join_bits true false d false h = refl
    join_bits false true d u h = absurd (true≢false h)
    join_bits false false d u h = ap (digit_of d) (and-true u)

-- two words match where no digit clashes
pub clash_digits : (a b : Word) (m : Plane)
    → ((p : ℕ) → p < 256 → plane_bit m p ≡ ((plane_bit a.care p && plane_bit b.care p) && differs (plane_bit a.ones p) (plane_bit b.ones p)))
    → Decides (fits (digits a) (digits b)) (HasBits m (λ p. false))
unfolding digit_at
clash_digits a b m clash = (
  λ e p h. not-true (plane_bit m p) (sym (agreeing p h) ∙ fits_at (digits a) (digits b) e p),
  λ none. fits_from (digits a) (digits b) (λ p h.
      let n = digits_length a in
      let lt : p < 256 = omega arith in
      agreeing p lt ∙ ap not (none p lt)),
)
  where
    clash_bits : (c d v u : Bool) → agree (digit_of c v) (digit_of d u) ≡ not ((c && d) && differs v u)
    clash_bits false d v u = refl
    clash_bits true false false u = refl
    clash_bits true false true u = refl
    clash_bits true true false false = refl
    clash_bits true true false true = refl
    clash_bits true true true false = refl
    clash_bits true true true true = refl

    agreeing : (p : ℕ) → p < 256 → agree (get_or (digits a) p Any) (get_or (digits b) p Any) ≡ not (plane_bit m p)
    agreeing p h =
        ap₂ agree (digits_at a p h) (digits_at b p h) ∙ clash_bits (plane_bit a.care p) (plane_bit b.care p) (plane_bit a.ones p) (plane_bit b.ones p)
        ∙ sym (ap not (clash p h))
