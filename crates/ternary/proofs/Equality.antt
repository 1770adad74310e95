-- Words with the same digits are one word, and a test of the planes decides it.
use Rattle.std.proofs.Common.{◌≡◌, ℕ, ◌<◌, Bool, true, false, not, ◌&&◌, eqb, List, length, get_or, sym, refl, ap, ◌∙◌, ap₂}
use denote.Struct.Props.{props}
use mathlib.Core.HLevel.{Σ_prop_path}
use Rattle.std.specs.Cmp.Lexicographic.{pointwise}
use Rattle.std.proofs.lemmas.Bool.{and_parts, and_from}
use Rattle.std.proofs.lemmas.Bool.Decides.{same_from_decides}
use Rattle.ternary.specs.declared.digit.Digit.{Digit}
use Rattle.ternary.specs.declared.digit.Digit.TheVariants.{One, Any}
use Rattle.ternary.specs.declared.plane.Plane.{Plane}
use Rattle.ternary.specs.declared.word.Word.{Word}
use Rattle.ternary.specs.Bit.{Fitting}
use Rattle.ternary.specs.Planes.{plane_bit, HasBits, Within}
use Rattle.ternary.specs.Words.{digit_of, digits, same_word, WordsLaw}
use Rattle.ternary.specs.Sameness.{same_law}
use Rattle.ternary.proofs.Limbs.{limbs_same, planes_decide}
use Rattle.ternary.proofs.Planes.{digits_length, digits_from, get_digit}

-- a plane as its limbs, with the facts that it keeps
plane_of : (v : (xs : List ℕ) × ((length xs ≡ 4) × Fitting xs)) → Plane
plane_of v = record { limbs = v.0; long = v.1.0; fitting = v.1.1 }

plane_parts : Plane → (xs : List ℕ) × ((length xs ≡ 4) × Fitting xs)
plane_parts x = (x.limbs, (x.long, x.fitting))

-- planes with the same bits are one plane
pub plane_same : (x y : Plane) → HasBits x (plane_bit y) → x ≡ y
unfolding plane_of plane_parts
plane_same x y all =
    ap plane_of (Σ_prop_path {A = List ℕ} {B = λ xs. (length xs ≡ 4) × Fitting xs} (λ xs. hlevel props) {u = plane_parts x} {v = plane_parts y} (limbs_same x y all))

word_of : (v : (ps : Plane × Plane) × Within ps.0 ps.1) → Word
word_of v = record { care = v.0.0; ones = v.0.1; within = v.1 }

word_parts : Word → (ps : Plane × Plane) × Within ps.0 ps.1
word_parts w = ((w.care, w.ones), w.within)

word_same : (a b : Word) → a.care ≡ b.care → a.ones ≡ b.ones → a ≡ b
unfolding word_of word_parts
word_same a b p q =
    ap word_of (Σ_prop_path {A = Plane × Plane} {B = λ ps. Within ps.0 ps.1} (λ ps. hlevel props) {u = word_parts a} {v = word_parts b} (ap₂ (λ (x y : Plane). (x, y)) p q))

-- what a canonical digit tells of its bits
abbrev care_of : Digit → Bool
care_of Any = false
care_of d = true

abbrev one_of : Digit → Bool
one_of One = true
one_of d = false

care_is : (c o : Bool) → care_of (digit_of c o) ≡ c
care_is false o = refl
care_is true false = refl
care_is true true = refl

one_is : (c o : Bool) → (o && not c) ≡ false → one_of (digit_of c o) ≡ o
one_is false false h = refl
one_is false true h = sym h
one_is true false h = refl
one_is true true h = refl

module _ (a b : Word) (e : digits a ≡ digits b) where
  digit_same : (p : ℕ) → p < 256 → digit_of (plane_bit a.care p) (plane_bit a.ones p) ≡ digit_of (plane_bit b.care p) (plane_bit b.ones p)
  digit_same p h = sym (get_digit a p h) ∙ ap (λ ds. get_or ds p Any) e ∙ get_digit b p h

  care_bits : HasBits a.care (plane_bit b.care)
  care_bits p h = sym (care_is (plane_bit a.care p) (plane_bit a.ones p)) ∙ ap care_of (digit_same p h) ∙ care_is (plane_bit b.care p) (plane_bit b.ones p)

  ones_bits : HasBits a.ones (plane_bit b.ones)
  ones_bits p h =
      sym (one_is (plane_bit a.care p) (plane_bit a.ones p) (a.within p h)) ∙ ap one_of (digit_same p h)
      ∙ one_is (plane_bit b.care p) (plane_bit b.ones p) (b.within p h)

pub words_law : WordsLaw
words_law a b e = word_same a b (plane_same a.care b.care (care_bits a b e)) (plane_same a.ones b.ones (ones_bits a b e))

-- `==` of both planes tells whether the words have the same digits
pub same_planes : (a b : Word) → same_word a b ≡ (pointwise eqb a.care.limbs b.care.limbs && pointwise eqb a.ones.limbs b.ones.limbs)
same_planes a b =
    let c = pointwise eqb a.care.limbs b.care.limbs in
    let o = pointwise eqb a.ones.limbs b.ones.limbs in
    let care = planes_decide a.care b.care in
    let ones = planes_decide a.ones b.ones in
    same_from_decides {P = digits a ≡ digits b} (same_word a b) (c && o) (same_law a b) (
      λ t. let both = and_parts c o t in
          digits_from a (plane_bit b.care) (plane_bit b.ones) (care.0 both.0) (ones.0 both.1) (digits b) (digits_length b) (λ p h. sym (get_digit b p h)),
      λ e. and_from c o (care.1 (care_bits a b e)) (ones.1 (ones_bits a b e)),
    )
