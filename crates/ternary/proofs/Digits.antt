-- Lists of digits: when they match, and how they join.
use Rattle.std.proofs.Common.{◌≡◌, ℕ, zero, suc, ◌<◌, Bool, true, false, List, [], ◌∷◌, length, get_or, sym, refl, ap, arith}
use Rattle.std.proofs.lemmas.Bool.{and_parts, and_from, true≢false}
use Rattle.ternary.specs.declared.digit.Digit.{Digit}
use Rattle.ternary.specs.declared.digit.Digit.TheVariants.{Zero, One, Any}
use Rattle.ternary.specs.Words.{digit_of, agree, fits, over, joining}

pub agree_any : (d : Digit) → agree d Any ≡ true
agree_any Zero = refl
agree_any One = refl
agree_any Any = refl

pub fits_at : (xs ys : List Digit) → fits xs ys ≡ true → (i : ℕ) → agree (get_or xs i Any) (get_or ys i Any) ≡ true
fits_at [] ys e i = refl
fits_at (x ∷ xs) [] e i = agree_any (get_or (x ∷ xs) i Any)
fits_at (x ∷ xs) (y ∷ ys) e zero = (and_parts (agree x y) (fits xs ys) e).0
fits_at (x ∷ xs) (y ∷ ys) e (suc i) = fits_at xs ys (and_parts (agree x y) (fits xs ys) e).1 i

pub fits_from : (xs ys : List Digit) → ((i : ℕ) → i < length xs → agree (get_or xs i Any) (get_or ys i Any) ≡ true) → fits xs ys ≡ true
fits_from [] ys all = refl
fits_from (x ∷ xs) [] all = refl
fits_from (x ∷ xs) (y ∷ ys) all =
    and_from (agree x y) (fits xs ys) (all 0 (omega arith)) (fits_from xs ys (λ i h. all (suc i) (omega arith)))

over_any : (d : Digit) → over d Any ≡ d
over_any Zero = refl
over_any One = refl
over_any Any = refl

pub joining_length : (xs ys : List Digit) → length (joining xs ys) ≡ length xs
joining_length [] ys = refl
joining_length (x ∷ xs) [] = refl
joining_length (x ∷ xs) (y ∷ ys) = ap suc (joining_length xs ys)

pub joining_at : (xs ys : List Digit) (i : ℕ) → i < length xs → get_or (joining xs ys) i Any ≡ over (get_or xs i Any) (get_or ys i Any)
joining_at [] ys i h = absurd (omega arith)
joining_at (x ∷ xs) [] i h = sym (over_any (get_or (x ∷ xs) i Any))
joining_at (x ∷ xs) (y ∷ ys) zero h = refl
joining_at (x ∷ xs) (y ∷ ys) (suc i) h = joining_at xs ys i (omega arith)

-- a digit that is not * agrees with another exactly when that one is * or has the same value
pub sharp_agree : (x c y : Bool) → (c ≡ true → x ≡ y) → agree (digit_of true x) (digit_of c y) ≡ true
sharp_agree true true true f = refl
sharp_agree true true false f = sym (f refl)
sharp_agree false true true f = f refl
sharp_agree false true false f = refl
sharp_agree true false y f = refl
sharp_agree false false y f = refl

pub agree_sharp : (x c y : Bool) → agree (digit_of true x) (digit_of c y) ≡ true → c ≡ true → x ≡ y
agree_sharp true true true e t = refl
agree_sharp true true false e t = sym e
agree_sharp false true true e t = e
agree_sharp false true false e t = refl
agree_sharp x false y e t = absurd (true≢false (sym t))
