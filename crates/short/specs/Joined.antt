-- Words that are joined, where some word without * matches both.
use Rattle.std.specs.Prelude.{◌≡◌, true, ◌&&◌, List, [], ◌∷◌, length, refl}
use Rattle.std.proofs.Common.{ap₂, arith}
use Rattle.std.specs.List.{AllByRecursion}
use Rattle.std.proofs.lemmas.Bool.{and_parts, and_from}
use Rattle.ternary.specs.declared.digit.Digit.{Digit}
use Rattle.ternary.specs.Words.{agree, fits, over, joining}
use Rattle.codes.specs.Meaning.{sharp}

-- what a digit that is not * and that agrees with a and b says of the two
agree_both : (y a b : Digit) → sharp y ≡ true → agree y a ≡ true → agree y b ≡ true → (agree a b ≡ true) × (over a b ≡ over b a)
agree_both y a b s p q = grind arith

-- a digit agrees with the join of two that agree exactly when it agrees with both
agree_join : (x a b : Digit) → agree a b ≡ true → agree x (over a b) ≡ (agree x a && agree x b)
agree_join x a b e = grind arith

-- a word without * that matches two words keeps them from clashing
pub fits_both : (ys zs bs : List Digit) → length zs ≡ length ys → length bs ≡ length ys → AllByRecursion (λ d. sharp d ≡ true) ys → fits ys zs ≡ true → fits ys bs ≡ true
    → (fits zs bs ≡ true) × (joining zs bs ≡ joining bs zs)
fits_both [] [] [] l m s p q = (refl, refl)
fits_both [] [] (b ∷ bs) l m s p q = absurd (omega arith)
fits_both [] (a ∷ zs) bs l m s p q = absurd (omega arith)
fits_both (y ∷ ys) [] bs l m s p q = absurd (omega arith)
fits_both (y ∷ ys) (a ∷ zs) [] l m s p q = absurd (omega arith)
fits_both (y ∷ ys) (a ∷ zs) (b ∷ bs) l m s p q =
    let p' = and_parts (agree y a) (fits ys zs) p in
    let q' = and_parts (agree y b) (fits ys bs) q in
    let d = agree_both y a b s.0 p'.0 q'.0 in
    let r = fits_both ys zs bs (omega arith) (omega arith) s.1 p'.1 q'.1 in
    (and_from (agree a b) (fits zs bs) d.0 r.0, ap₂ (λ (e : Digit) (es : List Digit). e ∷ es) d.1 r.1)

-- a word matches the join of two words that match exactly when it matches both
pub fits_join : (xs zs bs : List Digit) → length zs ≡ length xs → length bs ≡ length xs → fits zs bs ≡ true → fits xs (joining zs bs) ≡ (fits xs zs && fits xs bs)
fits_join [] zs bs l m e = refl
fits_join (x ∷ xs) [] bs l m e = absurd (omega arith)
fits_join (x ∷ xs) (a ∷ zs) [] l m e = absurd (omega arith)
fits_join (x ∷ xs) (a ∷ zs) (b ∷ bs) l m e =
    let p = and_parts (agree a b) (fits zs bs) e in
    let d = agree_join x a b p.0 in let r = fits_join xs zs bs (omega arith) (omega arith) p.1 in
    grind arith

pub joining_self : (xs : List Digit) → joining xs xs ≡ xs
joining_self [] = refl
joining_self (x ∷ xs) = let r = joining_self xs in grind arith
