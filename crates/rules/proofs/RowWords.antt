-- The digits of a rule's row and of a telegram's key, and when they match.
use Rattle.std.proofs.Common.{◌≡◌, ℕ, zero, suc, ◌-◌, true, ◌&&◌, List, [], ◌∷◌, length, set, replicate, None, Option, refl, ap, ◌∙◌, ap₂, arith}
use lib.Seq.{paste}
use Rattle.std.proofs.lemmas.Grind.{common_steps}
use Rattle.std.proofs.lemmas.List.{drop-replicate}
use Rattle.ternary.specs.declared.digit.Digit.{Digit}
use Rattle.ternary.specs.declared.digit.Digit.TheVariants.{Zero, One, Any}
use Rattle.ternary.specs.Words.{digits, agree, fits}
use Rattle.ternary.specs.declared.word.Word.{Word}
use Rattle.codes.specs.declared.span.Span.{Span}
use Rattle.codes.specs.Meaning.{Meaning, Lawful}
use Rattle.codes.specs.Coding.{values_refusal, box_refusal}
use Rattle.codes.specs.Writing.{ValuesPut, BoxPut}
use Rattle.codes.specs.Joins.{fits_append}
use Rattle.codes.proofs.Checks.{values_good, box_good}
use Rattle.rules.specs.Rules.{row_digits}

-- what coding from digit 1 on leaves in a word that has digit 0 alone
laid : (ds : List Digit) (n : ℕ) → length ds ≡ n → paste (set (replicate 256 Any) 0 Zero) 1 ds n ≡ row_digits ds
laid ds n e = let behind = drop-replicate n 255 Any in grind (arith, common_steps)

-- the word of a telegram's key, and of a rule's row, that is coded behind digit 0
module _ (m : Meaning) (law : Lawful m) (before after : Word) (e : digits before ≡ set (replicate 256 Any) 0 Zero) where
  made : (ds : List Digit) → length ds ≡ m.size → digits after ≡ paste (digits before) 1 ds m.size → digits after ≡ row_digits ds
  made ds l p = p ∙ ap (λ (xs : List Digit). paste xs 1 ds m.size) e ∙ laid ds m.size l

  pub key_made : (vs : List ℕ) → values_refusal m vs ≡ None → ValuesPut m vs 1 before after → digits after ≡ row_digits (m.value_word vs)
  key_made vs t p = made (m.value_word vs) (law.value_size vs (values_good m vs t).1) p

  pub rule_made : (bs : List (Option Span)) → box_refusal m bs ≡ None → BoxPut m bs 1 before after → digits after ≡ row_digits (m.box_word bs)
  rule_made bs t p = made (m.box_word bs) (law.box_size bs (box_good m bs t).1) p

agree_sym : (x y : Digit) → agree x y ≡ agree y x
agree_sym Zero y = grind arith
agree_sym One y = grind arith
agree_sym Any y = grind arith

fits_sym : (xs ys : List Digit) → length xs ≡ length ys → fits xs ys ≡ fits ys xs
fits_sym [] [] e = refl
fits_sym [] (y ∷ ys) e = absurd (omega arith)
fits_sym (x ∷ xs) [] e = absurd (omega arith)
fits_sym (x ∷ xs) (y ∷ ys) e = ap₂ (λ s t. s && t) (agree_sym x y) (fits_sym xs ys (omega arith))

any_fits : (n : ℕ) (ys : List Digit) → fits (replicate n Any) ys ≡ true
any_fits zero ys = refl
any_fits (suc n) [] = refl
any_fits (suc n) (y ∷ ys) = any_fits n ys

-- a row matches a key exactly when their codes' digits do
pub row_fits : (bs vs : List Digit) → length bs ≡ length vs → fits (row_digits bs) (row_digits vs) ≡ fits vs bs
row_fits bs vs e =
    let codes = fits_append (Zero ∷ bs) (Zero ∷ vs) (replicate (255 - length bs) Any) (replicate (255 - length vs) Any) (ap suc e) in
    let behind = any_fits (255 - length bs) (replicate (255 - length vs) Any) in
    let turned = fits_sym bs vs e in
    grind arith
