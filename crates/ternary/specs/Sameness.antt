-- The test for the same digits decides whether two words' digits are equal, and so it is an equivalence.
use Rattle.std.specs.Prelude.{◌≡◌, true, false, List, Decides, refl}
use Rattle.std.specs.Cmp.{IsEquivalence, decided, on_equiv}
use Rattle.std.specs.Cmp.Lexicographic.{pointwise, pointwise_decides}
use Rattle.std.proofs.Common.{sym}
use Rattle.std.proofs.lemmas.Bool.{true≢false}
use Rattle.ternary.specs.declared.digit.Digit.{Digit}
use Rattle.ternary.specs.declared.digit.Digit.TheVariants.{Zero, One, Any}
use Rattle.ternary.specs.Words.{digits, same_digit, same_word, SameLaw}

differ : {A : Type 0} → false ≡ true → A
differ e = absurd (true≢false (sym e))

digit_decides : (d e : Digit) → Decides (same_digit d e) (d ≡ e)
digit_decides Zero Zero = (λ t. refl, λ e. refl)
digit_decides Zero One = (differ, λ e. cc)
digit_decides Zero Any = (differ, λ e. cc)
digit_decides One Zero = (differ, λ e. cc)
digit_decides One One = (λ t. refl, λ e. refl)
digit_decides One Any = (differ, λ e. cc)
digit_decides Any Zero = (differ, λ e. cc)
digit_decides Any One = (differ, λ e. cc)
digit_decides Any Any = (λ t. refl, λ e. refl)

pub digits_decide : (xs ys : List Digit) → Decides (pointwise same_digit xs ys) (xs ≡ ys)
digits_decide = pointwise_decides digit_decides

same_digits_equiv : IsEquivalence (pointwise same_digit)
same_digits_equiv = decided (pointwise same_digit) digits_decide

pub same_word_equiv : IsEquivalence same_word
same_word_equiv = on_equiv digits same_digits_equiv

pub same_law : SameLaw
same_law a b = digits_decide (digits a) (digits b)
