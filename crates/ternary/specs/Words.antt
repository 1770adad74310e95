-- A word as the list of its 256 digits, when two words match, and how they join.
use Rattle.std.specs.Prelude.{◌≡◌, ℕ, Bool, true, false, ◌&&◌, Decides, List, [], ◌∷◌, map}
use Rattle.std.specs.Cmp.Lexicographic.{pointwise}
use Rattle.std.specs.List.{range_with_len}
use Rattle.ternary.specs.declared.digit.Digit.{Digit}
use Rattle.ternary.specs.declared.digit.Digit.TheVariants.{Zero, One, Any}
use Rattle.ternary.specs.declared.word.Word.{Word}
use Rattle.ternary.specs.Planes.{plane_bit}

-- the digit of a care bit (is it 0 or 1?) and a value bit
abbrev pub digit_of : Bool → Bool → Digit
digit_of false v = Any
digit_of true false = Zero
digit_of true true = One

-- digit i of a word
unfoldable pub digit_at : Word → ℕ → Digit
digit_at w i = digit_of (plane_bit w.care i) (plane_bit w.ones i)

-- the meaning of a word: its digits 0 to 255
unfoldable pub digits : Word → List Digit
digits w = map (digit_at w) (range_with_len 0 256)

-- two digits agree when they are equal or one is *
abbrev pub agree : Digit → Digit → Bool
agree Zero Zero = true
agree Zero One = false
agree Zero Any = true
agree One Zero = false
agree One One = true
agree One Any = true
agree Any d = true

-- two words match when each pair of digits agrees
abbrev pub fits : List Digit → List Digit → Bool
fits [] ys = true
fits (x ∷ xs) [] = true
fits (x ∷ xs) (y ∷ ys) = agree x y && fits xs ys

-- the first digit, or the second where the first is *
abbrev pub over : Digit → Digit → Digit
over Zero e = Zero
over One e = One
over Any e = e

-- two words joined, digit by digit
abbrev pub joining : List Digit → List Digit → List Digit
joining [] ys = []
joining (x ∷ xs) [] = x ∷ xs
joining (x ∷ xs) (y ∷ ys) = over x y ∷ joining xs ys

-- two digits are one and the same
abbrev pub same_digit : Digit → Digit → Bool
same_digit Zero Zero = true
same_digit One One = true
same_digit Any Any = true
same_digit d e = false

-- what `==` answers: the words have the same digits
abbrev pub same_word : Word → Word → Bool
same_word a b = pointwise same_digit (digits a) (digits b)

-- `==` is true exactly where the digits are equal
abbrev pub SameLaw : Type 0
SameLaw = (a b : Word) → Decides (same_word a b) (digits a ≡ digits b)

-- words with the same digits are one word
abbrev pub WordsLaw : Type 0
WordsLaw = (a b : Word) → digits a ≡ digits b → a ≡ b

-- the character that a digit is written as: 0, 1 or *
abbrev pub symbol : Digit → ℕ
symbol Zero = 48
symbol One = 49
symbol Any = 42
