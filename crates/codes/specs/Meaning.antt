-- What a field code means (its fields, and the words of a value list and of a box), and the law that it keeps.
use Rattle.std.specs.Prelude.{◌≡◌, ℕ, ◌^◌, ◌<◌, ◌≤◌, Bool, true, false, ◌&&◌, List, [], ◌∷◌, length, Some, None, Option}
use Rattle.std.specs.List.{AllByRecursion}
use Rattle.ternary.specs.declared.digit.Digit.{Digit}
use Rattle.ternary.specs.declared.digit.Digit.TheVariants.{Zero, One, Any}
use Rattle.ternary.specs.Words.{fits}
use Rattle.codes.specs.declared.span.Span.{Span}
use Rattle.codes.specs.Spans.{span, holds, in_field, around}

-- one field: its width, the spans that it accepts, and its reach
pub record Field : Type 0 where
  pub width : ℕ
  pub accepts : Span → Bool
  pub reach : ℕ

-- a code: its fields, its count of digits, the word of a value list, and the word of a box
pub record Meaning : Type 0 where
  pub fields : List Field
  pub size : ℕ
  pub value_word : List ℕ → List Digit
  pub box_word : List (Option Span) → List Digit

-- every field's value lies in its span, or the field is "any"
abbrev pub in_box : List Field → List ℕ → List (Option Span) → Bool
in_box [] vs bs = true
in_box (f ∷ fs) [] bs = true
in_box (f ∷ fs) (v ∷ vs) [] = true
in_box (f ∷ fs) (v ∷ vs) (b ∷ bs) = holds f.width b v && in_box fs vs bs

-- as many elements as fields, each fit for its field
abbrev pub Per : {X : Type 0} → (Field → X → Type 0) → List Field → List X → Type 0
Per R [] [] = Unit {0}
Per R [] (x ∷ xs) = ⊥
Per R (f ∷ fs) [] = ⊥
Per R (f ∷ fs) (x ∷ xs) = R f x × Per R fs xs

-- one value of each field, within its width
abbrev pub Values : List Field → List ℕ → Type 0
Values = Per (λ f v. v < 2 ^ f.width)

-- "any", or a span that stands in the field and that the code accepts
abbrev pub Taken : Field → Option Span → Type 0
Taken f None = Unit {0}
Taken f (Some s) = (in_field f.width (Some s) ≡ true) × (f.accepts s ≡ true)

-- a box: an accepted span, or "any", of each field
abbrev pub Boxes : List Field → List (Option Span) → Type 0
Boxes = Per Taken

-- the law of one field
pub record FieldLaw (f : Field) : Type 0 where
  -- widths are 1 to 16
  pub least : 1 ≤ f.width
  pub most : f.width ≤ 16
  -- every span of length 1 is accepted
  pub single : (s : ℕ) → s < 2 ^ f.width → f.accepts (span s 1) ≡ true
  -- around every value, up to the reach, the span cut off at the field's ends is accepted
  pub reaches : (q r : ℕ) → q < 2 ^ f.width → r ≤ f.reach → f.accepts (around f.width q r) ≡ true

-- a digit that is not *
abbrev pub sharp : Digit → Bool
sharp Zero = true
sharp One = true
sharp Any = false

-- the limits under which a code is put into words
pub record Small (m : Meaning) : Type 0 where
  pub few : length m.fields ≤ 8
  pub short : m.size ≤ 255

-- the law of field codes
pub record Lawful (m : Meaning) : Type 0 where
  -- one field or more, each with its law
  pub some : 1 ≤ length m.fields
  pub each : AllByRecursion FieldLaw m.fields
  -- every word of the code has the code's count of digits
  pub value_size : (vs : List ℕ) → Values m.fields vs → length (m.value_word vs) ≡ m.size
  pub box_size : (bs : List (Option Span)) → Boxes m.fields bs → length (m.box_word bs) ≡ m.size
  -- a value word has no *
  pub no_any : (vs : List ℕ) → Values m.fields vs → AllByRecursion (λ d. sharp d ≡ true) (m.value_word vs)
  -- a value word matches a box word exactly when the box holds the values
  pub matching : Small m → (vs : List ℕ) (bs : List (Option Span)) → Values m.fields vs → Boxes m.fields bs
      → fits (m.value_word vs) (m.box_word bs) ≡ in_box m.fields vs bs

-- stands where there is no field
abbrev pub no_field : Field
no_field = record { width = 0; accepts = λ s. false; reach = 0 }
