-- What the coding calls answer: which line of refusal fits first, and what the caller's word holds then.
use Rattle.std.specs.Prelude.{◌≡◌, ℕ, ◌+◌, ◌^◌, ◌<◌, Bool, true, false, cond, ◌&&◌, List, [], ◌∷◌, length, Some, None, Ok, Err, Option, Result, ◌==◌, nat_le, nat_lt, slice_index_or}
use Rattle.ternary.specs.declared.refusal.Refusal.{Refusal}
use Rattle.ternary.specs.declared.word.Word.{Word}
use Rattle.ternary.specs.Refusals.{Report, report, told}
use Rattle.codes.specs.declared.span.Span.{Span}
use Rattle.codes.specs.Spans.{in_field}
use Rattle.codes.specs.Meaning.{Field, Meaning, no_field}

-- the value is one of the field's
abbrev pub value_ok : Field → ℕ → Bool
value_ok f v = nat_lt v (2 ^ f.width)

-- the span stands in the field
abbrev pub span_ok : Field → Option Span → Bool
span_ok f b = in_field f.width b

-- the code accepts the span
abbrev pub taken_ok : Field → Option Span → Bool
taken_ok f None = true
taken_ok f (Some s) = f.accepts s

-- the lowest field, counted from i, whose element does not pass
abbrev pub first_bad : {X : Type 0} → (Field → X → Bool) → ℕ → List Field → List X → Option ℕ
first_bad ok i [] xs = None
first_bad ok i (f ∷ fs) [] = None
first_bad ok i (f ∷ fs) (x ∷ xs) = cond (ok f x) (first_bad ok (i + 1) fs xs) (Some i)

-- the field at which a check fails, or none
abbrev pub failing : Result Unit ℕ → Option ℕ
failing (Ok u) = None
failing (Err i) = Some i

-- the line of number n, which fits at a field or at none
abbrev pub at_field : ℕ → Option ℕ → Option Report
at_field n None = None
at_field n (Some i) = Some (report n i 1)

-- the first line, or where it does not fit the lines after it
abbrev pub or_else : Option Report → Option Report → Option Report
or_else (Some e) later = Some e
or_else None later = later

-- at most 8 fields and 255 digits
abbrev pub is_small : Meaning → Bool
is_small m = nat_le (length m.fields) 8 && nat_le m.size 255

-- the lines that look at counts alone: 5, the code is too large for a word; 8, n isn't the code's count of fields
abbrev pub count_refusal : Meaning → ℕ → Option Report
count_refusal m n = cond (is_small m) (cond (n == length m.fields) None (Some (report 8 0 1))) (Some (report 5 0 2))

-- why a value list is refused: 5, 8, or 9, a value exceeds its field
abbrev pub values_refusal : Meaning → List ℕ → Option Report
values_refusal m vs = or_else (count_refusal m (length vs)) (at_field 9 (first_bad value_ok 0 m.fields vs))

-- why a box is refused: 5, 8, 9, a low end or a length is outside its field, or 10, the code doesn't accept a span
abbrev pub box_refusal : Meaning → List (Option Span) → Option Report
box_refusal m bs =
    or_else (count_refusal m (length bs)) (or_else (at_field 9 (first_bad span_ok 0 m.fields bs)) (at_field 10 (first_bad taken_ok 0 m.fields bs)))

-- a check's answer: the refusal, or none
abbrev pub told_of : Result Unit Refusal → Option Report
told_of (Ok u) = None
told_of (Err e) = Some (told e)

-- whatever a call answers at a field and an element is whether the element passes there
abbrev pub Tests : {X : Type 0} → (ℕ → X → Bool → Type 0) → (Field → X → Bool) → List Field → Type 0
Tests {X = X} answers ok fs = (i : ℕ) (x : X) (b : Bool) → i < length fs → answers i x b → b ≡ ok (slice_index_or fs i no_field) x

-- A coding call is refused as the first line that fits says, and the word stays as it was; or no line fits, and it is done.
abbrev pub Coded : Option Report → Type 0 → Word → Word → Result Unit Refusal → Type 0
Coded refusal done before after (Ok u) = (refusal ≡ None) × done
Coded refusal done before after (Err e) = (refusal ≡ Some (told e)) × (after ≡ before)

-- `first_bad` names the lowest field whose element does not pass, or none where all pass
abbrev pub LowestBad : {X : Type 0} → (Field → X → Bool) → X → List Field → List X → Option ℕ → Type 0
LowestBad ok z fs xs None = (i : ℕ) → i < length fs → ok (slice_index_or fs i no_field) (slice_index_or xs i z) ≡ true
LowestBad ok z fs xs (Some i) =
    (i < length fs) × (ok (slice_index_or fs i no_field) (slice_index_or xs i z) ≡ false) × ((j : ℕ) → j < i → ok (slice_index_or fs j no_field) (slice_index_or xs j z) ≡ true)

-- that answer is right, and it is the only one
abbrev pub LowestBadLaw : Type 0 → Type 0
LowestBadLaw X = (ok : Field → X → Bool) (z : X) (fs : List Field) (xs : List X) → length xs ≡ length fs
    → LowestBad ok z fs xs (first_bad ok 0 fs xs) × ((o : Option ℕ) → LowestBad ok z fs xs o → o ≡ first_bad ok 0 fs xs)
