-- What a rule's row and a telegram's key hold, and what a rule list gives a telegram.
use Rattle.std.specs.Prelude.{◌≡◌, ℕ, ◌+◌, ◌-◌, ◌*◌, ◌/◌, ◌%◌, ◌<◌, cond, List, [], ◌∷◌, ◌++◌, map, length, replicate, Some, None, Ok, Err, Option, Result, slice_set}
use Rattle.std.specs.List.{AllByRecursion}
use Rattle.std.specs.Option.{option_map}
use Rattle.ternary.specs.declared.digit.Digit.{Digit}
use Rattle.ternary.specs.declared.digit.Digit.TheVariants.{Zero, Any}
use Rattle.ternary.specs.declared.word.Word.{Word}
use Rattle.ternary.specs.declared.refusal.Refusal.{Refusal}
use Rattle.ternary.specs.Words.{digits}
use Rattle.ternary.specs.Refusals.{Report, told}
use Rattle.codes.specs.declared.span.Span.{Span}
use Rattle.codes.specs.Meaning.{Field, Meaning, in_box}
use Rattle.codes.specs.Coding.{values_refusal, box_refusal}
use Rattle.rules.specs.declared.rule.RuleRow.{RuleRow}
use Rattle.chips.specs.Chip.{Holding, empty_row, full_row, put_answer, first_match}

-- a rule as its row holds it: a number and a class of 16 bits, and a box
pub record Rule : Type 0 where
  pub number : ℕ
  pub class : ℕ
  pub sides : List (Option Span)

abbrev pub rule : ℕ → ℕ → List (Option Span) → Rule
rule n c bs = record { number = n; class = c; sides = bs }

-- what the program's rule is
abbrev pub as_rule : RuleRow → Rule
as_rule r = rule r.number r.class r.sides.now

-- What a rule list, in its order, gives a telegram: number and class of the first rule whose box holds it, or none.
abbrev pub list_gives : List Field → List Rule → List ℕ → Option (ℕ × ℕ)
list_gives fs [] vs = None
list_gives fs (r ∷ rs) vs = cond (in_box fs vs r.sides) (Some (r.number, r.class)) (list_gives fs rs vs)

-- a row's tag: the number in its top 16 bits and the class below
abbrev pub tag_of : ℕ → ℕ → ℕ
tag_of number class = number * 65536 + class

abbrev pub number_and_class : ℕ → ℕ × ℕ
number_and_class t = (t / 65536, t % 65536)

-- a tag tells the number and the class that it was made of, and is made of those that it tells
pub record TagLaw : Type 0 where
  pub tells : (n c : ℕ) → c < 65536 → number_and_class (tag_of n c) ≡ (n, c)
  pub made : (t : ℕ) → tag_of (t / 65536) (t % 65536) ≡ t

-- the 256 digits of a rule's row or of a telegram's key: digit 0 is 0, then the code's digits, then *
abbrev pub row_digits : List Digit → List Digit
row_digits ds = (Zero ∷ ds) ++ replicate (255 - length ds) Any

-- the row of a rule
abbrev pub row_of : Meaning → Rule → Holding
row_of m r = full_row (row_digits (m.box_word r.sides)) (tag_of r.number r.class)

-- a word is made, or refused as the first line that fits says
abbrev pub Made : Option Report → List Digit → Result Word Refusal → Type 0
Made refusal ds (Ok w) = (refusal ≡ None) × (digits w ≡ ds)
Made refusal ds (Err e) = refusal ≡ Some (told e)

-- refused as the first line that fits says, or else what is given
abbrev pub unless_refused : {T : Type 0} → Option Report → Result T Report → Result T Report
unless_refused (Some e) r = Err e
unless_refused None r = r

-- what placing a rule in a row answers: the box's refusal, or else that of a row that is not on the chip
abbrev pub place_answer : Meaning → List Holding → ℕ → List (Option Span) → Result Unit Report
place_answer m rows row bs = unless_refused (box_refusal m bs) (put_answer rows row)

-- the rows after it: as they were where the box is refused, else with the rule's row put in its place
abbrev pub placed_rows : Option Report → List Holding → List Holding → List Holding
placed_rows (Some e) before after = before
placed_rows None before after = after

-- what classing a telegram answers: the refusal, or number and class of the first matching row's tag, or none
abbrev pub class_answer : Meaning → List Holding → List ℕ → Result (Option (ℕ × ℕ)) Report
class_answer m rows vs =
    unless_refused (values_refusal m vs) (Ok (option_map (λ (hit : ℕ × ℕ). number_and_class hit.1) (first_match rows (row_digits (m.value_word vs)))))

-- the chip's rows hold a rule list: its rules from row 0 up in the list's order, and empty rows behind them
pub record Held (m : Meaning) (rs : List Rule) (rows : List Holding) : Type 0 where
  pub taken : AllByRecursion (λ r. box_refusal m r.sides ≡ None) rs
  pub plain : AllByRecursion (λ r. r.class < 65536) rs
  pub free : ℕ
  pub are : rows ≡ map (row_of m) rs ++ replicate free empty_row

-- what placing a rule in a row promises, of the rows before and after it and of its answer
pub record Placing (m : Meaning) (row : ℕ) (r : Rule) (before after : List Holding) (answer : Result Unit Report) : Type 0 where
  -- refused as the first line that fits says
  pub answers : answer ≡ place_answer m before row r.sides
  -- accepted, it changes that row and no other; refused, none
  pub leaves : after ≡ placed_rows (box_refusal m r.sides) before (slice_set before row (row_of m r))
  -- in the first row behind a list that the rows hold, an accepted rule makes them hold the list with it at the end
  pub holds : (rs : List Rule) → Held m rs before → row ≡ length rs → answer ≡ Ok tt → Held m (rs ++ r ∷ []) after

-- what classing a telegram promises, of the chip's rows and of its answer
pub record Classing (m : Meaning) (rows : List Holding) (vs : List ℕ) (answer : Result (Option (ℕ × ℕ)) Report) : Type 0 where
  -- refused as the first line that fits says, or else the first matching row's
  pub answers : answer ≡ class_answer m rows vs
  -- where the rows hold a list, an accepted telegram gets what the list gives
  pub gives : (rs : List Rule) → Held m rs rows → values_refusal m vs ≡ None → answer ≡ Ok (list_gives m.fields rs vs)

-- rows that are all empty hold the empty list
abbrev pub EmptyRowsLaw : Type 0
EmptyRowsLaw = (m : Meaning) (count : ℕ) → Held m [] (replicate count empty_row)
