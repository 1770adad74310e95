-- Worked examples at w = 4 and h = 4, each as the code's own definitions tell it.
use Rattle.std.specs.Prelude.{◌≡◌, ℕ, List, [], ◌∷◌, map, Some, None, Ok, Err, codes, Option, Result}
use Rattle.ternary.specs.declared.digit.Digit.{Digit}
use Rattle.ternary.specs.Refusals.{Report, report}
use Rattle.ternary.specs.Words.{symbol}
use Rattle.codes.specs.Spans.{span}
use Rattle.codes.specs.Coding.{values_refusal, box_refusal}
use Rattle.short.specs.Short.{short}

-- a word's digits as they are written, or a refusal
abbrev pub Answer : Type 0
Answer = Result (List ℕ) Report

abbrev pub unless : Option Report → List Digit → Answer
unless None ds = Ok (map symbol ds)
unless (Some e) ds = Err e

abbrev pub value : ℕ → Answer
value v = unless (values_refusal (short 4 2) (v ∷ [])) ((short 4 2).value_word (v ∷ []))

abbrev pub span_of : ℕ → ℕ → Answer
span_of s n = unless (box_refusal (short 4 2) (Some (span s n) ∷ [])) ((short 4 2).box_word (Some (span s n) ∷ []))

abbrev pub WorkedExamples : Type 0
WorkedExamples =
    (value 0 ∷ value 5 ∷ value 15
    ∷ span_of 5 4 ∷ span_of 7 4 ∷ span_of 4 4 ∷ span_of 2 4
    ∷ span_of 7 2 ∷ span_of 15 2 ∷ span_of 6 1
    ∷ span_of 0 5 ∷ [])
    ≡ (Ok (codes "00011") ∷ Ok (codes "01110") ∷ Ok (codes "10011")
    ∷ Ok (codes "*1*1*") ∷ Ok (codes "*1**1") ∷ Ok (codes "01***") ∷ Ok (codes "0*1**")
    ∷ Ok (codes "*1*11") ∷ Ok (codes "*0*11") ∷ Ok (codes "010*0")
    ∷ Err (report 10 0 1) ∷ [])
