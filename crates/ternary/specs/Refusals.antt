-- Number, place and layer of each refusal. Every promise about a refused call speaks of these three numbers.
use Rattle.std.specs.Prelude.{◌≡◌, ℕ, Ok, Err, Result}
use Rattle.ternary.specs.declared.refusal.Layer.{Layer}
use Rattle.ternary.specs.declared.refusal.Layer.TheVariants.{Chip, Code, Sorter, Stream}
use Rattle.ternary.specs.declared.refusal.Refusal.{Refusal}
use Rattle.ternary.specs.declared.refusal.Refusal.TheVariants.{NoSuchRow, BadSetting, CodeTooLarge, WrongFieldCount, OutsideField, SpanNotTaken}

-- what a refusal tells: its number, its place (0 where none is named) and its layer
pub record Report : Type 0 where
  pub number : ℕ
  pub place : ℕ
  pub layer : ℕ

abbrev pub report : ℕ → ℕ → ℕ → Report
report n p l = record { number = n; place = p; layer = l }

abbrev pub told : Refusal → Report
told (NoSuchRow row) = report 1 row 0
told BadSetting = report 2 0 1
told CodeTooLarge = report 5 0 2
told WrongFieldCount = report 8 0 1
told (OutsideField field) = report 9 field 1
told (SpanNotTaken field) = report 10 field 1

abbrev pub layer_number : Layer → ℕ
layer_number Chip = 0
layer_number Code = 1
layer_number Sorter = 2
layer_number Stream = 3

-- a call's answer, with a refusal as what it tells
abbrev pub answered : {T : Type 0} → Result T Refusal → Result T Report
answered (Ok x) = Ok x
answered (Err e) = Err (told e)

-- refusals that tell the same are one refusal
abbrev pub RefusalsLaw : Type 0
RefusalsLaw = (a b : Refusal) → told a ≡ told b → a ≡ b
