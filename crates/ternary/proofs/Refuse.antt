-- Refusals that tell the same are one refusal: what a refusal tells leads back to it.
use Rattle.std.proofs.Common.{◌≡◌, eqb, cond, sym, refl, ap, ◌∙◌}
use Rattle.ternary.specs.declared.refusal.Refusal.{Refusal}
use Rattle.ternary.specs.declared.refusal.Refusal.TheVariants.{NoSuchRow, BadSetting, CodeTooLarge, WrongFieldCount, OutsideField, SpanNotTaken}
use Rattle.ternary.specs.Refusals.{Report, told, RefusalsLaw}

abbrev back : Report → Refusal
back r =
    cond (eqb r.number 1) (NoSuchRow r.place)
    (cond (eqb r.number 2) BadSetting
    (cond (eqb r.number 5) CodeTooLarge
    (cond (eqb r.number 8) WrongFieldCount
    (cond (eqb r.number 9) (OutsideField r.place) (SpanNotTaken r.place)))))

back_told : (a : Refusal) → back (told a) ≡ a
back_told (NoSuchRow row) = refl
back_told BadSetting = refl
back_told CodeTooLarge = refl
back_told WrongFieldCount = refl
back_told (OutsideField field) = refl
back_told (SpanNotTaken field) = refl

pub refusals_law : RefusalsLaw
refusals_law a b e = sym (back_told a) ∙ ap back e ∙ back_told b
