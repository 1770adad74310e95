-- A chip that holds a rule list answers what the list gives.
use Rattle.std.proofs.Common.{◌≡◌, ℕ, zero, suc, ◌+◌, ◌<◌, List, [], ◌∷◌, ◌++◌, map, length, set, replicate, Some, None, Ok, Option, sym, refl, ap, ◌∙◌, append_assoc, arith, length-append}
use lib.Seq.{set_at}
use Rattle.std.specs.List.{AllByRecursion}
use Rattle.std.specs.Option.{option_map}
use Rattle.std.proofs.lemmas.List.{length-map, map-append}
use Rattle.std.proofs.ByRecursion.{All-append}
use Rattle.std.proofs.lemmas.Bool.Decides.{nat_tests}
use Rattle.ternary.specs.declared.digit.Digit.{Digit}
use Rattle.ternary.specs.Words.{fits}
use Rattle.ternary.specs.Refusals.{Report}
use Rattle.codes.specs.declared.span.Span.{Span}
use Rattle.codes.specs.Meaning.{Meaning, Lawful, Small, Values, Boxes, in_box}
use Rattle.codes.specs.Coding.{values_refusal, box_refusal}
use Rattle.codes.proofs.Checks.{values_good, box_good}
use Rattle.chips.specs.Chip.{Holding, empty_row, put_answer, first_from}
use Rattle.rules.specs.Rules.{Rule, list_gives, tag_of, number_and_class, row_digits, row_of, unless_refused, place_answer, placed_rows, class_answer, Held}
use Rattle.rules.proofs.RowWords.{row_fits}

abbrev told : ℕ × ℕ → ℕ × ℕ
told hit = number_and_class hit.1

-- a tag tells the number and class that it was made of
tag_tells : (n c : ℕ) → c < 65536 → number_and_class (tag_of n c) ≡ (n, c)
tag_tells n c h = grind arith

none_first : (k i : ℕ) (key : List Digit) → first_from i (replicate k empty_row) key ≡ None
none_first zero i key = refl
none_first (suc k) i key = none_first k (i + 1) key

module _ (m : Meaning) (law : Lawful m) (vs : List ℕ) (small : Small m) (good : Values m.fields vs) where
  rule_fits : (bs : List (Option Span)) → Boxes m.fields bs → fits (row_digits (m.box_word bs)) (row_digits (m.value_word vs)) ≡ in_box m.fields vs bs
  rule_fits bs h =
      row_fits (m.box_word bs) (m.value_word vs) (law.box_size bs h ∙ sym (law.value_size vs good)) ∙ law.matching small vs bs good h

  first_gives : (rs : List Rule) → AllByRecursion (λ r. box_refusal m r.sides ≡ None) rs → AllByRecursion (λ r. r.class < 65536) rs → (k i : ℕ)
      → option_map told (first_from i (map (row_of m) rs ++ replicate k empty_row) (row_digits (m.value_word vs))) ≡ list_gives m.fields rs vs
  first_gives [] ts ps k i = ap (option_map told) (none_first k i (row_digits (m.value_word vs)))
  first_gives (r ∷ rs) ts ps k i =
      let fit = rule_fits r.sides (box_good m r.sides ts.0).1 in
      let tag = tag_tells r.number r.class ps.0 in
      let later = first_gives rs ts.1 ps.1 k (i + 1) in
      grind arith

-- the first matching row's number and class are what the list gives
held_gives : (m : Meaning) → Lawful m → (rs : List Rule) (rows : List Holding) → Held m rs rows → (vs : List ℕ) → values_refusal m vs ≡ None
    → option_map (λ (hit : ℕ × ℕ). number_and_class hit.1) (first_from 0 rows (row_digits (m.value_word vs))) ≡ list_gives m.fields rs vs
held_gives m law rs rows h vs e =
    let g = values_good m vs e in
    ap (λ (l : List Holding). option_map told (first_from 0 l (row_digits (m.value_word vs)))) h.are
    ∙ first_gives m law vs g.0 g.1 rs h.taken h.plain h.free 0

-- one rule more, in the first empty row
more : (m : Meaning) (rs : List Rule) (r : Rule) (k : ℕ) (rows : List Holding) → rows ≡ map (row_of m) rs ++ replicate k empty_row → length rs < length rows
    → (j : ℕ) × (set rows (length rs) (row_of m r) ≡ map (row_of m) (rs ++ r ∷ []) ++ replicate j empty_row)
more m rs r zero rows e h = absurd (omega (arith, ap length e, length-append {A = Holding}, length-map rs (row_of m)))
more m rs r (suc k) rows e h = (k, rw (e, map-append, append_assoc) (set_at (map (row_of m) rs) empty_row (replicate k empty_row) (row_of m r) (length rs) (length-map rs (row_of m))))

held_more : (m : Meaning) (rs : List Rule) (r : Rule) (rows : List Holding) → Held m rs rows → length rs < length rows → box_refusal m r.sides ≡ None
    → r.class < 65536 → Held m (rs ++ r ∷ []) (set rows (length rs) (row_of m r))
held_more m rs r rows h l t c =
    let p = more m rs r h.free rows h.are l in
    record {
      taken = All-append (λ (r : Rule). box_refusal m r.sides ≡ None) rs (r ∷ []) h.taken (t, tt);
      plain = All-append (λ (r : Rule). r.class < 65536) rs (r ∷ []) h.plain (c, tt);
      free = p.0;
      are = p.1;
    }

put_in : (rows : List Holding) (row : ℕ) → put_answer rows row ≡ Ok tt → row < length rows
put_in rows row e = grind (arith, nat_tests)

-- an accepted rule, placed behind a list that the rows hold, makes them hold the longer list
pub placed_held : (m : Meaning) (rs : List Rule) (r : Rule) (rows after : List Holding) (row : ℕ) → Held m rs rows → row ≡ length rs
    → place_answer m rows row r.sides ≡ Ok tt → r.class < 65536 → after ≡ placed_rows (box_refusal m r.sides) rows (set rows row (row_of m r))
    → Held m (rs ++ r ∷ []) after
placed_held m rs r rows after row h e a c p = by (box_refusal m r.sides) refl a p
  where
    by : (o : Option Report) → box_refusal m r.sides ≡ o → unless_refused o (put_answer rows row) ≡ Ok tt → after ≡ placed_rows o rows (set rows row (row_of m r)) → Held m (rs ++ r ∷ []) after
    by None q f s = let l = put_in rows row f in rw (s, e) (held_more m rs r rows h (omega arith) q c)
    by (Some x) q f s = cc

pub class_gives : (m : Meaning) → Lawful m → (rs : List Rule) (rows : List Holding) → Held m rs rows → (vs : List ℕ) → values_refusal m vs ≡ None
    → class_answer m rows vs ≡ Ok (list_gives m.fields rs vs)
class_gives m law rs rows h vs e = let g = held_gives m law rs rows h vs e in grind arith
