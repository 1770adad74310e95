-- A search for the first match over a caller's memory, one slot a turn.
use Rattle.std.proofs.Common.{◌≡◌, ℕ, ◌+◌, ◌<◌, List, ◌∷◌, length, get_or, map, drop, Some, None, Option, sym, ap, ◌∙◌, refl, arith}
use Rattle.std.proofs.lemmas.List.{length-map, get_or-map, drop_more}
use Rattle.ternary.specs.declared.digit.Digit.{Digit}
use Rattle.chips.specs.declared.row.Row.{Row}
use Rattle.chips.specs.Chip.{Holding, meaning, hit_tag, first_from}

first_here : (r : Holding) (rs : List Holding) (key : List Digit) (i t : ℕ) → Some t ≡ hit_tag r key → first_from i (r ∷ rs) key ≡ Some (i, t)
first_here None rs key i t e = cc
first_here (Some (w, u)) rs key i t e = grind arith

first_later : (r : Holding) (rs : List Holding) (key : List Digit) (i : ℕ) → None ≡ hit_tag r key → first_from i (r ∷ rs) key ≡ first_from (i + 1) rs key
first_later None rs key i e = refl
first_later (Some (w, u)) rs key i e = grind arith

-- the first match from slot i on
abbrev pub first_on : List (Option Row) → List Digit → ℕ → Option (ℕ × ℕ)
first_on xs key i = first_from i (drop i (map meaning xs)) key

module _ (xs : List (Option Row)) (key : List Digit) (i : ℕ) (held : Option Row) where
  here : i < length xs → held ≡ get_or xs i held → drop i (map meaning xs) ≡ meaning held ∷ drop (i + 1) (map meaning xs)
  here h e =
      let l : i < length (map meaning xs) = rw length-map h in
      let r : get_or (map meaning xs) i None ≡ meaning held = get_or-map meaning xs i held None h ∙ ap meaning (sym e) in
      rw r at (drop_more (map meaning xs) i None l)

  -- a row that matches ends the search
  pub found : (t : ℕ) → i < length xs → held ≡ get_or xs i held → Some t ≡ hit_tag (meaning held) key → first_on xs key i ≡ Some (i, t)
  found t h e q = rw (here h e) (first_here (meaning held) (drop (i + 1) (map meaning xs)) key i t q)

  -- one that does not leaves it to the rows behind
  pub passed : i < length xs → held ≡ get_or xs i held → None ≡ hit_tag (meaning held) key → first_on xs key i ≡ first_on xs key (i + 1)
  passed h e q = rw (here h e) (first_later (meaning held) (drop (i + 1) (map meaning xs)) key i q)
