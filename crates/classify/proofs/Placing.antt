-- The rules of a list are placed one by one, and the rows hold those that got one.
use Rattle.std.proofs.Common.{◌≡◌, ℕ, zero, suc, ◌+◌, ◌<◌, ◌≤◌, Bool, true, false, cond, ◌⊎◌, List, [], ◌∷◌, ◌++◌, map, length, get_or, take, replicate, None, Ok, Err, filter, Option, sym, refl, ap, ◌∙◌, subst, ⊎_elim, arith}
use Rattle.std.proofs.lemmas.List.{append-nil, length-take, length-append, length_push, map-append, take_all, take-append-le, take-replicate, length-replicate}
use Rattle.std.proofs.lemmas.List.Elements.{filter_more}
use Rattle.ternary.specs.declared.refusal.Refusal.{Refusal}
use Rattle.ternary.specs.declared.word.Word.{Word}
use Rattle.codes.specs.Meaning.{Meaning}
use Rattle.chips.specs.declared.row.Row.{Row}
use Rattle.chips.specs.Chip.{Holding, empty_row, meaning}
use Rattle.chips.specs.Lent.{rows_over}
use Rattle.listing.specs.declared.rule.Rule.{Rule}
use Rattle.rules.specs.Rules.{Held}
use Rattle.rules.specs.Rules.{Rule as RowRule}
use Rattle.classify.specs.Placed.{as_row, taken, placed, Step}

-- the rules that get a row, with one rule more to place
module _ (m : Meaning) (n : ℕ) (rs : List Rule) (i : ℕ) (r : Rule) (lt : i < length rs) (is : r ≡ get_or rs i r) where
  -- those of the first i rules that the code takes, as rows hold them
  accepted : List RowRule
  accepted = map as_row (filter (taken m) (take i rs))

  more : (b : Bool) → taken m r ≡ b → map as_row (filter (taken m) (take (i + 1) rs)) ≡ accepted ++ map as_row (cond b (r ∷ []) [])
  unfolding accepted
  more b h =
      ap (map as_row) (filter_more (taken m) rs i r lt ∙ ap (λ (x : Rule). filter (taken m) (take i rs) ++ cond (taken m x) (x ∷ []) []) (sym is))
      ∙ map-append as_row (filter (taken m) (take i rs)) (cond (taken m r) (r ∷ []) [])
      ∙ ap (λ (x : Bool). accepted ++ map as_row (cond x (r ∷ []) [])) h

  pub placed_not_taken : taken m r ≡ false → placed m n (take (i + 1) rs) ≡ placed m n (take i rs)
  unfolding accepted
  placed_not_taken h = ap (take n) (more false h ∙ append-nil accepted)

  pub placed_full : n ≤ length (placed m n (take i rs)) → placed m n (take (i + 1) rs) ≡ placed m n (take i rs)
  unfolding accepted
  placed_full full =
      ap (take n) (more (taken m r) refl) ∙ take-append-le n accepted (map as_row (cond (taken m r) (r ∷ []) [])) (omega (arith, length-take n accepted))

  pub placed_one_more : taken m r ≡ true → length (placed m n (take i rs)) < n → placed m n (take (i + 1) rs) ≡ placed m n (take i rs) ++ as_row r ∷ []
  unfolding accepted
  placed_one_more h room =
      let short : length accepted < n = omega (arith, length-take n accepted) in
      let long : length (accepted ++ as_row r ∷ []) ≤ n = omega (arith, length-append accepted (as_row r ∷ [])) in
      ap (take n) (more true h) ∙ take_all n (accepted ++ as_row r ∷ []) long ∙ ap (λ (xs : List RowRule). xs ++ as_row r ∷ []) (sym (take_all n accepted (omega arith)))

-- after i rules the n rows hold those that got one, and the next row is behind them
pub record Filled (m : Meaning) (n : ℕ) (rs : List Rule) (i : ℕ) (rows : List Holding) (row : ℕ) : Type 0 where
  pub long : length rows ≡ n
  pub holds : Held m (placed m n (take i rs)) rows
  pub next : row ≡ length (placed m n (take i rs))

module _ (m : Meaning) (n : ℕ) (rs : List Rule) (i : ℕ) (r : Rule) (lt : i < length rs) (is : r ≡ get_or rs i r) (old new : List Holding) (row after : ℕ) (f : Filled m n rs i old row) where
  pub filled_done : (w : Word) → Step m r row old new (Ok w) → after ≡ row + 1 → Filled m n rs (i + 1) new after
  filled_done w step up =
      let e = placed_one_more m n rs i r lt is step.0 (omega (arith, f.next, step.1, f.long)) in
      record {
        long = step.2 ∙ f.long;
        holds = subst (λ (xs : List RowRule). Held m xs new) (sym e) (step.3 (placed m n (take i rs)) f.holds f.next);
        next = omega (arith, ap length e, length_push (placed m n (take i rs)) (as_row r), f.next);
      }

  stays : (taken m r ≡ false) ⊎ (length old ≤ row) → placed m n (take (i + 1) rs) ≡ placed m n (take i rs)
  stays why =
      ⊎_elim (placed_not_taken m n rs i r lt is) (λ (full : length old ≤ row). placed_full m n rs i r lt is (omega (arith, f.next, f.long))) why

  pub filled_same : (e : Refusal) → Step m r row old new (Err e) → after ≡ row → Filled m n rs (i + 1) new after
  filled_same e step kept =
      let s = stays step.1 in
      record {
        long = ap length step.0 ∙ f.long;
        holds = subst (λ (xs : List RowRule). Held m xs new) (sym s) (subst (Held m (placed m n (take i rs))) (sym step.0) f.holds);
        next = kept ∙ f.next ∙ sym (ap length s);
      }

empty_rows : (n : ℕ) → map meaning (replicate n None) ≡ replicate n empty_row
empty_rows zero = refl
empty_rows (suc n) = ap (λ (rows : List Holding). empty_row ∷ rows) (empty_rows n)

-- the first n of 256 places that are empty hold no rule
pub fresh_held : (m : Meaning) (n : ℕ) (places : List (Option Row)) → places ≡ take n (replicate 256 None) → n ≤ 256 → Held m [] (rows_over places)
fresh_held m n places e h =
    let empty = ap (map meaning) (e ∙ take-replicate n 256 None h) ∙ empty_rows n in
    record {
      taken = tt;
      plain = tt;
      free = n;
      are = ap (take 256) empty ∙ take_all 256 (replicate n empty_row) (omega (arith, length-replicate n empty_row));
    }
