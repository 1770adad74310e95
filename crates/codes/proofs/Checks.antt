-- What it tells that every element passes, and that the lowest field whose element does not is the only such answer.
use Rattle.std.proofs.Common.{◌≡◌, ℕ, zero, suc, ◌+◌, ◌^◌, ◌<◌, ◌≤◌, Bool, true, false, cond, eqb, leb, List, [], ◌∷◌, length, get_or, Some, None, Option, sym, refl, ap, ◌∙◌, ⊎_elim, arith}
use Rattle.std.proofs.lemmas.Bool.{ltb-true, leb-true, eqb-true, and_parts, cond-true, cond-false, true≢false, cases_lt, cases_eq}
use Rattle.ternary.specs.Refusals.{Report, report}
use Rattle.codes.specs.declared.span.Span.{Span}
use Rattle.codes.specs.Meaning.{Field, Meaning, Small, Per, Values, Taken, Boxes, no_field}
use Rattle.codes.specs.Coding.{first_bad, at_field, or_else, count_refusal, is_small, value_ok, span_ok, taken_ok, values_refusal, box_refusal, LowestBad, LowestBadLaw}

module _ {X : Type 0} (ok : Field → X → Bool) where
  -- where no field is named, each element passes
  pub none_bad : (fs : List Field) (xs : List X) (i : ℕ) → length xs ≡ length fs → first_bad ok i fs xs ≡ None → Per (λ f x. ok f x ≡ true) fs xs
  none_bad [] [] i l e = tt
  none_bad [] (x ∷ xs) i l e = absurd (omega arith)
  none_bad (f ∷ fs) [] i l e = absurd (omega arith)
  none_bad (f ∷ fs) (x ∷ xs) i l e = by (ok f x) refl (λ h. none_bad fs xs (i + 1) (omega arith) h)
    where
      by : (b : Bool) → ok f x ≡ b → (first_bad ok (i + 1) fs xs ≡ None → Per (λ f x. ok f x ≡ true) fs xs) → (ok f x ≡ true) × Per (λ f x. ok f x ≡ true) fs xs
      by true q rest = (q, rest (sym (cond-true (ok f x) (first_bad ok (i + 1) fs xs) (Some i) q) ∙ e))
      by false q rest =
          let s : Some i ≡ None = sym (cond-false (ok f x) (first_bad ok (i + 1) fs xs) (Some i) q) ∙ e in
          let z : ◌≡◌ {A = ℕ} 0 1 = cc in absurd (omega arith)

-- ---- what it tells that no line fits

or_none : (a b : Option Report) → or_else a b ≡ None → (a ≡ None) × (b ≡ None)
or_none None b e = (refl, e)
or_none (Some r) b e = let z : ◌≡◌ {A = ℕ} 0 1 = cc in absurd (omega arith)

at_none : (n : ℕ) (o : Option ℕ) → at_field n o ≡ None → o ≡ None
at_none n None e = refl
at_none n (Some i) e = let z : ◌≡◌ {A = ℕ} 0 1 = cc in absurd (omega arith)

small_from : (m : Meaning) → is_small m ≡ true → Small m
small_from m e =
    let p = and_parts (leb (length m.fields) 8) (leb m.size 255) e in
    record { few = leb-true (length m.fields) 8 p.0; short = leb-true m.size 255 p.1 }

count_good : (m : Meaning) (n : ℕ) → count_refusal m n ≡ None → Small m × (n ≡ length m.fields)
count_good m n e = by (is_small m) (eqb n (length m.fields)) refl refl e
  where
    by : (s t : Bool) → is_small m ≡ s → eqb n (length m.fields) ≡ t → cond s (cond t None (Some (report 8 0 1))) (Some (report 5 0 2)) ≡ None → Small m × (n ≡ length m.fields)
    by true true p q e = (small_from m p, eqb-true n (length m.fields) q)
    by true false p q e = let z : ◌≡◌ {A = ℕ} 0 1 = cc in absurd (omega arith)
    by false t p q e = let z : ◌≡◌ {A = ℕ} 0 1 = cc in absurd (omega arith)

per_both : {X : Type 0} (R S : Field → X → Type 0) (Q : Field → X → Type 0) → ((f : Field) (x : X) → R f x → S f x → Q f x)
    → (fs : List Field) (xs : List X) → Per R fs xs → Per S fs xs → Per Q fs xs
per_both R S Q to [] [] h k = tt
per_both R S Q to [] (x ∷ xs) h k = h
per_both R S Q to (f ∷ fs) [] h k = h
per_both R S Q to (f ∷ fs) (x ∷ xs) h k = (to f x h.0 k.0, per_both R S Q to fs xs h.1 k.1)

pub values_good : (m : Meaning) (vs : List ℕ) → values_refusal m vs ≡ None → Small m × Values m.fields vs
values_good m vs e =
    let p = or_none (count_refusal m (length vs)) (at_field 9 (first_bad value_ok 0 m.fields vs)) e in
    let q = count_good m (length vs) p.0 in
    let n = none_bad value_ok m.fields vs 0 q.1 (at_none 9 (first_bad value_ok 0 m.fields vs) p.1) in
    (q.0, per_both (λ f v. value_ok f v ≡ true) (λ f v. value_ok f v ≡ true) (λ f v. v < 2 ^ f.width) (λ f v t _. ltb-true v (2 ^ f.width) t) m.fields vs n n)

taken_from : (f : Field) (b : Option Span) → span_ok f b ≡ true → taken_ok f b ≡ true → Taken f b
taken_from f None p q = tt
taken_from f (Some s) p q = (p, q)

pub box_good : (m : Meaning) (bs : List (Option Span)) → box_refusal m bs ≡ None → Small m × Boxes m.fields bs
box_good m bs e =
    let nine = first_bad span_ok 0 m.fields bs in
    let ten = first_bad taken_ok 0 m.fields bs in
    let p = or_none (count_refusal m (length bs)) (or_else (at_field 9 nine) (at_field 10 ten)) e in
    let q = count_good m (length bs) p.0 in
    let r = or_none (at_field 9 nine) (at_field 10 ten) p.1 in (
      q.0,
      per_both (λ f b. span_ok f b ≡ true) (λ f b. taken_ok f b ≡ true) Taken taken_from m.fields bs
          (none_bad span_ok m.fields bs 0 q.1 (at_none 9 nine r.0)) (none_bad taken_ok m.fields bs 0 q.1 (at_none 10 ten r.1)),
    )

-- ---- the lowest field by places

module _ {X : Type 0} (ok : Field → X → Bool) (z : X) where
  abbrev passes : List Field → List X → ℕ → Bool
  passes fs xs i = ok (get_or fs i no_field) (get_or xs i z)

  -- the answer of a search that counts from b
  abbrev Found : List Field → List X → ℕ → Option ℕ → Type 0
  Found fs xs b None = (i : ℕ) → i < length fs → passes fs xs i ≡ true
  Found fs xs b (Some r) = (j : ℕ) × (r ≡ b + j) × (j < length fs) × (passes fs xs j ≡ false) × ((i : ℕ) → i < j → passes fs xs i ≡ true)

  later : (f : Field) (x : X) (fs : List Field) (xs : List X) (b : ℕ) (o : Option ℕ) → ok f x ≡ true → Found fs xs (b + 1) o → Found (f ∷ fs) (x ∷ xs) b o
  later f x fs xs b None q h = below
    where
      below : (i : ℕ) → i < length (f ∷ fs) → passes (f ∷ fs) (x ∷ xs) i ≡ true
      below zero l = q
      below (suc i) l = h i (omega arith)
  later f x fs xs b (Some r) q h = (suc h.0, omega (arith, h.1), omega (arith, h.2), h.3, below)
    where
      below : (i : ℕ) → i < suc h.0 → passes (f ∷ fs) (x ∷ xs) i ≡ true
      below zero l = q
      below (suc i) l = h.4 i (omega arith)

  found : (fs : List Field) (xs : List X) (b : ℕ) → length xs ≡ length fs → Found fs xs b (first_bad ok b fs xs)
  found [] xs b l = λ i h. absurd (omega arith)
  found (f ∷ fs) [] b l = absurd (omega arith)
  found (f ∷ fs) (x ∷ xs) b l = by (ok f x) refl (found fs xs (b + 1) (omega arith))
    where
      by : (t : Bool) → ok f x ≡ t → Found fs xs (b + 1) (first_bad ok (b + 1) fs xs) → Found (f ∷ fs) (x ∷ xs) b (cond t (first_bad ok (b + 1) fs xs) (Some b))
      by true q rest = later f x fs xs b (first_bad ok (b + 1) fs xs) q rest
      by false q rest = (0, omega arith, omega arith, q, λ i h. absurd (omega arith))

  lowest_from : (fs : List Field) (xs : List X) (o : Option ℕ) → Found fs xs 0 o → LowestBad ok z fs xs o
  lowest_from fs xs None h = h
  lowest_from fs xs (Some r) h =
      let e : r ≡ h.0 = omega (arith, h.1) in
      (omega (arith, h.2), ap (passes fs xs) e ∙ h.3, λ j l. h.4 j (omega arith))

  one_lowest : (fs : List Field) (xs : List X) (o p : Option ℕ) → LowestBad ok z fs xs o → LowestBad ok z fs xs p → o ≡ p
  one_lowest fs xs None None h k = refl
  one_lowest fs xs None (Some j) h k = absurd (true≢false (sym (h j k.0) ∙ k.1))
  one_lowest fs xs (Some i) None h k = absurd (true≢false (sym (k i h.0) ∙ h.1))
  one_lowest fs xs (Some i) (Some j) h k =
      ⊎_elim (λ (l : i < j). absurd (true≢false (sym (k.2 i l) ∙ h.1)))
      (λ (g : j ≤ i). ⊎_elim (λ (e : i ≡ j). ap (λ (n : ℕ). Some n) e) (λ ne. absurd (true≢false (sym (h.2 j (omega (arith, ne))) ∙ k.1))) (cases_eq i j))
      (cases_lt i j)

pub lowest_bad_law : (X : Type 0) → LowestBadLaw X
lowest_bad_law X ok z fs xs l =
    let right = lowest_from ok z fs xs (first_bad ok 0 fs xs) (found ok z fs xs 0 l) in
    (right, λ o h. one_lowest ok z fs xs o (first_bad ok 0 fs xs) h right)
