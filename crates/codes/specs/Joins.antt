-- Two lawful codes joined are lawful, and a word that is written in two parts is the joined word.
use Rattle.std.specs.Prelude.{◌≡◌, ℕ, ◌+◌, ◌^◌, ◌<◌, ◌≤◌, min, Bool, true, false, ◌&&◌, List, [], ◌∷◌, ◌++◌, length, get_or, take, drop, Option, slice_index_or, refl}
use Rattle.std.proofs.Common.{sym, ap, ap₂, subst, ◌∙◌, append_assoc, arith, length-append, drop-drop, take_all, get_or-append-add}
use Rattle.std.proofs.Math.ListN.{get_or-append}
use Rattle.std.proofs.Math.Seq.{paste, take-append-add}
use Rattle.std.proofs.lemmas.List.Edits.{take-paste, drop-paste}
use Rattle.std.proofs.ByRecursion.{All-append}
use Rattle.ternary.specs.declared.digit.Digit.{Digit}
use Rattle.ternary.specs.Words.{agree, fits}
use Rattle.codes.specs.declared.span.Span.{Span}
use Rattle.codes.specs.Spans.{holds}
use Rattle.codes.specs.Meaning.{Field, Meaning, FieldLaw, Lawful, Small, Per, Values, Taken, Boxes, in_box, sharp, no_field}
use Rattle.codes.specs.Joined.{joined}

-- ---- fields of two codes in a row

module _ (fs gs : List Field) (i : ℕ) where
  pub field_left : i < length fs → slice_index_or fs i no_field ≡ slice_index_or (fs ++ gs) i no_field
  field_left h = sym (get_or-append fs gs no_field i h)

  pub field_right : (j : ℕ) → length fs + j ≡ i → slice_index_or gs j no_field ≡ slice_index_or (fs ++ gs) i no_field
  field_right j e = sym (ap (λ (k : ℕ). get_or (fs ++ gs) k no_field) (sym e) ∙ get_or-append-add fs gs j no_field)

-- ---- the law

and_assoc : (a b c : Bool) → (a && (b && c)) ≡ ((a && b) && c)
and_assoc true b c = refl
and_assoc false b c = refl

pub fits_append : (xs ys us vs : List Digit) → length xs ≡ length ys → fits (xs ++ us) (ys ++ vs) ≡ (fits xs ys && fits us vs)
fits_append [] [] us vs e = refl
fits_append [] (y ∷ ys) us vs e = absurd (omega arith)
fits_append (x ∷ xs) [] us vs e = absurd (omega arith)
fits_append (x ∷ xs) (y ∷ ys) us vs e =
    ap (λ t. agree x y && t) (fits_append xs ys us vs (omega arith)) ∙ and_assoc (agree x y) (fits xs ys) (fits us vs)

module _ {X : Type 0} (R : Field → X → Type 0) where
  pub per_split : (fs gs : List Field) (xs : List X) → Per R (fs ++ gs) xs → Per R fs (take (length fs) xs) × Per R gs (drop (length fs) xs)
  per_split [] gs xs h = (tt, h)
  per_split (f ∷ fs) gs [] h = absurd h
  per_split (f ∷ fs) gs (x ∷ xs) h = let t = per_split fs gs xs h.1 in ((h.0, t.0), t.1)

pub in_box_split : (fs gs : List Field) (vs : List ℕ) (bs : List (Option Span)) → Values (fs ++ gs) vs → Boxes (fs ++ gs) bs
    → in_box (fs ++ gs) vs bs ≡ (in_box fs (take (length fs) vs) (take (length fs) bs) && in_box gs (drop (length fs) vs) (drop (length fs) bs))
in_box_split [] gs vs bs h k = refl
in_box_split (f ∷ fs) gs [] bs h k = absurd h
in_box_split (f ∷ fs) gs (v ∷ vs) [] h k = absurd k
in_box_split (f ∷ fs) gs (v ∷ vs) (b ∷ bs) h k =
    ap (λ t. holds f.width b v && t) (in_box_split fs gs vs bs h.1 k.1) ∙ and_assoc (holds f.width b v) _ _

module _ (m n : Meaning) (lm : Lawful m) (ln : Lawful n) where
  pub joined_lawful : Lawful (joined m n)
  joined_lawful = record {
    some = let e = length-append m.fields n.fields in omega (arith, lm.some);
    each = All-append FieldLaw m.fields n.fields lm.each ln.each;
    value_size = λ vs h.
        let t = per_split (λ f v. v < 2 ^ f.width) m.fields n.fields vs h in
        length-append (m.value_word (take (length m.fields) vs)) (n.value_word (drop (length m.fields) vs))
        ∙ ap₂ (λ (a b : ℕ). a + b) (lm.value_size (take (length m.fields) vs) t.0) (ln.value_size (drop (length m.fields) vs) t.1);
    box_size = λ bs h.
        let t = per_split Taken m.fields n.fields bs h in
        length-append (m.box_word (take (length m.fields) bs)) (n.box_word (drop (length m.fields) bs))
        ∙ ap₂ (λ (a b : ℕ). a + b) (lm.box_size (take (length m.fields) bs) t.0) (ln.box_size (drop (length m.fields) bs) t.1);
    no_any = λ vs h.
        let t = per_split (λ f v. v < 2 ^ f.width) m.fields n.fields vs h in
        All-append (λ d. sharp d ≡ true) _ _ (lm.no_any (take (length m.fields) vs) t.0) (ln.no_any (drop (length m.fields) vs) t.1);
    matching = λ small vs bs h k.
        let t = per_split (λ f v. v < 2 ^ f.width) m.fields n.fields vs h in
        let u = per_split Taken m.fields n.fields bs k in
        let e = length-append m.fields n.fields in
        let sm : Small m = record { few = omega (arith, small.few); short = omega (arith, small.short) } in
        let sn : Small n = record { few = omega (arith, small.few); short = omega (arith, small.short) } in
        fits_append (m.value_word (take (length m.fields) vs)) (m.box_word (take (length m.fields) bs)) (n.value_word (drop (length m.fields) vs)) (n.box_word (drop (length m.fields) bs))
        (lm.value_size (take (length m.fields) vs) t.0 ∙ sym (lm.box_size (take (length m.fields) bs) u.0))
        ∙ ap₂ (λ a b. a && b) (lm.matching sm _ _ t.0 u.0) (ln.matching sn _ _ t.1 u.1)
        ∙ sym (in_box_split m.fields n.fields vs bs h k);
  }

-- ---- a word written in two parts

pub per_length : {X : Type 0} (R : Field → X → Type 0) (fs : List Field) (xs : List X) → Per R fs xs → length xs ≡ length fs
per_length R [] [] h = refl
per_length R [] (x ∷ xs) h = absurd h
per_length R (f ∷ fs) [] h = absurd h
per_length R (f ∷ fs) (x ∷ xs) h = let e = per_length R fs xs h.1 in omega arith

pub paste_paste : {X : Type 0} (d : List X) (at : ℕ) (s t : List X) (n m : ℕ) → length s ≡ n → length t ≡ m → at + (n + m) ≤ length d
    → paste (paste d at s n) (at + n) t m ≡ paste d at (s ++ t) (n + m)
paste_paste d at s t n m ln lm h =
    let front : take (at + n) (paste d at s n) ≡ take at d ++ take n s = take-paste d at s n (omega arith) (omega arith) in
    let back : drop (at + n + m) (paste d at s n) ≡ drop (at + (n + m)) d =
    sym (drop-drop m (at + n) (paste d at s n)) ∙ ap (drop m) (drop-paste d at s n (omega arith) (omega arith)) ∙ drop-drop m (at + n) d
    ∙ ap (λ (k : ℕ). drop k d) (let e : at + n + m ≡ at + (n + m) = omega arith in e) in
    let both : take n s ++ take m t ≡ take (n + m) (s ++ t) =
    ap (λ x. x ++ take m t) (take_all n s (omega arith)) ∙ sym (ap (λ (k : ℕ). take (k + m) (s ++ t)) (sym ln) ∙ take-append-add s t m) in
    ap₂ (λ x y. x ++ take m t ++ y) front back
    ∙ ap (λ x. x ++ drop (at + (n + m)) d) (append_assoc (take at d) (take n s) (take m t) ∙ ap (λ x. take at d ++ x) both)

-- What the joined code hands to its halves: k is the first one's count of fields, as it tells it.
module _ {X : Type 0} (R : Field → X → Type 0) (m n : Meaning) (small : Small (joined m n)) (xs : List X) (good : Per R (m.fields ++ n.fields) xs)
    (k : ℕ) (e : k ≡ min 65535 (length m.fields)) where
  count_is : k ≡ length m.fields
  count_is = let l = length-append m.fields n.fields in omega (arith, small.few)

  pub left_small : Small m
  left_small = let l = length-append m.fields n.fields in record { few = omega (arith, small.few); short = omega (arith, small.short) }

  pub right_small : Small n
  right_small = let l = length-append m.fields n.fields in record { few = omega (arith, small.few); short = omega (arith, small.short) }

  pub left_good : (front : List X) → front ≡ take k xs → Per R m.fields front
  left_good front p =
      subst (Per R m.fields) (sym (p ∙ ap (λ (j : ℕ). take j xs) count_is)) (per_split R m.fields n.fields xs good).0

  pub right_good : (back : List X) → back ≡ drop k xs → Per R n.fields back
  right_good back p =
      subst (Per R n.fields) (sym (p ∙ ap (λ (j : ℕ). drop j xs) count_is)) (per_split R m.fields n.fields xs good).1

  pub count_within : k ≤ length xs
  count_within =
      let l = length-append m.fields n.fields in
      let q = per_length R (m.fields ++ n.fields) xs good in
      let c = count_is in omega arith

  pub both_written : (f g : List X → List Digit) → ((ys : List X) → Per R m.fields ys → length (f ys) ≡ m.size) → ((ys : List X) → Per R n.fields ys → length (g ys) ≡ n.size)
      → (d0 d1 d2 : List Digit) (front back : List X) (at size : ℕ) → front ≡ take k xs → back ≡ drop k xs → size ≡ min 65535 m.size
      → at + (m.size + n.size) ≤ length d0 → d1 ≡ paste d0 at (f front) m.size → d2 ≡ paste d1 (at + size) (g back) n.size
      → d2 ≡ paste d0 at (f (take (length m.fields) xs) ++ g (drop (length m.fields) xs)) (m.size + n.size)
  both_written f g lf lg d0 d1 d2 front back at size pf pb ps h p q =
      let size_is : size ≡ m.size = omega (arith, small.short) in
      q ∙ ap₂ (λ x (j : ℕ). paste x (at + j) (g back) n.size) p size_is
      ∙ paste_paste d0 at (f front) (g back) m.size n.size (lf front (left_good front pf)) (lg back (right_good back pb)) h
      ∙ ap₂ (λ x y. paste d0 at (f x ++ g y) (m.size + n.size)) (pf ∙ ap (λ (j : ℕ). take j xs) count_is) (pb ∙ ap (λ (j : ℕ). drop j xs) count_is)
