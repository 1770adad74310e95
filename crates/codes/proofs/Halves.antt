-- What a joined code hands to its two codes, and the word that they write one behind the other.
use Rattle.std.proofs.Common.{◌≡◌, ℕ, ◌+◌, ◌^◌, ◌<◌, ◌≤◌, min, List, ◌++◌, length, take, drop, Option, sym, ap, ap₂, subst, ◌∙◌, arith}
use Rattle.std.proofs.Math.Seq.{paste}
use Rattle.ternary.specs.declared.digit.Digit.{Digit}
use Rattle.ternary.specs.declared.word.Word.{Word}
use Rattle.ternary.specs.Words.{digits}
use Rattle.ternary.proofs.Planes.{digits_length}
use Rattle.codes.specs.declared.span.Span.{Span}
use Rattle.codes.specs.Meaning.{Field, Meaning, Lawful, Values, Taken, Boxes}
use Rattle.codes.specs.Writing.{ValuesPut, BoxPut}
use Rattle.codes.specs.Joined.{joined}
use Rattle.codes.specs.Joins.{per_split, per_length, paste_paste}

pub values_count : (fs : List Field) (vs : List ℕ) → Values fs vs → length vs ≡ length fs
values_count = per_length (λ f v. v < 2 ^ f.width)

pub box_count : (fs : List Field) (bs : List (Option Span)) → Boxes fs bs → length bs ≡ length fs
box_count = per_length Taken

pub values_front : (fs gs : List Field) (vs front : List ℕ) → Values (fs ++ gs) vs → front ≡ take (length fs) vs → Values fs front
values_front fs gs vs front h e = subst (Values fs) (sym e) (per_split (λ f v. v < 2 ^ f.width) fs gs vs h).0

pub values_back : (fs gs : List Field) (vs back : List ℕ) → Values (fs ++ gs) vs → back ≡ drop (length fs) vs → Values gs back
values_back fs gs vs back h e = subst (Values gs) (sym e) (per_split (λ f v. v < 2 ^ f.width) fs gs vs h).1

pub box_front : (fs gs : List Field) (bs front : List (Option Span)) → Boxes (fs ++ gs) bs → front ≡ take (length fs) bs → Boxes fs front
box_front fs gs bs front h e = subst (Boxes fs) (sym e) (per_split Taken fs gs bs h).0

pub box_back : (fs gs : List Field) (bs back : List (Option Span)) → Boxes (fs ++ gs) bs → back ≡ drop (length fs) bs → Boxes gs back
box_back fs gs bs back h e = subst (Boxes gs) (sym e) (per_split Taken fs gs bs h).1

-- one word behind the other
both_pasted : (d0 d1 d2 xs ys : List Digit) (at size n m : ℕ) → size ≡ min 65535 n → length xs ≡ n → length ys ≡ m → length d0 ≡ 256 → at + (n + m) ≤ 256
    → d1 ≡ paste d0 at xs n → d2 ≡ paste d1 (at + size) ys m → d2 ≡ paste d0 at (xs ++ ys) (n + m)
both_pasted d0 d1 d2 xs ys at size n m s lx ly long h p q =
    q ∙ ap₂ (λ x (j : ℕ). paste x (at + j) ys m) p (omega (arith, s, h)) ∙ paste_paste d0 at xs ys n m lx ly (omega (arith, long, h))

module _ (m n : Meaning) (lm : Lawful m) (ln : Lawful n) (at size : ℕ) (s : size ≡ min 65535 m.size) (h : at + (m.size + n.size) ≤ 256) (w0 w1 w2 : Word) where
  pub values_written : (vs front back : List ℕ) → Values (m.fields ++ n.fields) vs → front ≡ take (length m.fields) vs → back ≡ drop (length m.fields) vs
      → ValuesPut m front at w0 w1 → ValuesPut n back (at + size) w1 w2 → ValuesPut (joined m n) vs at w0 w2
  values_written vs front back good f b p q =
      both_pasted (digits w0) (digits w1) (digits w2) (m.value_word front) (n.value_word back) at size m.size n.size s
      (lm.value_size front (values_front m.fields n.fields vs front good f)) (ln.value_size back (values_back m.fields n.fields vs back good b)) (digits_length w0) h p q
      ∙ ap₂ (λ x y. paste (digits w0) at (m.value_word x ++ n.value_word y) (m.size + n.size)) f b

  pub box_written : (bs front back : List (Option Span)) → Boxes (m.fields ++ n.fields) bs → front ≡ take (length m.fields) bs → back ≡ drop (length m.fields) bs
      → BoxPut m front at w0 w1 → BoxPut n back (at + size) w1 w2 → BoxPut (joined m n) bs at w0 w2
  box_written bs front back good f b p q =
      both_pasted (digits w0) (digits w1) (digits w2) (m.box_word front) (n.box_word back) at size m.size n.size s
      (lm.box_size front (box_front m.fields n.fields bs front good f)) (ln.box_size back (box_back m.fields n.fields bs back good b)) (digits_length w0) h p q
      ∙ ap₂ (λ x y. paste (digits w0) at (m.box_word x ++ n.box_word y) (m.size + n.size)) f b
