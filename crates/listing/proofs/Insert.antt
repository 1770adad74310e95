-- A rule inserted at its place.
use Rattle.std.proofs.Common.{◌≡◌, refl, ℕ, zero, suc, ◌<◌, ◌≤◌, Bool, true, false, cond, List, [], ◌∷◌, length, get_or, take, drop, sym, subst, ◌∙◌, ⊎_elim, arith}
use Rattle.std.specs.List.{All, AllWithin, AllPairs, insert}
use Rattle.std.specs.List.Sorted.{IsPartitionPoint, IsPartitionedBy}
use Rattle.std.proofs.lemmas.List.Elements.{All-cons, All-append, All-take, All-drop}
use Rattle.std.proofs.lemmas.List.Kept.{AllPairs-cons}
use Rattle.std.proofs.lemmas.Bool.{cases_lt, cond_both, true≢false}
use Rattle.std.proofs.lemmas.Bool.Decides.{nat_tests}
use Rattle.listing.specs.declared.rule.Rule.{Rule}
use Rattle.listing.specs.Order.{before, Ordered, Apart, Place, Stays}

-- of two rules with different numbers one comes before the other
other_before : (a b : Rule) → before a b ≡ false → (a.number ≡ b.number → ⊥) → before b a ≡ true
other_before a b h apart = grind (arith, nat_tests)

before_trans : (a b c : Rule) → before a b ≡ true → before b c ≡ true → before a c ≡ true
before_trans a b c p q = grind (arith, nat_tests)

-- what holds of each element and each later one still does, where y comes between those that it holds of and y, and those
-- that it holds of y and them
AllPairs-insert : {X : Type 0} (R : X → X → Type 0) (xs : List X) (k : ℕ) (y : X) → k ≤ length xs → AllPairs R xs
    → AllWithin (λ x. R x y) xs 0 k → AllWithin (R y) xs k (length xs) → AllPairs R (insert xs k y)
AllPairs-insert R xs zero y hk old front back = AllPairs-cons R y xs (λ i d h. back i d (omega arith) h) old
AllPairs-insert R [] (suc k) y hk old front back = absurd (omega arith)
AllPairs-insert R (x ∷ xs) (suc k) y hk old front back =
    let rest : All (R x) xs = λ i d h. old 0 (suc i) d (omega arith) (omega arith) in
    AllPairs-cons R x (insert xs k y)
    (All-append (R x) (take k xs) (y ∷ drop k xs) (All-take (R x) k xs rest) (All-cons (R x) y (drop k xs) (front 0 x (omega arith) (omega arith)) (All-drop (R x) k xs rest)))
    (AllPairs-insert R xs k y (omega arith) (λ i j d lt end. old (suc i) (suc j) d (omega arith) (omega arith))
    (λ i d _ h. front (suc i) d (omega arith) (omega arith)) (λ i d h end. back (suc i) d (omega arith) (omega arith)))

not_so : (b : Bool) → (b ≡ true → ⊥) → b ≡ false
not_so true h = absurd (h refl)
not_so false h = refl

module _ (rs : List Rule) (r : Rule) where
  pub partitioned : Ordered rs → IsPartitionedBy (λ x. before x r) rs
  partitioned up i j d le end h =
      ⊎_elim
      (λ (lt : i < j). before_trans (get_or rs i d) (get_or rs j d) r (up i j d lt end) h)
      (λ (ge : j ≤ i). let e : i ≡ j = omega arith in subst (λ (n : ℕ). before (get_or rs n d) r ≡ true) (sym e) h)
      (cases_lt i j)

  -- in a list in order, those behind a rule that does not come before r do not either
  pub place_parts : (k : ℕ) → Place rs r k → Ordered rs → IsPartitionPoint (λ x. before x r ≡ true) (λ x. before x r ≡ false) rs k
  place_parts k p up = (
    λ i d _ lt. p.below i d lt,
    λ i d le end. not_so (before (get_or rs i d) r) (λ h.
        let first : before (get_or rs k d) r ≡ true = partitioned up k i d le end h in
        true≢false (sym first ∙ p.stops d (omega arith))),
  )

  module _ (k : ℕ) (hk : k ≤ length rs) where
    pub ordered_inserted : (Ordered rs → IsPartitionPoint (λ x. before x r ≡ true) (λ x. before x r ≡ false) rs k) → Stays Ordered rs r (insert rs k r)
    ordered_inserted point up free =
        let p = point up in
        AllPairs-insert (λ a b. before a b ≡ true) rs k r hk up p.0 (λ i d le end. other_before (get_or rs i d) r (p.1 i d le end) (free i d end))

    pub apart_inserted : Stays Apart rs r (insert rs k r)
    apart_inserted apart free =
        AllPairs-insert (λ a b. a.number ≡ b.number → ⊥) rs k r hk apart (λ i d _ h. free i d (omega arith)) (λ i d _ end e. free i d end (sym e))

-- what stays after an insert, that succeeds or not, at the place that was found in what was seen of the list
module _ (rs seen new : List Rule) (r : Rule) (k : ℕ) (b : Bool) (e : new ≡ cond b (insert rs k r) rs) (same : seen ≡ rs) (p : Place seen r k) where
  placed : Place rs r k
  placed = subst (λ (xs : List Rule). Place xs r k) same p

  after : (P : List Rule → Type 0) → Stays P rs r (insert rs k r) → Stays P rs r new
  after P h q free = subst P (sym e) (cond_both b (insert rs k r) rs P (λ _. h q free) (λ _. q))

  pub ordered_after : Stays Ordered rs r new
  ordered_after = after Ordered (ordered_inserted rs r k placed.within (place_parts rs r k placed))

  pub apart_after : Stays Apart rs r new
  apart_after = after Apart (apart_inserted rs r k placed.within)
