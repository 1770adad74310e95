-- A word into which a run of digits is written one by one.
use Rattle.std.proofs.Common.{◌≡◌, ℕ, ◌+◌, ◌<◌, ◌≤◌, List, length, get_or, set, slice_index_or, slice_set, sym, ap, ◌∙◌, add-one, arith}
use lib.Seq.{paste, paste-suc}
use Rattle.ternary.specs.declared.digit.Digit.{Digit}
use Rattle.ternary.specs.declared.digit.Digit.TheVariants.{Any}
use Rattle.ternary.specs.declared.word.Word.{Word}
use Rattle.ternary.specs.Words.{digits}
use Rattle.ternary.proofs.Planes.{digits_length}

pub digit_written : (before now after : Word) (run : List Digit) (at i : ℕ) (d : Digit) → i < length run → at + length run ≤ 256
    → digits now ≡ paste (digits before) at run i → d ≡ slice_index_or run i Any → digits after ≡ slice_set (digits now) (at + i) d
    → digits after ≡ paste (digits before) at run (i + 1)
digit_written before now after run at i d lt room h e p =
    let long = digits_length before in
    p ∙ ap (slice_set (digits now) (at + i)) e ∙ ap (λ x. set x (at + i) (get_or run i Any)) h
    ∙ paste-suc (digits before) at run i Any (omega arith) (omega arith) ∙ ap (paste (digits before) at run) (sym (add-one i))
