use Rattle.std.proofs.Common.{◌≡◌, ◌^◌, ◌<◌, ◌≤◌, sym, ap, ◌∙◌, rules, arith}
use lib.Seq.{paste}
use Rattle.ternary.specs.Words.{digits}
use Rattle.codes.specs.Spans.{bits_of}
use Rattle.short.specs.Short.{span_word, word_size}
use Rattle.short.specs.Lawful.{span_length}
use Rattle.short.proofs.Ends.{span_from_ends}
use Rattle.short.proofs.code.ShortCode.put_side.Goals as goal

pub returns-in-Some : goal.returns-in-Some
returns-in-Some c =
    let self = c.args.self in let w = bits_of self.width in let k = self.log in let s = c.in-Some.span.low in let n = c.in-Some.span.len in
    let hs : s < 2 ^ w = search rules in
    let least : 1 ≤ n = search rules in
    let most : n ≤ 2 ^ k = search rules in
    let e : c.size-in-Some.result ≡ word_size w k = omega (arith, c.requires.room) in
    let l = span_length w k self.least self.room s n hs least most in
    let put = c.put_run-in-Some.ensures (span_word w k s n) (l ∙ sym e)
    (λ i d lt p. let x = span_from_ends w k self.least self.room s n hs least most i (omega (arith, l)) in search rules)
    ∙ ap (paste (digits c.args.out.now) c.args.at (span_word w k s n)) e in search rules
