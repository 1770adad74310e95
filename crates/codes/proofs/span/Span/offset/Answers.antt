use Rattle.std.proofs.Common.{ℕ, ◌+◌, ◌-◌, ◌%◌, ap, ◌∙◌, arith}
use lib.Bits.{bit_and}
use Rattle.codes.proofs.Offsets.{masked_offset}
use Rattle.codes.proofs.span.Span.offset.Goals as goal

pub returns : goal.returns
returns c =
    let v = c.args.value in let s = c.args.self.low in
    c.from.ensures ∙ ap (λ (n : ℕ). bit_and ((v + (65536 - s)) % 65536) n) c.highest.ensures
    ∙ masked_offset c.args.width.bits c.args.width.most v s (omega arith)
