use Rattle.std.proofs.Common.{rules}
use lib.Bits.{bit_xor}
use Rattle.ternary.specs.Bit.{differs}
use Rattle.ternary.proofs.Bits.{bit-bit_xor}
use Rattle.ternary.proofs.Limbs.{plane_by}
use Rattle.ternary.proofs.plane.PlaneBitXor.bitxor.Goals as goal

pub returns : goal.returns
returns c = plane_by bit_xor differs bit-bit_xor _ _ _ (λ k h. search rules)
