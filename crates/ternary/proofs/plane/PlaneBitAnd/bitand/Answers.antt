use Rattle.std.proofs.Common.{◌&&◌, rules}
use lib.Bits.{bit_and}
use Rattle.ternary.proofs.Bits.{bit-bit_and}
use Rattle.ternary.proofs.Limbs.{plane_by}
use Rattle.ternary.proofs.plane.PlaneBitAnd.bitand.Goals as goal

pub returns : goal.returns
returns c = plane_by bit_and (λ x y. x && y) bit-bit_and _ _ _ (λ k h. search rules)
