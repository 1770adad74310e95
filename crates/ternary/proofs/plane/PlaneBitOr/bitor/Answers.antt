use Rattle.std.proofs.Common.{◌||◌, rules}
use lib.Bits.{bit_or}
use Rattle.ternary.proofs.Bits.{bit-bit_or}
use Rattle.ternary.proofs.Limbs.{plane_by}
use Rattle.ternary.proofs.plane.PlaneBitOr.bitor.Goals as goal

pub returns : goal.returns
returns c = plane_by bit_or (λ x y. x || y) bit-bit_or _ _ _ (λ k h. search rules)
