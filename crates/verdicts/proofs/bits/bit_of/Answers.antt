use Rattle.std.proofs.Common.{arith}
use Rattle.std.proofs.lemmas.Nat.Bits.{bit_at_above}
use Rattle.verdicts.proofs.bits.bit_of.Goals as goal

pub returns-else-at-lt128 : goal.returns-else-at-lt128
returns-else-at-lt128 c = grind (arith, bit_at_above c.args.word 128 c.args.at (omega arith) (omega arith))
