-- The weight is computed as it is defined.
use Rattle.std.proofs.Common.{refl}
use Rattle.refine.specs.Signatures.{weight_of}
use Rattle.refine.proofs.codes.Code.weight.Goals as goal

pub returns : goal.returns
unfolding weight_of
returns c = refl
