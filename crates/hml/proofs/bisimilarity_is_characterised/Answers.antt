use Rattle.hml.proofs.bisimilarity_is_characterised.Goals as goal
use Rattle.hml.proofs.Characterised.{hennessy_milner, agreement_by_steps, bisimilar_by_depths}

pub returns : goal.returns
returns c = record { hennessy_milner = hennessy_milner; by_steps = agreement_by_steps; every_depth = bisimilar_by_depths }
