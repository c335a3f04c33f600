use Rattle.std.proofs.Common.{rules}
use Rattle.std.proofs.lemmas.Iterator.Search.{all_from_yields_List}
use Rattle.std.proofs.lemmas.Iterator.Consumers.{YieldsList-from_first, YieldsList-at}
use Rattle.refine.specs.Codes.{code_of}
use Rattle.refine.specs.Marks.{marked}
use Rattle.refine.proofs.Coding.{moves_given}
use Rattle.refine.proofs.level.Level.within.Goals as goal

pub returns : goal.returns
returns g c =
    let told = c.flatten.ensures in
    all_from_yields_List (λ p. marked c.args.marks.now (code_of c.args.self.now.names p)) c.all.new.self _ _ c.all.ensures.ran
    (moves_given (λ o j h. h.0) (YieldsList-at told.source (YieldsList-from_first (λ x. x) _ _ c.of.ensures)) told.front told.back told.done)
    (λ x b q e. search rules)
