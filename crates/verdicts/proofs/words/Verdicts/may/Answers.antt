use Rattle.std.proofs.Common.{rules}
use Rattle.std.proofs.lemmas.Iterator.Search.{any_from_yields_List}
use Rattle.std.proofs.lemmas.Iterator.Consumers.{YieldsList-from_first}
use Rattle.verdicts.specs.Words.{says}
use Rattle.verdicts.specs.Values.{goes}
use Rattle.verdicts.proofs.words.Verdicts.may.Goals as goal

pub returns : goal.returns
returns g c =
    any_from_yields_List (goes c.args.action (says c.args.self.now.words c.args.formula)) c.any.new.self _ _ c.any.ensures.ran
    (YieldsList-from_first (λ x. x) _ _ c.of.ensures) (λ x b q e. search rules)
