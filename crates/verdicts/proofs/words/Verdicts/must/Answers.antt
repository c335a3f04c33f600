use Rattle.std.proofs.Common.{rules}
use Rattle.std.proofs.lemmas.Iterator.Search.{all_from_yields_List}
use Rattle.std.proofs.lemmas.Iterator.Consumers.{YieldsList-from_first}
use Rattle.verdicts.specs.Words.{says}
use Rattle.verdicts.specs.Values.{stays}
use Rattle.verdicts.proofs.words.Verdicts.must.Goals as goal

pub returns : goal.returns
returns g c =
    all_from_yields_List (stays c.args.action (says c.args.self.now.words c.args.formula)) c.all.new.self _ _ c.all.ensures.ran
    (YieldsList-from_first (λ x. x) _ _ c.of.ensures) (λ x b q e. search rules)
