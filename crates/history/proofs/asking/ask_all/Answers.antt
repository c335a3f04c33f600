use Rattle.history.proofs.Turning.{run_none, run_more, run_all}
use Rattle.history.proofs.asking.ask_all.Goals as goal

pub loop-question-init : goal.loop-question-init
loop-question-init g c = run_none _ _ _ _ _ _

pub loop-question-preserved : goal.loop-question-preserved
loop-question-preserved g c =
    run_more _ _ _ _ _ _ _ _ _ _ c.question-item.result c.ask.new.question c.loop-question-test.true c.loop-question.auto.questions c.loop-question.invariant c.ask.ensures

pub returns : goal.returns
returns g c = run_all _ _ _ _ _ _ _ _ _ c.loop-question-test.false c.loop-question.auto.questions c.loop-question.invariant
