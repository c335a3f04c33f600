use Rattle.history.proofs.Turning.{run_none, run_more, run_all}
use Rattle.history.proofs.lists.enter_all.Goals as goal

pub loop-call-init : goal.loop-call-init
loop-call-init g c = run_none _ _ _ _ _ _

pub loop-call-preserved : goal.loop-call-preserved
loop-call-preserved g c =
    run_more _ _ _ _ _ _ _ _ _ _ c.call-item.result c.enter.new.call c.loop-call-test.true c.loop-call.auto.calls c.loop-call.invariant c.enter.ensures

pub returns : goal.returns
returns g c = run_all _ _ _ _ _ _ _ _ _ c.loop-call-test.false c.loop-call.auto.calls c.loop-call.invariant
