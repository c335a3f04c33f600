use Rattle.history.proofs.Going.{goes_back}
use Rattle.history.proofs.Turning.{run_none, run_more, run_all}
use Rattle.history.proofs.rounds.run_rounds.Goals as goal

pub loop-round-init : goal.loop-round-init
loop-round-init g c = run_none _ _ _ _ _ _

pub loop-round-preserved : goal.loop-round-preserved
loop-round-preserved g c =
    run_more _ _ _ _ _ _ _ _ _ _ c.round-item.result c.run_round.new.round c.loop-round-test.true c.loop-round.auto.rounds c.loop-round.invariant
    (goes_back _ _ _ _ _ _ _ c.run_round.ensures c.reopen-bench.ensures.same c.reopen-bench.ensures.lawful)

pub returns : goal.returns
returns g c = run_all _ _ _ _ _ _ _ _ _ c.loop-round-test.false c.loop-round.auto.rounds c.loop-round.invariant
