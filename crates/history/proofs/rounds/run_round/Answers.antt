use Rattle.std.proofs.Common.{sym, arith}
use Rattle.std.proofs.lemmas.List.{with_items_is}
use Rattle.history.proofs.Going.{goes}
use Rattle.history.proofs.rounds.run_round.Goals as goal

pub returns : goal.returns
returns g c =
    let q = c.args.round.now in
    goes _ _ _ _ _ _ q _ _ _ _ _
    c.as_mut_slice.ensures.value
    (sym (with_items_is q.lists c.enter_all.new.calls (omega (arith, c.enter_all.auto.calls, c.as_mut_slice.ensures.len))))
    c.as_mut_slice-2.ensures.value
    (sym (with_items_is q.questions c.ask_all.new.questions (omega (arith, c.ask_all.auto.questions, c.as_mut_slice-2.ensures.len))))
    c.enter_all.ensures c.settle-bench.ensures.same c.settle-bench.ensures.lawful c.ask_all.ensures
