use Rattle.std.proofs.Common.{sym, arith}
use Rattle.std.proofs.lemmas.List.{with_items_is}
use Rattle.history.specs.Noting.{Entered, Back}
use Rattle.history.specs.Noting.Ended.{unsettled, settled}
use Rattle.history.proofs.Going.{renamed, took_as, scripted}
use Rattle.history.proofs.running.run.Goals as goal

pub returns-in-Open-clause-lawful : goal.returns-in-Open-clause-lawful
returns-in-Open-clause-lawful g c =
    let vs = c.run_rounds-bench.new.rounds in
    let ls = c.in-Open.lists in
    let es = c.enter_all.new.calls in
    scripted g.L.System.means g.R.System.means g.met.L.System.limits g.met.R.System.limits c.open-bench.ensures.systems c.open-bench.ensures.kept
    (took_as g.L.System.means g.R.System.means
    (λ h h'. renamed Back _ _ _ _ c.as_mut_slice.ensures.value (sym (with_items_is c.args.script.now.rounds vs (omega (arith, c.run_rounds-bench.auto.rounds, c.as_mut_slice.ensures.len)))))
    c.run_rounds-bench.ensures)
    (took_as g.L.System.means g.R.System.means
    (λ h h' x. rw c.in-Open.is (unsettled ls _ _ _ (renamed Entered _ _ _ _ c.as_mut_slice-in-Open.ensures.value (sym (with_items_is ls es (omega (arith, c.enter_all.auto.calls, c.as_mut_slice-in-Open.ensures.len)))) x)))
    c.enter_all.ensures)

pub returns-in-Settled-clause-lawful : goal.returns-in-Settled-clause-lawful
returns-in-Settled-clause-lawful g c =
    let vs = c.run_rounds-bench.new.rounds in
    scripted g.L.System.means g.R.System.means g.met.L.System.limits g.met.R.System.limits c.open-bench.ensures.systems c.open-bench.ensures.kept
    (took_as g.L.System.means g.R.System.means
    (λ h h'. renamed Back _ _ _ _ c.as_mut_slice.ensures.value (sym (with_items_is c.args.script.now.rounds vs (omega (arith, c.run_rounds-bench.auto.rounds, c.as_mut_slice.ensures.len)))))
    c.run_rounds-bench.ensures)
    (took_as g.L.System.means g.R.System.means (λ h h' x. rw c.in-Settled.is (settled c.in-Settled.round _ _ _ x)) c.run_round.ensures)
