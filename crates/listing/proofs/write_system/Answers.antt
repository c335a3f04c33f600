use Rattle.std.proofs.Common.{◌≡◌, suc, ◌+◌, ◌-◌, arith}
use Rattle.std.proofs.lemmas.Grind.{common_steps}
use Rattle.listing.proofs.write_system.Goals as goal

pub loop-state-preserved : goal.loop-state-preserved
loop-state-preserved g c =
    let m = g.S.System.means c.args.system.now in
    let left : m.states - c.loop-state.state ≡ suc (m.states - (c.loop-state.state + 1)) = omega (arith, c.states-states.ensures) in
    grind (arith, common_steps, c.in_ok-write_moves.ensures)
