use Rattle.std.proofs.Common.{◌≡◌, rules}
use Rattle.verdicts.proofs.Writing.{entry_more}
use Rattle.verdicts.proofs.words.Verdicts.judge_entry.Goals as goal

pub loop-s-preserved : goal.loop-s-preserved
loop-s-preserved g c =
    let made = c.with_bit.ensures in
    let same : c.from.result ≡ c.loop-s.s = search rules in
    rw same
    (entry_more (g.G.Graph.means c.args.graph.now) c.args.item c.args.number c.args.self.now.words c.loop-s.self.words c.loop-s.s c.with_bit.result c.value-verdict.result (search rules) made.same (rw same at made.others) c.value-verdict.ensures c.loop-s.invariant)
