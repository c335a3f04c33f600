use Rattle.verdicts.specs.Values.{EntryJudged}
use Rattle.verdicts.proofs.words.Verdicts.judge_entry.Given as goal

abbrev pub invariant-loop-s : goal.invariant-loop-s
invariant-loop-s g l = EntryJudged (g.G.Graph.means l.graph) l.item l.number l.s l.initial.self.words l.self.words
