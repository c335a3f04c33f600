use Rattle.std.proofs.Common.{◌≡◌, ℕ, ◌-◌, ◌<◌, ◌≤◌, min, length}
use Rattle.hml.specs.Bisimilarity.{Agree}
use Rattle.refine.specs.Classes.{Refined}
use Rattle.telling.specs.Progress.{Progress}
use Rattle.telling.proofs.choosing.Classified.write_lines.Given as goal

abbrev pub invariant-loop-u : goal.invariant-loop-u
invariant-loop-u g l =
    let m = g.G.Graph.means l.self.graph.now in
    record {
      limit : l.queue.limit ≡ min (length l.initial.lines) 4096;
      within : l.i ≤ length l.queue.pairs.items;
      progress : (d : ℕ) → Refined m l.self.classes.now → l.s < m.states → l.t < m.states → ¬ Agree m d l.s l.t → Progress m l.s l.t d l.i l.queue.pairs.items l.initial.lines l.lines;
    }

abbrev pub decreases-loop-u : goal.decreases-loop-u
decreases-loop-u g l = 4096 - l.i
