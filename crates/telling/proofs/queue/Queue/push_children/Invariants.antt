use Rattle.std.proofs.Common.{◌≡◌, ◌++◌}
use Rattle.telling.proofs.Children.{by_moves}
use Rattle.telling.proofs.queue.Queue.push_children.Given as goal

abbrev pub invariant-loop-action : goal.invariant-loop-action
invariant-loop-action g l = record {
  pairs : l.self.pairs.items ≡ l.initial.self.pairs.items ++ by_moves l.choice l.yielded;
  limit : l.self.limit ≡ l.initial.self.limit;
}
