use Rattle.std.proofs.Common.{ℕ, ◌<◌, get_or}
use Rattle.lts.specs.Lts.{Lts}
use Rattle.pair.specs.Wide.{Wide}
use Rattle.refine.specs.Classes.{Names, Refined}
use Rattle.refine.proofs.classes.Classes.names_at.Given as goal

abbrev pub invariant-loop-s : goal.invariant-loop-s
invariant-loop-s l = (m : Lts) → Wide m → Refined m l.self → (k : ℕ) → k < l.s → k < m.states → Names m l.depth k (get_or l.names k 0)
