use Rattle.std.proofs.Common.{◌≡◌, ℕ, ◌+◌, ◌<◌, length, get_or}
use Rattle.refine.specs.Classes.{parting_at}
use Rattle.refine.proofs.level.Level.part.Given as goal

abbrev pub invariant-loop-state : goal.invariant-loop-state
invariant-loop-state g l = record {
  long : length l.partings ≡ 2048;
  fresh : (j : ℕ) → j < l.state-index → parting_at l.partings (get_or l.state-items j 0) ≡ record { parent = get_or l.self.names (get_or l.state-items j 0) 0; depth = l.self.depth + 1 };
  others : (u : ℕ) → ((j : ℕ) → j < l.state-index → ¬ (get_or l.state-items j 0 ≡ u)) → parting_at l.partings u ≡ parting_at l.initial.partings u;
}
