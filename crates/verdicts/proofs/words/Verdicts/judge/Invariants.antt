use Rattle.std.proofs.Common.{◌≡◌, ℕ, ◌<◌, length, drop}
use Rattle.std.specs.Slice.Iter.{iter_rest}
use Rattle.formula.specs.Entries.{AllSound, formula_at}
use Rattle.verdicts.specs.Words.{Decides}
use Rattle.verdicts.proofs.words.Verdicts.judge.Given as goal

abbrev pub invariant-loop-i : goal.invariant-loop-i
invariant-loop-i g l =
    let k = length l.yielded in
    record {
      numbers : (l.i-iterator.a.start ≡ k) × (l.i-iterator.a.end ≡ 128);
      entries : iter_rest l.i-iterator.b ≡ drop k l.entries;
      judged : AllSound l.entries → (j : ℕ) → j < k → Decides (g.G.Graph.means l.graph) l.self.words j (formula_at l.entries j);
    }
