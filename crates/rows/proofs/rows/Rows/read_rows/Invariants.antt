use Rattle.std.proofs.Common.{◌≡◌, ℕ, true, List}
use Rattle.rows.specs.Reading.{Begun}
use Rattle.rows.proofs.rows.Rows.read_rows.Given as goal

-- the lines so far are a table of the rows so far
abbrev pub invariant-loop-next : goal.invariant-loop-next
invariant-loop-next l =
    (l.next-iterator.headed ≡ true)
    × ((s : List ℕ) → Begun s l.fn.lines l.columns l.initial.self.items → Begun s l.next-iterator l.columns l.self.items)
