use Rattle.std.proofs.Common.{◌≡◌, ◌+◌, ◌-◌, ◌*◌, ◌++◌, length, string_bytes}
use Rattle.formula_writing.specs.LineTexts.{joined_text}
use Rattle.formula_writing.proofs.lines.+lines.Given as goal

-- How many lines stand behind the one, or from the first one on.
abbrev pub decreases-write_line : goal.decreases-write_line
decreases-write_line l = 3 * (length l.lines.now - l.number)

abbrev pub decreases-write_inside : goal.decreases-write_inside
decreases-write_inside l = 3 * (length l.lines.now - l.first) + 2

abbrev pub decreases-write_joined : goal.decreases-write_joined
decreases-write_joined l = 3 * (length l.lines.now - l.first) + 1

abbrev pub invariant-write_joined-loop-child : goal.invariant-write_joined-loop-child
invariant-write_joined-loop-child l =
    string_bytes l.out ++ joined_text l.lines l.modality l.child l.last ≡ string_bytes l.initial.out ++ joined_text l.lines l.modality l.first l.last
