use Rattle.std.proofs.Common.{◌≡◌, ◌++◌, map, length}
use Rattle.sheet.specs.Cursors.{rest}
use Rattle.rows.specs.Fields.{fields_of}
use Rattle.rows.proofs.fields.Fields.split.Given as goal

-- the fields cut so far, and those that are left
abbrev pub invariant-loop-cursor : goal.invariant-loop-cursor
invariant-loop-cursor l = map (λ part. part.now) l.parts.items ++ fields_of (rest l.cursor) ≡ fields_of l.line

abbrev pub decreases-loop-cursor : goal.decreases-loop-cursor
decreases-loop-cursor l = length (fields_of (rest l.cursor))
