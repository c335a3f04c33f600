use Rattle.std.proofs.Common.{◌≡◌, ◌<◌, drop}
use Rattle.std.specs.Str.{all_ascii_digits}
use Rattle.rows.specs.Digits.{value_from}
use Rattle.rows.proofs.numerals.digits.Given as goal

-- what is left is digits, and goes on from the number so far
abbrev pub invariant-loop-b : goal.invariant-loop-b
invariant-loop-b l =
    (l.number < 1024)
    × (all_ascii_digits (drop l.b-index l.field) ≡ all_ascii_digits l.field)
    × (value_from l.number (drop l.b-index l.field) ≡ value_from 0 l.field)
