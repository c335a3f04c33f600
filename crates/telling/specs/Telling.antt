-- What writing the lines of a distinguishing formula answers, and what it leaves in the memory. Assumes nothing.
use Rattle.std.specs.Prelude.{◌≡◌, ℕ, ◌<◌, ◌≤◌, min, List, length, take, drop, replicate, Ok, Err, Result}
use Rattle.lts.specs.Lts.{Lts}
use Rattle.hml.specs.Distinguishing.{LinesFor}
use Rattle.hml.specs.declared.line.Line.{Line}
use Rattle.law.specs.Answers.{blank}
use Rattle.telling.specs.declared.writing.TooLong.{TooLong}

-- The lines of (s, t) stand first in the memory, and the rest is as it was; or they are more than the memory holds, or
-- more than 4,096, and the whole memory is blank. Before and after are the memory.
abbrev pub Told : Lts → ℕ → ℕ → List Line → List Line → Result ℕ TooLong → Type 0
Told m s t before after (Ok n) =
    (n ≤ length before) × (n ≤ 4096) × (length after ≡ length before) × LinesFor m s t (take n after) × (drop n after ≡ drop n before)
Told m s t before after (Err long) =
    ((ls : List Line) × LinesFor m s t ls × (min (length before) 4096 < length ls)) × (after ≡ replicate (length before) blank)
