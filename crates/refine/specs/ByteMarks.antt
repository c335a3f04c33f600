-- Marks for codes, in bytes. Assumes nothing.
use Rattle.std.specs.Prelude.{ℕ, Bool, ◌==◌, slice_index}
use Rattle.refine.specs.declared.byte_marks.ByteMarks.{ByteMarks}

-- The code is marked.
abbrev pub byte_marked : ByteMarks → ℕ → Bool
byte_marked marks i = slice_index marks.stamps i == marks.stamp
