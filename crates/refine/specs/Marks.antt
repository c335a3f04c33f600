-- Marks for codes. Assumes nothing.
use Rattle.std.specs.Prelude.{ℕ, Bool, ◌==◌, slice_index}
use Rattle.refine.specs.declared.marks.Marks.{Marks}

-- The code is marked.
abbrev pub marked : Marks → ℕ → Bool
marked marks i = slice_index marks.stamps i == marks.stamp
