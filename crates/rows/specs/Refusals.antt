-- The number and the place of each refusal. Assumes nothing.
use Rattle.std.specs.Prelude.{ℕ}
use Rattle.rows.specs.declared.refusal.Refusal.{Refusal}
use Rattle.rows.specs.declared.refusal.Refusal.TheVariants.{NoHeader, BadHeader, Width, BadField, TooMany}

abbrev pub number_of : Refusal → ℕ
number_of NoHeader = 21
number_of (BadHeader line) = 21
number_of (Width line) = 22
number_of (BadField line) = 23
number_of (TooMany line) = 24

abbrev pub place_of : Refusal → ℕ
place_of NoHeader = 0
place_of (BadHeader line) = line
place_of (Width line) = line
place_of (BadField line) = line
place_of (TooMany line) = line
