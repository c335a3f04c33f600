-- The number of each refusal of a file. Its place is 0. Assumes nothing.
use Rattle.std.specs.Prelude.{ℕ}
use Rattle.files.specs.declared.sheet_file.FileRefusal.{FileRefusal}
use Rattle.files.specs.declared.sheet_file.FileRefusal.TheVariants.{Unreadable, TooLarge}

abbrev pub number_of : FileRefusal → ℕ
number_of Unreadable = 41
number_of TooLarge = 42
