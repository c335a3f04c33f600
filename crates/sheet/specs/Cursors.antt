-- What a cursor stands for. Assumes nothing.
use Rattle.std.specs.Prelude.{◌≡◌, ℕ, ◌+◌, List, drop}
use Rattle.sheet.specs.declared.cursor.Cursor.{Cursor}

-- All bytes of its sheet.
abbrev pub bytes : Cursor → List ℕ
bytes c = c.sheet.now

-- How many of them are read.
abbrev pub place : Cursor → ℕ
place c = c.at

-- The bytes that are not read yet.
abbrev pub rest : Cursor → List ℕ
rest c = drop (place c) (bytes c)

-- n bytes more of the same sheet are read.
pub record Moved (before : Cursor) (n : ℕ) (after : Cursor) : Type 0 where
  pub sheet : bytes after ≡ bytes before
  pub on : place after ≡ place before + n
