-- What is proved of lists of entries. Assumes nothing.
use Rattle.std.specs.Prelude.{◌≡◌, ℕ, ◌+◌, ◌<◌, List, length}
use Rattle.formula.specs.Entries.{formula_at, AllSound, appended}
use Rattle.formula.specs.declared.entry.Entry.{Entry}

-- A formula keeps its meaning as entries are appended.
abbrev pub AppendingKeeps : Type 0
AppendingKeeps = (es list : List Entry) (n : ℕ) → n < length es → formula_at (appended es list) n ≡ formula_at es n

-- An entry of a sound list stands for the same formula once the list is appended.
abbrev pub AppendingAdds : Type 0
AppendingAdds = (es list : List Entry) (n : ℕ) → AllSound list → n < length list → formula_at (appended es list) (length es + n) ≡ formula_at list n

-- What a sound list is appended to stays sound.
abbrev pub AppendingIsSound : Type 0
AppendingIsSound = (es list : List Entry) → AllSound es → AllSound list → AllSound (appended es list)
