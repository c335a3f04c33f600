-- What entering a list leaves. Assumes nothing.
use Rattle.std.specs.Prelude.{◌≡◌, ℕ, List, Ok, Err, Result}
use Rattle.formula.specs.Entries.{appended}
use Rattle.formula.specs.declared.entry.Entry.{Entry}
use Rattle.law.specs.declared.refusals.EnterRefusal.{EnterRefusal}

-- What is held after an answer to entering the list: it is appended, and after a refusal nothing has changed.
abbrev pub HeldAfter : List Entry → List Entry → Result ℕ EnterRefusal → List Entry → Type 0
HeldAfter before list (Ok n) after = after ≡ appended before list
HeldAfter before list (Err e) after = after ≡ before
