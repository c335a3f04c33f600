-- What is read of the lines of a sheet. Assumes nothing.
use Rattle.std.specs.Prelude.{◌≡◌, ℕ, suc, ◌+◌, ◌<◌, Bool, true, false, not, ◌||◌, List, [], length, drop, Some, None, Option, slice_index_or}
use Rattle.sheet.specs.Cursors.{rest}
use Rattle.sheet.specs.Lines.{lines_of, is_remark, blanks}
use Rattle.sheet.specs.declared.line.Line.{Line}
use Rattle.sheet.specs.declared.line.Line.TheVariants.{Remark, Header, Row}
use Rattle.sheet.specs.declared.line.Numbered.{Numbered}
use Rattle.sheet.specs.declared.lines.Lines.{Lines}

-- The lines that are not read yet.
abbrev pub unread : Lines → List (List ℕ)
unread a = lines_of (rest a.cursor)

-- The value holds the line l, as what it is: the header where none has come before it.
abbrev pub Holds : Bool → List ℕ → Line → Type 0
Holds headed l (Remark part) = (is_remark l ≡ true) × (part.now ≡ l)
Holds headed l (Header part) = (is_remark l ≡ false) × (headed ≡ false) × (part.now ≡ l)
Holds headed l (Row part) = (is_remark l ≡ false) × (headed ≡ true) × (part.now ≡ l)

-- Line k of those unread before, with its number, where the lines from k + 1 on are left.
pub record Gives (before : Lines) (k : ℕ) (given : Numbered) (after : Lines) : Type 0 where
  pub there : k < length (unread before)
  pub number : given.number ≡ before.count + suc k
  pub holds : Holds before.headed (slice_index_or (unread before) k []) given.line
  pub left : unread after ≡ drop (suc k) (unread before)
  pub count : after.count ≡ given.number
  pub headed : after.headed ≡ (before.headed || not (is_remark (slice_index_or (unread before) k [])))

-- The first unread line that is not empty is given; none where all are empty, and then no line is left.
abbrev pub NextLine : Lines → Option Numbered → Lines → Type 0
NextLine before None after = (blanks (unread before) ≡ length (unread before)) × (unread after ≡ [])
NextLine before (Some given) after = Gives before (blanks (unread before)) given after
