-- What a bench is to those who call it. Assumes nothing.
use Rattle.std.specs.Prelude.{List}
use Rattle.lts.specs.Lts.{Lts}
use Rattle.lts.specs.Joined.{joined}
use Rattle.formula.specs.declared.entry.Entry.{Entry}

-- Two systems side by side, and the entries held.
pub record Bench (L R : Type 0) : Type 0 where
  pub left : L
  pub right : R
  pub entries : List Entry

-- The two systems as one, where `left` and `right` say what the values of their types mean.
abbrev pub system : {L R : Type 0} → (L → Lts) → (R → Lts) → Bench L R → Lts
system left right b = joined (left b.left) (right b.right)
