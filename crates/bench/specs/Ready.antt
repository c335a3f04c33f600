-- What a settled bench has ready for every answer. Assumes nothing.
use Rattle.std.specs.Prelude.{List}
use Rattle.lts.specs.Lts.{Lts}
use Rattle.formula.specs.declared.entry.Entry.{Entry}
use Rattle.verdicts.specs.Words.{Judged}
use Rattle.refine.specs.Classes.{Refined}
use Rattle.bench.specs.declared.inner.Inner.{Inner}

-- The verdict of each entry at each state of the system, and the classes of its bisimilar states.
pub record Ready (m : Lts) (es : List Entry) (inner : Inner) : Type 0 where
  pub verdicts : Judged m es inner.verdicts.words
  pub classes : Refined m inner.classes
