use Rattle.std.proofs.Common.{◌∙◌, sym}
use Rattle.formula_text.proofs.Passing.{is_mark, spaced_more}
use Rattle.formula_text.proofs.reader.Reader.next_mark.Goals as goal

pub loop-self-preserved : goal.loop-self-preserved
loop-self-preserved c = spaced_more c.loop-self.invariant (sym c.peek.ensures ∙ is_mark c.peek.result 32 (sym c.eq.ensures ∙ c.loop-self-test.true)) c.take.ensures
