use Rattle.grammar.proofs.formula_text_is_decided.Goals as goal
use Rattle.grammar.proofs.Verdicts.{unique, counted, exact, decided, accepted, malformed}
use Rattle.grammar.proofs.Written.{written, acts}

pub returns : goal.returns
returns c = record {
  unique = unique;
  counted = counted;
  exact = exact;
  decided = decided;
  accepted = accepted;
  malformed = malformed;
  written = written;
  acts = acts;
}
