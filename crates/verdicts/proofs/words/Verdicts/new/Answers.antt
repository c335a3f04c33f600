use Rattle.std.proofs.Common.{eqb, replicate, ap, ◌∙◌, ⊎_elim}
use Rattle.std.proofs.lemmas.Bool.{cases_lt}
use Rattle.std.proofs.lemmas.List.{get_or-replicate, get_or_past}
use Rattle.std.proofs.lemmas.Nat.Bits.{bit_at-zero}
use Rattle.verdicts.specs.Words.{bit}
use Rattle.verdicts.proofs.words.Verdicts.new.Goals as goal

pub returns : goal.returns
returns c = λ i s.
    ap (λ w. bit w i) (⊎_elim (get_or-replicate 2048 s 0 0) (get_or_past (replicate 2048 0) s 0) (cases_lt s 2048))
    ∙ ap (λ n. eqb n 1) (bit_at-zero i)
