use Rattle.std.proofs.Common.{eqb, sym, ap, ◌∙◌, ⊎_elim, arith}
use Rattle.std.specs.Int.{w128}
use Rattle.std.proofs.lemmas.Bool.{cases_lt}
use Rattle.std.proofs.lemmas.Nat.{and_le_l}
use Rattle.std.proofs.lemmas.Nat.Bits.{bit_at_set_same, bit_at_set_other, bit_at_clear_same, bit_at_clear_other, bit_at_above}
use Rattle.verdicts.proofs.bits.with_bit.Goals as goal

pub returns-then-on : goal.returns-then-on
returns-then-on c = record {
  same = ap (λ x. eqb x 1) (bit_at_set_same w128 c.args.word c.args.at c.requires) ∙ sym c.if-on.true;
  others = λ i apart. ap (λ x. eqb x 1) (bit_at_set_other w128 c.args.word c.args.at c.requires i apart);
}

pub returns-else-on : goal.returns-else-on
returns-else-on c = record {
  same = ap (λ x. eqb x 1) (bit_at_clear_same w128 c.args.word c.args.at c.requires) ∙ sym c.if-on.false;
  others = λ i apart.
      ap (λ x. eqb x 1)
      (⊎_elim (λ l. bit_at_clear_other w128 c.args.word c.args.at c.requires i l apart)
      (λ past. bit_at_above _ 128 i (omega (arith, and_le_l)) past ∙ sym (bit_at_above c.args.word 128 i (omega arith) past))
      (cases_lt i 128));
}
