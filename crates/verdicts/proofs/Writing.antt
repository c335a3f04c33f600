-- One word is written so that only the verdict of one formula changes.
use Rattle.std.proofs.Common.{◌≡◌, ℕ, ◌+◌, ◌<◌, Bool, List, length, get_or, set, ap, ◌∙◌, arith, below_more}
use Rattle.std.proofs.lemmas.List.{get_or-set_same, get_or-set_other}
use Rattle.lts.specs.Lts.{Lts}
use Rattle.formula.specs.declared.entry.Entry.{Entry}
use Rattle.verdicts.specs.Words.{bit, says}
use Rattle.verdicts.specs.Values.{value_of, EntryJudged}
use Rattle.verdicts.proofs.Valuing.{value_same}

-- A formula whose bit stays keeps its verdicts.
says_still : (words : List ℕ) (s word i t : ℕ) → s < length words → bit word i ≡ bit (get_or words s 0) i → says (set words s word) i t ≡ says words i t
says_still words s word i t l stays = grind (arith, get_or-set_same {A = ℕ}, get_or-set_other {A = ℕ})

-- The entry is judged at one state more.
pub entry_more :
    (m : Lts) (e : Entry) (n : ℕ) (old words : List ℕ) (s word : ℕ) (verdict : Bool) → s < length words
    → bit word n ≡ verdict → ((i : ℕ) → (i ≡ n → ⊥) → bit word i ≡ bit (get_or words s 0) i)
    → verdict ≡ value_of m (says words) e s → EntryJudged m e n s old words → EntryJudged m e n (s + 1) old (set words s word)
entry_more m e n old words s word verdict lt same stays is made = record {
  value = λ sound.
      below_more _ _ (λ t l. ap (λ x. bit x n) (get_or-set_other words s t word 0 (λ e. omega arith)) ∙ made.value sound t l)
      (ap (λ x. bit x n) (get_or-set_same words s word 0 lt) ∙ same ∙ is ∙ value_same m (says words) (says old) n (λ i t l. made.others i t (λ e. omega arith)) e sound s);
  others = λ i t ne. says_still words s word i t lt (stays i ne) ∙ made.others i t ne;
}
