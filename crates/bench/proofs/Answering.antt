-- What the parts answer, as the calls define it.
use Rattle.std.proofs.Common.{◌≡◌, ℕ, ◌<◌, ◌↔◌, IsTrue, eqb, List, length, get_or, Some, None, Ok, Err, Option, Result, MatchResult, sym, ◌∙◌}
use Rattle.std.proofs.lemmas.Bool.{eq-eqb, eqb-true}
use Rattle.lts.specs.Lts.{Lts}
use Rattle.hml.specs.Bisimilarity.{Bisimilar}
use Rattle.hml.specs.declared.step.Step.{Step}
use Rattle.hml.specs.declared.line.Line.{Line}
use Rattle.formula.specs.Entries.{formula_at}
use Rattle.formula.specs.declared.entry.Entry.{Entry}
use Rattle.pair.specs.Wide.{Wide}
use Rattle.runs.specs.Reaching.{Searched}
use Rattle.runs.specs.declared.searching.TooShort.{TooShort}
use Rattle.telling.specs.Telling.{Told as Written}
use Rattle.telling.specs.declared.writing.TooLong.{TooLong}
use Rattle.law.specs.Answers.{Reached, Told}
use Rattle.law.specs.declared.refusals.ReachRefusal.{ReachRefusal}
use Rattle.law.specs.declared.refusals.ReachRefusal.TheVariants.{PathShort}
use Rattle.law.specs.declared.refusals.TellRefusal.{TellRefusal}
use Rattle.law.specs.declared.refusals.TellRefusal.TheVariants as tell'
use Rattle.refine.specs.Classes.{Refined}
use Rattle.refine.specs.declared.classes.Classes.{Classes}
use Rattle.refine.proofs.Parting.{one_name_bisimilar, bisimilar_one_name}

module _ (m : Lts) (es : List Entry) (f s : ℕ) (before after : List Step) (l : f < length es) (k : s < m.states) where
  pub reached : (o : Result (Option ℕ) TooShort) (r : Result (Option ℕ) ReachRefusal) → MatchResult o (λ n. r ≡ Ok n) (λ e. r ≡ Err PathShort) → Searched m (formula_at es f) s before after o → Reached m es f s before after r
  reached (Ok None) r e x = rw e (l, k, x.0, x.1)
  reached (Ok (Some n)) r e x = rw e (l, k, x.0, x.1, x.2, x.3, x.4)
  reached (Err short) r e x = rw e (l, k, x.0, x.1)

module _ (m : Lts) (s t : ℕ) (before after : List Line) (l : s < m.states) (k : t < m.states) where
  pub told : (o : Result ℕ TooLong) (r : Result ℕ TellRefusal) → MatchResult o (λ n. r ≡ Ok n) (λ e. r ≡ Err tell'.TooLong) → Written m s t before after o → Told m s t before after r
  told (Ok n) r e x = rw e (l, k, x.0, x.1, x.2, x.3, x.4)
  told (Err long) r e x = rw e (l, k, x.0, x.1)

pub names_alike : (m : Lts) → Wide m → (c : Classes) → Refined m c → (s t x y : ℕ) → x ≡ get_or c.names s 0 → y ≡ get_or c.names t 0 → s < m.states → t < m.states → IsTrue (eqb x y) ↔ Bisimilar m s t
names_alike m wide c refined s t x y e e' l k = (
  λ same. one_name_bisimilar m c refined wide s t l k (sym e ∙ eqb-true x y same ∙ e'),
  λ alike. eq-eqb x y (e ∙ bisimilar_one_name m c refined s t l k alike ∙ sym e'),
)
