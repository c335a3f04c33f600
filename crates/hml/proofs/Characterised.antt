-- Agreement is by the formulas of its depth, bisimilarity by all formulas, and lines tell what is not bisimilar apart.
use Rattle.std.proofs.Common.{ℕ, ◌≤◌, inl}
use Rattle.lts.specs.Lts.{Lts}
use Rattle.hml.specs.Logic.{Formula, steps, Separates}
use Rattle.hml.specs.Bisimilarity.{Agree}
use Rattle.hml.specs.Distinguishing.{formula_of_lines}
use Rattle.hml.specs.Theorems.{HennessyMilner, AgreementIsBySteps, BisimilarIsEveryDepth}
use Rattle.hml.specs.Theorems.{LinesExist, LinesAreOne, LinesDistinguish}
use Rattle.hml.proofs.Deciding.{not_fails}
use Rattle.hml.proofs.Agreement.{agree?, agree_not_separates}
use Rattle.hml.proofs.Resting.{bisimilar_agrees, every_depth_bisimilar, unlike_apart}
use Rattle.hml.proofs.Telling.{lines_good, separates_apart}
use Rattle.hml.proofs.Writing.{lines_exist, written_is_one}

-- States that do not agree to depth r are separated by a formula of at most r nested steps.
pub separated : (m : Lts) (r s t : ℕ) → ¬ Agree m r s t → (f : Formula) × (steps f ≤ r) × Separates m f s t
separated m r s t n =
    let lines = lines_exist m r s t n in
    let good = lines_good m s t lines.0 lines.1 in
    (formula_of_lines lines.0, good.2 r n, inl (good.0, good.1))

pub agreement_by_steps : AgreementIsBySteps
agreement_by_steps m r s t =
    (λ h f l. agree_not_separates m f r s t l h, λ h. not_fails (agree? m r s t) (λ n. let x = separated m r s t n in h x.0 x.1 x.2))

pub bisimilar_by_depths : BisimilarIsEveryDepth
bisimilar_by_depths m closed s t ls lt = (bisimilar_agrees m s t, every_depth_bisimilar m closed s t ls lt)

pub hennessy_milner : HennessyMilner
hennessy_milner m closed s t ls lt =
    (λ h f x. separates_apart m f s t x (bisimilar_agrees m s t h (steps f)), λ h. every_depth_bisimilar m closed s t ls lt (λ r. (agreement_by_steps m r s t).1 (λ f l. h f)))

pub unlike_lines_exist : LinesExist
unlike_lines_exist m closed s t ls lt n = let x = unlike_apart m closed s t ls lt n in lines_exist m x.0 s t x.1

pub lines_are_one : LinesAreOne
lines_are_one m s t ls ks w v = written_is_one m w ks v

pub lines_distinguish : LinesDistinguish
lines_distinguish m s t ls w =
    let good = lines_good m s t ls w in
    (good.0, good.1, λ f x. good.2 (steps f) (separates_apart m f s t x))
