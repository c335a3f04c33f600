-- What a verdict tells of the formula that it decides.
use Rattle.std.proofs.Common.{◌≡◌, ℕ, ◌<◌, Bool, true, false, T, List, sym, refl, subst}
use Rattle.lts.specs.Lts.{Lts}
use Rattle.hml.specs.Logic.{Formula, Sat}
use Rattle.verdicts.specs.Words.{says, Decides}

pub true_holds : (b : Bool) → b ≡ true → T b
true_holds b e = subst T (sym e) tt

pub holds_true : (b : Bool) → T b → b ≡ true
holds_true true h = refl
holds_true false h = absurd h

module _ (m : Lts) (words : List ℕ) (i : ℕ) (f : Formula) (decides : Decides m words i f) (s : ℕ) (l : s < m.states) where
  pub true_sat : says words i s ≡ true → Sat m s f
  true_sat e = (decides s l).0 (true_holds (says words i s) e)

  pub sat_true : Sat m s f → says words i s ≡ true
  sat_true h = holds_true (says words i s) ((decides s l).1 h)

  pub false_lacks : says words i s ≡ false → ¬ Sat m s f
  false_lacks e h = subst T e ((decides s l).1 h)
