-- Enter, rule and alike have one answer each.
use Rattle.std.proofs.Common.{◌≡◌, ℕ, ◌+◌, ◌-◌, ◌<◌, ◌≤◌, Bool, cond, T, leb, ◌↔◌, List, length, get_or, Some, None, Ok, Err, Option, Result, refl, ap, inl, inr, arith}
use Rattle.std.proofs.lemmas.Bool.{le-leb, lt-leb}
use Rattle.lts.specs.Lts.{Lts}
use Rattle.hml.specs.Logic.{Sat}
use Rattle.hml.specs.Bisimilarity.{Bisimilar}
use Rattle.hml.proofs.Deciding.{by_order}
use Rattle.formula.specs.Entries.{formula_at, Sound, SoundBelow, AllSound}
use Rattle.formula.specs.declared.entry.Entry.{Entry}
use Rattle.formula.specs.declared.entry.Entry.TheVariants.{True}
use Rattle.law.specs.Answers.{Entered, Ruled, Compared}
use Rattle.law.specs.declared.refusals.EnterRefusal.{EnterRefusal}
use Rattle.law.specs.declared.refusals.EnterRefusal.TheVariants.{Empty, Unsound, Full}
use Rattle.law.specs.declared.refusals.RuleRefusal.{RuleRefusal}
use Rattle.law.specs.declared.refusals.RuleRefusal.TheVariants as rule'
use Rattle.law.specs.declared.refusals.AlikeRefusal.{AlikeRefusal}
use Rattle.law.specs.declared.refusals.AlikeRefusal.TheVariants as alike'
use Rattle.law.proofs.Guarding.{AtMostOne, truth_is_one, Guarded, guarded_is_one, MadeOf, made_is_one, Asked, asked_is_one, Paired, paired_is_one}

-- Every entry of a list is sound, or the first that is not stands at this place.
abbrev FirstUnsound : List Entry → Option ℕ → Type 0
FirstUnsound list None = AllSound list
FirstUnsound list (Some i) = (i < length list) × SoundBelow i list × (¬ Sound i (get_or list i True))

unsound_not_below : (list : List Entry) (i j : ℕ) → SoundBelow i list → ¬ Sound j (get_or list j True) → i ≤ j
unsound_not_below list i j below unsound = by_order j i (λ l. absurd (unsound (below j l))) (λ l. l)

first_unsound_is_one : (list : List Entry) → AtMostOne (FirstUnsound list)
first_unsound_is_one list None None h g = refl
first_unsound_is_one list None (Some j) h g = absurd (g.2 (h j g.0))
first_unsound_is_one list (Some i) None h g = absurd (h.2 (g i h.0))
first_unsound_is_one list (Some i) (Some j) h g =
    let same : i ≡ j = omega (arith, unsound_not_below list i j h.1 g.2, unsound_not_below list j i g.1 h.2) in
    ap Some same

-- What enter answers where there would be so many entries in all.
abbrev enter_answer : ℕ → Option ℕ → Result ℕ EnterRefusal
enter_answer total None = cond (leb total 128) (Ok (total - 1)) (Err Full)
enter_answer total (Some i) = Err (Unsound i)

module _ (es list : List Entry) where
  abbrev EnterMade : Result ℕ EnterRefusal → Type 0
  EnterMade = MadeOf (FirstUnsound list) (enter_answer (length es + length list))

  entered_made : (r : Result ℕ EnterRefusal) → Entered es list r → Guarded (length list ≡ 0) (1 ≤ length list) (Err Empty) EnterMade r
  entered_made (Ok n) h =
      let last : n ≡ length es + length list - 1 = omega arith in
      inr (h.0, (None, h.1, rw (le-leb (length es + length list) 128 h.2) (ap Ok last)))
  entered_made (Err Empty) h = inl (h, refl)
  entered_made (Err (Unsound i)) h = inr (omega arith, (Some i, h, refl))
  entered_made (Err Full) h = inr (h.0, (None, h.1, rw (lt-leb (length es + length list) 128 h.2)))

  pub entered_is_one : AtMostOne (Entered es list)
  entered_is_one r q h g =
      guarded_is_one _ _ (Err Empty) EnterMade (λ x y. omega arith) (made_is_one _ _ (first_unsound_is_one list)) r q (entered_made r h) (entered_made q g)

module _ (m : Lts) (es : List Entry) (f s : ℕ) where
  abbrev Holds : Bool → Type 0
  Holds b = T b ↔ Sat m s (formula_at es f)

  ruled_made : (r : Result Bool RuleRefusal) → Ruled m es f s r → Asked m es f s (Err rule'.NoFormula) (Err rule'.NoState) Holds Ok r
  ruled_made (Ok b) h = inr (h.0, inr (h.1, (b, h.2, refl)))
  ruled_made (Err rule'.NoFormula) h = inl (h, refl)
  ruled_made (Err rule'.NoState) h = inr (h.0, inl (h.1, refl))

  pub ruled_is_one : AtMostOne (Ruled m es f s)
  ruled_is_one r q h g =
      asked_is_one m es f s (Err rule'.NoFormula) (Err rule'.NoState) Holds Ok (truth_is_one (Sat m s (formula_at es f))) r q (ruled_made r h) (ruled_made q g)

module _ (m : Lts) (s t : ℕ) where
  abbrev Alike : Bool → Type 0
  Alike b = T b ↔ Bisimilar m s t

  compared_made : (r : Result Bool AlikeRefusal) → Compared m s t r → Paired m s t (Err alike'.NoState) Alike Ok r
  compared_made (Ok b) h = inr ((h.0, h.1), (b, h.2, refl))
  compared_made (Err alike'.NoState) h = inl (h, refl)

  pub compared_is_one : AtMostOne (Compared m s t)
  compared_is_one r q h g = paired_is_one m s t (Err alike'.NoState) Alike Ok (truth_is_one (Bisimilar m s t)) r q (compared_made r h) (compared_made q g)
