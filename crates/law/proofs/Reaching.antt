-- Reach has one answer and leaves one path, and its answers from bisimilar states agree.
use Rattle.std.proofs.Common.{◌≡◌, ℕ, ◌<◌, Bool, true, false, cond, leb, ◌↔◌, List, ◌++◌, length, take, drop, Some, None, Ok, Err, Option, Result, refl, ap, inl, inr, arith}
use Rattle.std.proofs.lemmas.Bool.{le-leb, lt-leb}
use Rattle.lts.specs.Lts.{Lts}
use Rattle.hml.specs.Logic.{Formula}
use Rattle.hml.specs.Bisimilarity.{Bisimilar}
use Rattle.hml.specs.Runs.{Never, Leads}
use Rattle.hml.specs.declared.step.Step.{Step}
use Rattle.hml.proofs.Resting.{bisimilar_refl}
use Rattle.hml.proofs.Reaching.{nearest_is_one, never_not_nearest, nearest_kept, never_kept}
use Rattle.hml.proofs.Nearing.{leads_exist, leads_nearest, leads_are_one}
use Rattle.formula.specs.Entries.{formula_at}
use Rattle.formula.specs.declared.entry.Entry.{Entry}
use Rattle.law.specs.Answers.{Reached}
use Rattle.law.specs.declared.refusals.ReachRefusal.{ReachRefusal}
use Rattle.law.specs.declared.refusals.ReachRefusal.TheVariants.{NoFormula, NoState, PathShort}
use Rattle.law.proofs.Guarding.{AtMostOne, parts_are_one, written, MadeOf, Asked, asked_is_one, asked_answered}

-- The number of moves of a run, where there is one.
abbrev pub moves_of : Option (List Step) → Option ℕ
moves_of None = None
moves_of (Some path) = Some (length path)

module _ (m : Lts) (f : Formula) where
  -- The formula is never reached from s, or this is the run that takes the first nearer way at each state.
  abbrev pub Reaching : ℕ → Option (List Step) → Type 0
  Reaching s None = Never m f s
  Reaching s (Some path) = Leads m f s path

  -- From bisimilar states it is reached in the same number of moves, or never from both.
  pub reaching_alike : (s t : ℕ) (o p : Option (List Step)) → Bisimilar m s t → Reaching s o → Reaching t p → moves_of o ≡ moves_of p
  reaching_alike s t None None b h g = refl
  reaching_alike s t None (Some q) b h g = absurd (never_not_nearest m f t (length q) (never_kept m f s t b h) (leads_nearest m f g))
  reaching_alike s t (Some p) None b h g = absurd (never_not_nearest m f t (length p) g (nearest_kept m f s t (length p) b (leads_nearest m f h)))
  reaching_alike s t (Some p) (Some q) b h g =
      ap Some (nearest_is_one m f t (length p) (length q) (nearest_kept m f s t (length p) b (leads_nearest m f h)) (leads_nearest m f g))

  reaching_is_one : (s : ℕ) → AtMostOne (Reaching s)
  reaching_is_one s None None h g = refl
  reaching_is_one s None (Some q) h g = cc (reaching_alike s s None (Some q) (bisimilar_refl m s) h g)
  reaching_is_one s (Some p) None h g = cc (reaching_alike s s (Some p) None (bisimilar_refl m s) h g)
  reaching_is_one s (Some p) (Some q) h g = ap Some (leads_are_one m f h q g)

-- What reach answers of the fewest number of moves, where the path has so much room.
abbrev pub reach_answer : ℕ → Option ℕ → Result (Option ℕ) ReachRefusal
reach_answer room None = Ok None
reach_answer room (Some n) = cond (leb n room) (Ok (Some n)) (Err PathShort)

reach_answers : (room : ℕ) (o p : Option ℕ) → reach_answer room o ≡ Ok p → o ≡ p
reach_answers room None p e = cc
reach_answers room (Some n) p e = go (leb n room) e
  where
    go : (fits : Bool) → cond fits (Ok (Some n)) (Err PathShort) ≡ Ok p → Some n ≡ p
    go true e = cc
    go false e = cc

-- How the answers r and r' of two reaches agree, where their paths have so much room.
abbrev pub AgreeOn : ℕ → ℕ → Result (Option ℕ) ReachRefusal → Result (Option ℕ) ReachRefusal → Type 0
AgreeOn room room' r r' =
    ((r ≡ Ok None) ↔ (r' ≡ Ok None)) × ((n n' : ℕ) → r ≡ Ok (Some n) → r' ≡ Ok (Some n') → n ≡ n') × (room ≡ room' → r ≡ r')

-- What is answered of the same number of moves agrees.
pub answers_agree : (room room' : ℕ) (o : Option ℕ) → AgreeOn room room' (reach_answer room o) (reach_answer room' o)
answers_agree room room' o = (
  (λ e. ap (reach_answer room') (reach_answers room o None e), λ e. ap (reach_answer room) (reach_answers room' o None e)),
  λ n n' e e'. cc (reach_answers room o (Some n) e, reach_answers room' o (Some n') e'),
  λ e. ap (λ i. reach_answer i o) e,
)

-- The path that reach leaves.
abbrev pub path_left : List Step → Option (List Step) → List Step
path_left before None = before
path_left before (Some path) = cond (leb (length path) (length before)) (path ++ drop (length path) before) before

abbrev pub reach_done : List Step → Option (List Step) → Result (Option ℕ) ReachRefusal × List Step
reach_done before o = (reach_answer (length before) (moves_of o), path_left before o)

module _ (m : Lts) (es : List Entry) (f s : ℕ) (before : List Step) where
  abbrev ReachMade : Result (Option ℕ) ReachRefusal × List Step → Type 0
  ReachMade = Asked m es f s (Err NoFormula, before) (Err NoState, before) (Reaching m (formula_at es f) s) (reach_done before)

  reached_made : (after : List Step) (r : Result (Option ℕ) ReachRefusal) → Reached m es f s before after r → ReachMade (r, after)
  reached_made after (Ok None) h = inr (h.0, inr (h.1, (None, h.2, ap (λ z. (Ok None, z)) h.3)))
  reached_made after (Ok (Some n)) h =
      let memory = written n before after h.3 h.4 h.6 in
      inr (h.0, inr (h.1, (Some (take n after), h.5, rw (memory.0, le-leb n (length before) h.3) (ap (λ z. (Ok (Some n), z)) memory.1))))
  reached_made after (Err NoFormula) h = inl (h.0, ap (λ z. (Err NoFormula, z)) h.1)
  reached_made after (Err NoState) h = inr (h.0, inl (h.1, ap (λ z. (Err NoState, z)) h.2))
  reached_made after (Err PathShort) h =
      let run = leads_exist m (formula_at es f) s h.2.0 h.2.1 in
      let short : length before < length run.0 = omega (arith, run.2, h.2.2) in
      inr (h.0, inr (h.1, (Some run.0, run.1, rw (lt-leb (length run.0) (length before) short) (ap (λ z. (Err PathShort, z)) h.3))))

  pub reached_is_one : (x y : List Step) (r q : Result (Option ℕ) ReachRefusal) → Reached m es f s before x r → Reached m es f s before y q → (r ≡ q) × (x ≡ y)
  reached_is_one x y r q h g =
      parts_are_one (asked_is_one m es f s _ _ _ (reach_done before) (reaching_is_one m (formula_at es f) s) (r, x) (q, y) (reached_made x r h) (reached_made y q g))

  -- Where there is such a formula and such a state, the answer is made of the fewest number of moves.
  pub reached_answered : (after : List Step) (r : Result (Option ℕ) ReachRefusal) → f < length es → s < m.states → Reached m es f s before after r
      → MadeOf (Reaching m (formula_at es f) s) (reach_done before) (r, after)
  reached_answered after r l k h = asked_answered m es f s _ _ (Reaching m (formula_at es f) s) (reach_done before) (r, after) l k (reached_made after r h)
