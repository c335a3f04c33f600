-- Facts about the states of a small system, by computing; and two machines with equal traces that are not alike.
use Rattle.std.proofs.Common.{◌≡◌, ℕ, ◌<◌, T, List, [], ◌∷◌, length, Some, None, Option, refl, subst, inl, inr, arith}
use native.Mathlib.Decide.{dec_lt}
use Rattle.lts.specs.Lts.{Lts, Move}
use Rattle.hml.specs.Logic.{Formula}
use Rattle.hml.specs.Bisimilarity.{Agree}
use Rattle.hml.specs.Runs.{Nearest, Leads}
use Rattle.hml.specs.Distinguishing.{LinesFor, FirstApart}
use Rattle.hml.specs.Examples.{Fact, Holds, Each, worked}
use Rattle.hml.specs.Examples.Fact.{alike, apart, told, reached, never}
use Rattle.hml.specs.declared.step.Step.{Step}
use Rattle.hml.specs.declared.line.Line.{Line}
use Rattle.hml.proofs.Deciding.{Searched, first_way, both?, not?, all_below?, not_fails, answer, answer_holds}
use Rattle.hml.proofs.Agreement.{agree?}
use Rattle.hml.proofs.Resting.{ClosedBelow, Rests, rests?, AgreeRests, agree_rests?, rests_bisimilar_below, bisimilar_agrees}
use Rattle.hml.proofs.Writing.{lines_exist}
use Rattle.hml.proofs.Reaching.{NotBefore, not_before?, nearest?, rests_never}
use Rattle.hml.proofs.Nearing.{leads_exist}

module _ (m : Lts) where
  unfoldable pub closed_below? : Dec (ClosedBelow m)
  unfolding all_below? first_way not? dec_lt
  closed_below? = all_below? (λ s. (a t : ℕ) → Move m s a t → t < m.states) (λ s. go s (first_way Outside (λ a t. not? (dec_lt t m.states)) (m.ways s))) m.states
    where
      Outside : ℕ → ℕ → Type 0
      Outside a t = ¬ (t < m.states)

      go : (s : ℕ) → Searched Outside (m.ways s) → Dec ((a t : ℕ) → Move m s a t → t < m.states)
      go s (inl x) = no (λ h. x.has (h x.action x.target (x.place, x.way)))
      go s (inr none) = yes (λ a t x. not_fails (dec_lt t m.states) (none x.0 a t x.1))

  -- Agreement rests at the depth that is the number of states, and s and t, two of them, agree to it.
  abbrev pub Rested : ℕ → ℕ → Type 0
  Rested s t = ClosedBelow m × (AgreeRests m m.states × ((s < m.states) × ((t < m.states) × Agree m m.states s t)))

  unfoldable pub rested? : (s t : ℕ) → Dec (Rested s t)
  unfolding closed_below? agree_rests? both? agree? dec_lt
  rested? s t = both? closed_below? (both? (agree_rests? m m.states) (both? (dec_lt s m.states) (both? (dec_lt t m.states) (agree? m m.states s t))))

  unfoldable pub first_apart? : (r s t : ℕ) → Dec (FirstApart m r s t)
  unfolding both? not? all_below? agree?
  first_apart? r s t = both? (not? (agree? m r s t)) (all_below? (λ d. Agree m d s t) (λ d. agree? m d s t) r)

  -- One round more than there are states finds no more states, and s is not found.
  abbrev pub Unreached : Formula → ℕ → Type 0
  Unreached f s = ClosedBelow m × (Rests (NotBefore m f) m.states m.states × ((s < m.states) × NotBefore m f m.states s))

  unfoldable pub unreached? : (f : Formula) (s : ℕ) → Dec (Unreached f s)
  unfolding closed_below? rests? both? not_before? dec_lt
  unreached? f s =
      both? closed_below? (both? (rests? (NotBefore m f) (not_before? m f) m.states m.states) (both? (dec_lt s m.states) (not_before? m f m.states s)))

  -- The lines of two states, where they do not agree to that depth.
  unfoldable pub lines_of : (s t : ℕ) → Option ((ls : List Line) × LinesFor m s t ls)
  unfolding agree? lines_exist
  lines_of s t = go (agree? m m.states s t)
    where
      go : Dec (Agree m m.states s t) → Option ((ls : List Line) × LinesFor m s t ls)
      go (yes h) = None
      go (no n) = Some (lines_exist m m.states s t n)

  -- The run by first nearer ways, where n is the fewest number of moves.
  unfoldable pub path_of : (f : Formula) (s n : ℕ) → Option ((path : List Step) × Leads m f s path)
  unfolding nearest? leads_exist
  path_of f s n = go (nearest? m f s n)
    where
      go : Dec (Nearest m f s n) → Option ((path : List Step) × Leads m f s path)
      go (yes h) = let x = leads_exist m f s n h in Some (x.0, x.1)
      go (no fails) = None

-- What is found to have a property, without it.
unfoldable pub value_of : {X : Type 0} {P : X → Type 0} → Option ((x : X) × P x) → Option X
value_of None = None
value_of (Some p) = Some p.0

value_has : {X : Type 0} {P : X → Type 0} (o : Option ((x : X) × P x)) (x : X) → value_of o ≡ Some x → P x
unfolding value_of
value_has None x e = let z : ◌≡◌ {A = ℕ} 0 1 = cc in absurd (omega arith)
value_has {P} (Some p) x e = let same : p.0 ≡ x = cc in subst P same p.1

-- What computing tells of a fact. Where it does, the fact holds.
abbrev pub Computed : Lts → Fact → Type 0
Computed m (alike s t) = T (answer (rested? m s t))
Computed m (apart r s t) = T (answer (first_apart? m r s t))
Computed m (told s t ls) = value_of (lines_of m s t) ≡ Some ls
Computed m (reached f s path) = value_of (path_of m f s (length path)) ≡ Some path
Computed m (never f s) = T (answer (unreached? m f s))

computed_holds : (m : Lts) (x : Fact) → Computed m x → Holds m x
computed_holds m (alike s t) h =
    let x = answer_holds (rested? m s t) h in
    rests_bisimilar_below m x.0 m.states x.1.0 s t x.1.1.0 x.1.1.1.0 x.1.1.1.1
computed_holds m (apart r s t) h = let x = answer_holds (first_apart? m r s t) h in (x, λ b. x.0 (bisimilar_agrees m s t b r))
computed_holds m (told s t ls) h = value_has (lines_of m s t) ls h
computed_holds m (reached f s path) h = value_has (path_of m f s (length path)) path h
computed_holds m (never f s) h =
    let x = answer_holds (unreached? m f s) h in
    rests_never m f x.0 m.states x.1.0 s x.1.1.0 x.1.1.1

abbrev pub EachComputed : List (Lts × Fact) → Type 0
EachComputed [] = Unit {0}
EachComputed (x ∷ xs) = Computed x.0 x.1 × EachComputed xs

each_holds : (xs : List (Lts × Fact)) → EachComputed xs → Each xs
each_holds [] h = tt
each_holds (x ∷ xs) h = (computed_holds x.0 x.1 h.0, each_holds xs h.1)

worked_computed : EachComputed worked
unfolding answer rested? first_apart? unreached? lines_of path_of value_of
worked_computed = (tt, (refl, (refl, (tt, (tt, (refl, (refl, (tt, tt))))))))

pub worked_hold : Each worked
worked_hold = each_holds worked worked_computed
