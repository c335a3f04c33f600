-- A move that another state does not match is found by its code, and it chooses the line.
use Rattle.std.proofs.Common.{◌≡◌, ℕ, zero, suc, ◌-◌, ◌<◌, Bool, true, false, cond, not, List, [], ◌∷◌, get_or, Some, None, Option, sym, refl, subst, arith}
use Rattle.std.specs.List.{find}
use Rattle.std.proofs.lemmas.Bool.{both_ways}
use Rattle.lts.specs.Lts.{Lts, Way}
use Rattle.pair.specs.Wide.{Wide}
use Rattle.hml.specs.Bisimilarity.{Matched, Bisimilar, Agree}
use Rattle.hml.specs.Distinguishing.{FirstApart, FirstUnmatched}
use Rattle.hml.specs.Distinguishing.Chosen.{by_may, by_must}
use Rattle.hml.proofs.Agreement.{agree_sym, matched_wider}
use Rattle.hml.proofs.Deciding.{none_moves}
use Rattle.refine.specs.Apart.{PartsAt}
use Rattle.refine.specs.Classes.{Classed}
use Rattle.refine.specs.Codes.{moves, code_of, coded}
use Rattle.refine.proofs.Signing.{coded_matched, matched_coded}
use Rattle.telling.specs.Choosing.{depth_before, choice_of, Chooses}
use Rattle.telling.specs.Unlike.{first_unlike}
use Rattle.telling.specs.declared.choosing.Choice.{Choice}

-- What a search by codes finds: every move passes, or this is the first that does not.
abbrev Found : List ℕ → (ℕ → Bool) → List Way → Way → Type 0
Found names test ws None = (j a u : ℕ) → get_or ws j None ≡ Some (a, u) → test (code_of names (a, u)) ≡ true
Found names test ws (Some p) =
    (k : ℕ) × (get_or ws k None ≡ Some p) × (test (code_of names p) ≡ false)
    × ((j a u : ℕ) → j < k → get_or ws j None ≡ Some (a, u) → test (code_of names (a, u)) ≡ true)

module _ (names : List ℕ) (test : ℕ → Bool) where
  -- One way more in front, which is shut or passes.
  behind : (w : Way) (ws : List Way) (o : Way) → ((a u : ℕ) → w ≡ Some (a, u) → test (code_of names (a, u)) ≡ true) → Found names test ws o → Found names test (w ∷ ws) o
  behind w ws None h f = go
    where
      go : Found names test (w ∷ ws) None
      go zero a u e = h a u e
      go (suc j) a u e = f j a u e
  behind w ws (Some p) h f = (suc f.0, f.1, f.2, go)
    where
      go : (j a u : ℕ) → j < suc f.0 → get_or (w ∷ ws) j None ≡ Some (a, u) → test (code_of names (a, u)) ≡ true
      go zero a u l e = h a u e
      go (suc j) a u l e = f.3 j a u (omega arith) e

  abbrev first : List Way → Way
  first ws = find (λ p. not (test (code_of names p))) (moves ws)

  found : (ws : List Way) → Found names test ws (first ws)
  found [] = λ j a u e. absurd (none_moves a u e)
  found (None ∷ ws) = behind None ws (first ws) (λ a u e. absurd (none_moves a u e)) (found ws)
  found (Some p ∷ ws) = by_test (found ws) (test (code_of names p)) refl
    where
      by_test : Found names test ws (first ws) → (b : Bool) → test (code_of names p) ≡ b → Found names test (Some p ∷ ws) (cond (not b) (Some p) (first ws))
      by_test rest true e = behind (Some p) ws (first ws) (λ a u f. let same : p ≡ (a, u) = cc in subst (λ q. test (code_of names q) ≡ true) same e) rest
      by_test rest false e = (0, refl, e, λ j a u l. absurd (omega arith))

-- What is sought: a match for each move of s, or the first move of s that t does not match.
abbrev pub Sought : Lts → ℕ → ℕ → ℕ → Way → Type 0
Sought m d s t None = Matched m (Agree m d) s t
Sought m d s t (Some p) = (k : ℕ) × FirstUnmatched m d s t k p.0 p.1

module _ (m : Lts) (wide : Wide m) (d : ℕ) (names : List ℕ) (classed : Classed m d names) where
  sought_of : (s t : ℕ) (o : Way) → Found names (coded names (moves (m.ways t))) (m.ways s) o → Sought m d s t o
  sought_of s t None f = λ a u x. coded_matched m names wide d classed s t x.0 a u x.1 (f x.0 a u x.1)
  sought_of s t (Some p) f = (
    f.0,
    (
      (f.1, λ v x agrees. both_ways (coded names (moves (m.ways t)) (code_of names p)) f.2 (matched_coded m names wide d classed s t f.0 p.0 p.1 v f.1 x agrees)),
      λ j b v l x. let y = coded_matched m names wide d classed s t j b v x.0 (f.3 j b v l x.0) in x.1 y.0 y.1 y.2,
    ),
  )

  pub sought : (s t : ℕ) → Sought m d s t (first_unlike m names s t)
  sought s t = sought_of s t (first_unlike m names s t) (found names (coded names (moves (m.ways t))) (m.ways s))

-- The line of a pair, by what is sought both ways.
chooses : (m : Lts) (d s t : ℕ) → FirstApart m (suc d) s t → (x y : Way) → Sought m d s t x → Sought m d t s y → Chooses m s t (choice_of x y)
chooses m d s t apart (Some p) y f h = by_may d f.0 p.0 p.1 apart f.1
chooses m d s t apart None (Some p) f h =
    by_must d h.0 p.0 p.1 apart (λ j b w n. let y = f b w (j, n.0) in n.1 y.0 y.1 y.2) h.1
chooses m d s t apart None None f h = absurd (apart.0 (f, matched_wider m (Agree m d) (λ u v. Agree m d v u) (agree_sym m d) t s h))

chooses_at :
    (m : Lts) → Wide m → (s t : ℕ) (parts : Option ℕ) (names : List ℕ) → PartsAt m s t parts → ¬ Bisimilar m s t → Classed m (depth_before parts) names
    → Chooses m s t (choice_of (first_unlike m names s t) (first_unlike m names t s))
chooses_at m wide s t None names p n classed = absurd (n p)
chooses_at m wide s t (Some zero) names p n classed = absurd (p.0 tt)
chooses_at m wide s t (Some (suc d)) names p n classed =
    let same : suc d - 1 ≡ d = omega arith in
    let at = subst (λ e. Classed m e names) same classed in
    chooses m d s t p (first_unlike m names s t) (first_unlike m names t s) (sought m wide d names at s t) (sought m wide d names at t s)

-- The choice by the names at the depth before that at which the two part is the line of the pair.
pub choice_is :
    (m : Lts) → Wide m → (s t d : ℕ) (parts : Option ℕ) (names : List ℕ) (r : Choice)
    → PartsAt m s t parts → ¬ Bisimilar m s t → d ≡ depth_before parts → Classed m d names
    → r ≡ choice_of (first_unlike m names s t) (first_unlike m names t s) → Chooses m s t r
choice_is m wide s t d parts names r p n e classed f =
    subst (Chooses m s t) (sym f) (chooses_at m wide s t parts names p n (subst (λ i. Classed m i names) e classed))
