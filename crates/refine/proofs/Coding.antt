-- Which codes the moves of a state have.
use Rattle.std.proofs.Common.{◌≡◌, ℕ, zero, suc, ◌<◌, ◌≤◌, true, false, ◌&&◌, Bool, eqb, List, [], ◌∷◌, get_or, Some, None, Option, refl, ap, subst, ⊎_elim, arith}
use Rattle.std.proofs.lemmas.Bool.{and_from, false≢true, or_cases, or_left, or_right, eqb-true, eq-eqb}
use Rattle.std.proofs.lemmas.Iterator.{YieldsList}
use Rattle.std.proofs.lemmas.Iterator.Adapters.{YieldsList-from_once, YieldsList-from_flatten}
use Rattle.std.specs.Iterator.Adapters.{once_item, once_steps, flatten_source, flatten_front, flatten_back, flatten_done, flatten_steps}
use Rattle.std.specs.List.{list_all}
use Rattle.std.specs.Option.{option_to_list}
use Rattle.std.specs.declared.iter.Flatten.{Flatten}
use Rattle.std.specs.declared.iter.Once.{Once}
use Rattle.lts.specs.Lts.{Way}
use Rattle.hml.proofs.Deciding.{none_moves}
use Rattle.refine.specs.Codes.{moves, code_of, coded}

pub code_low : (names : List ℕ) (p : ℕ × ℕ) → code_of names p < 108545
code_low names p = omega arith

-- Each move has its code.
pub move_coded : (names : List ℕ) (ws : List Way) (k a u : ℕ) → get_or ws k None ≡ Some (a, u) → coded names (moves ws) (code_of names (a, u)) ≡ true
move_coded names [] k a u e = absurd (none_moves a u e)
move_coded names (None ∷ ws) zero a u e = absurd (none_moves a u e)
move_coded names (None ∷ ws) (suc k) a u e = move_coded names ws k a u e
move_coded names (Some p ∷ ws) zero a u e =
    let same : p ≡ (a, u) = cc in
    or_left (eqb (code_of names p) (code_of names (a, u))) (coded names (moves ws) (code_of names (a, u))) (eq-eqb (code_of names p) (code_of names (a, u)) (ap (code_of names) same))
move_coded names (Some p ∷ ws) (suc k) a u e =
    or_right (eqb (code_of names p) (code_of names (a, u))) (coded names (moves ws) (code_of names (a, u))) (move_coded names ws k a u e)

-- A move with the code.
pub record CodedMove (names : List ℕ) (ws : List Way) (i : ℕ) : Type 0 where
  pub place : ℕ
  pub action : ℕ
  pub target : ℕ
  pub way : get_or ws place None ≡ Some (action, target)
  pub code : code_of names (action, target) ≡ i

one_more : (names : List ℕ) (w : Way) (ws : List Way) (i : ℕ) → CodedMove names ws i → CodedMove names (w ∷ ws) i
one_more names w ws i h = record { place = suc h.place; action = h.action; target = h.target; way = h.way; code = h.code }

-- A code is that of a move.
pub coded_by : (names : List ℕ) (ws : List Way) (i : ℕ) → coded names (moves ws) i ≡ true → CodedMove names ws i
coded_by names [] i e = let z : ◌≡◌ {A = ℕ} 0 1 = cc in absurd (omega arith)
coded_by names (None ∷ ws) i e = one_more names None ws i (coded_by names ws i e)
coded_by names (Some p ∷ ws) i e =
    ⊎_elim
    (λ h. record { place = 0; action = p.0; target = p.1; way = refl; code = eqb-true (code_of names p) i h })
    (λ h. one_more names (Some p) ws i (coded_by names ws i h))
    (or_cases (eqb (code_of names p) i) (coded names (moves ws) i) e)

-- Moves have one code just where they have the same action and targets of one name.
pub same_code :
    (names : List ℕ) (a u b v : ℕ) → a ≤ 52 → b ≤ 52 → get_or names u 0 < 2048 → get_or names v 0 < 2048
    → code_of names (b, v) ≡ code_of names (a, u) → (b ≡ a) × (get_or names v 0 ≡ get_or names u 0)
same_code names a u b v la lb lu lv e = (omega arith, omega arith)

-- Flattened, an iterator over ways gives their moves.
pub moves_given :
    {S : Type 0} {steps : S → Option Way → S → Type 0} {s : Flatten S (Once (ℕ × ℕ))} {ws : List Way} {becomes : Way → Once (ℕ × ℕ) → Type 0}
    → ((o : Way) (j : Once (ℕ × ℕ)) → becomes o j → once_item j ≡ o)
    → YieldsList steps (λ x. x) (flatten_source s) ws → flatten_front s ≡ None → flatten_back s ≡ None → flatten_done s ≡ false
    → YieldsList (flatten_steps steps becomes once_steps) (λ x. x) s (moves ws)
moves_given {becomes = becomes} one e f b d =
    YieldsList-from_flatten becomes once_steps (λ x. x) option_to_list (λ x j h. YieldsList-from_once x (one x j h)) e f b d

pub both : (a b : Bool) → (a && b) ≡ true → (a ≡ true) × (b ≡ true)
both true b e = (refl, e)
both false b e = (e, absurd (false≢true e))

-- Each move has a code that passes just where each code that a move has does.
pub all_coded : (names : List ℕ) (test : ℕ → Bool) (ps : List (ℕ × ℕ)) → list_all (λ p. test (code_of names p)) ps ≡ true → (i : ℕ) → coded names ps i ≡ true → test i ≡ true
all_coded names test [] e i k = let z : ◌≡◌ {A = ℕ} 0 1 = cc in absurd (omega arith)
all_coded names test (p ∷ ps) e i k =
    let h = both (test (code_of names p)) (list_all (λ q. test (code_of names q)) ps) e in
    ⊎_elim (λ same. subst (λ c. test c ≡ true) (eqb-true (code_of names p) i same) h.0) (all_coded names test ps h.1 i) (or_cases (eqb (code_of names p) i) (coded names ps i) k)

pub coded_all : (names : List ℕ) (test : ℕ → Bool) (ps : List (ℕ × ℕ)) → ((i : ℕ) → coded names ps i ≡ true → test i ≡ true) → list_all (λ p. test (code_of names p)) ps ≡ true
coded_all names test [] h = refl
coded_all names test (p ∷ ps) h =
    and_from (test (code_of names p)) (list_all (λ q. test (code_of names q)) ps)
    (h (code_of names p) (or_left (eqb (code_of names p) (code_of names p)) (coded names ps (code_of names p)) (eq-eqb (code_of names p) (code_of names p) refl)))
    (coded_all names test ps (λ i k. h i (or_right (eqb (code_of names p) i) (coded names ps i) k)))
