-- Lines that are partly written go on, one line at a time.
use Rattle.std.proofs.Common.{◌≡◌, ℕ, ◌+◌, ◌-◌, ◌<◌, ◌≤◌, min, true, List, [], ◌∷◌, ◌++◌, length, get_or, take, drop, set, is_err, Ok, Err, Result, sym, ap, ◌∙◌, subst, subst₂, arith}
use Rattle.std.specs.List.{AllByRecursion as All}
use Rattle.std.proofs.ByRecursion.{All-append, All-drop, All-get_or, All-map, All-weaker}
use Rattle.std.proofs.lemmas.List.{append-nil, append_assoc, length-append, length-drop, length-take-le, take_more_set, drop-append-le, drop-drop, drop-set-lt, drop_more, drop_all}
use Rattle.lts.specs.Lts.{Lts}
use Rattle.pair.specs.Wide.{Wide}
use Rattle.hml.specs.Bisimilarity.{Bisimilar, Agree}
use Rattle.hml.specs.Distinguishing.{Chosen, Written, LinesFor, line_of, targets}
use Rattle.hml.specs.Distinguishing.Chosen.{by_may, by_must}
use Rattle.hml.specs.Distinguishing.Written.{none, line}
use Rattle.hml.specs.declared.line.Line.{Line}
use Rattle.hml.specs.declared.line.Modality.{Modality}
use Rattle.hml.proofs.Agreement.{agree_less}
use Rattle.hml.proofs.Choosing.{all_targets, children_apart}
use Rattle.hml.proofs.Resting.{bisimilar_agrees}
use Rattle.hml.proofs.Writing.{lines_at, lines_exist}
use Rattle.telling.specs.Progress.{Apart, Progress, TooMany, Laid}
use Rattle.telling.specs.declared.writing.TooLong.{TooLong}

all_both : (P Q : ℕ × ℕ → Type 0) (xs : List (ℕ × ℕ)) → All P xs → All Q xs → All (λ x. P x × Q x) xs
all_both P Q [] h k = tt
all_both P Q (x ∷ xs) h k = ((h.0, k.0), all_both P Q xs h.1 k.1)

-- There are at least as many lines as pairs that wait.
written_long : (m : Lts) {given : ℕ} {ps : List (ℕ × ℕ)} {ls : List Line} → Written m given ps ls → length ps ≤ length ls
written_long m none = omega arith
written_long m (line {waiting = waiting} {children = children} c w) = omega (arith, written_long m w, length-append waiting children)

-- The states of each child are states.
children_states : (m : Lts) → Wide m → (s t a : ℕ) (o : Modality) (cs : List (ℕ × ℕ)) → Chosen m s t o a cs → All (λ p. (p.0 < m.states) × (p.1 < m.states)) cs
children_states m wide s t a o cs (by_may d k _ u apart x) =
    All-map (λ p. (p.0 < m.states) × (p.1 < m.states)) (λ v. (u, v)) (targets a (m.ways t))
    (all_targets a (λ v. (u < m.states) × (v < m.states)) (m.ways t) (λ j v y. (wide.target s k a u x.0.0, wide.target t j a v y)))
children_states m wide s t a o cs (by_must d k _ v apart no-first x) =
    All-map (λ p. (p.0 < m.states) × (p.1 < m.states)) (λ u. (u, v)) (targets a (m.ways s))
    (all_targets a (λ u. (u < m.states) × (v < m.states)) (m.ways s) (λ j u y. (wide.target s j a u y, wide.target t k a v x.0.0)))

-- The children of the line of a pair that does not agree to a depth do not agree to it either.
all_apart : (m : Lts) → Wide m → (s t a d : ℕ) (o : Modality) (cs : List (ℕ × ℕ)) → Chosen m s t o a cs → ¬ Agree m d s t → All (Apart m d) cs
all_apart m wide s t a d o cs c n =
    let both = all_both (λ p. (p.0 < m.states) × (p.1 < m.states)) (λ p. ¬ Agree m d p.0 p.1) cs (children_states m wide s t a o cs c) (children_apart m s t a d o cs c (λ h. n (agree_less m d s t h))) in
    All-weaker (λ p. ((p.0 < m.states) × (p.1 < m.states)) × ¬ Agree m d p.0 p.1) (Apart m d) (λ p x. (x.0.0, x.0.1, x.1)) cs both

-- After the last.
pub progress_ends : (m : Lts) (s t d i : ℕ) (pairs : List (ℕ × ℕ)) (before after : List Line) → i ≡ length pairs → Progress m s t d i pairs before after → LinesFor m s t (take i after)
progress_ends m s t d i pairs before after e h =
    subst (λ ls. LinesFor m s t ls) (append-nil (take i after)) (h.completed [] (subst (λ ps. Written m (length pairs) ps []) (sym (drop_all i pairs (omega arith))) none))

-- Line i, where pair i is p and its children are cs.
module _
    (m : Lts) (wide : Wide m) (s t d i a : ℕ) (o : Modality) (p : ℕ × ℕ) (pairs cs : List (ℕ × ℕ)) (before after : List Line)
    (in_pairs : i < length pairs) (in_lines : i < length after) (is : p ≡ get_or pairs i (0, 0)) (h : Progress m s t d i pairs before after)
    (choose : p.0 < m.states → p.1 < m.states → ¬ Bisimilar m p.0 p.1 → Chosen m p.0 p.1 o a cs) where
  chosen_apart : Apart m d p
  chosen_apart = subst (Apart m d) (sym is) (All-get_or (Apart m d) pairs i (0, 0) in_pairs h.apart)

  it : Chosen m p.0 p.1 o a cs
  it = choose chosen_apart.0 chosen_apart.1 (λ b. chosen_apart.2 (bisimilar_agrees m p.0 p.1 b d))

  new_apart : All (Apart m d) cs
  new_apart = all_apart m wide p.0 p.1 a d o cs it chosen_apart.2

  -- Lines for the pairs behind complete the lines with this one.
  complete : (ls : List Line) → Written m (length pairs + length cs) (drop (i + 1) pairs ++ cs) ls → LinesFor m s t (take i after ++ line_of o a (length pairs) (length cs) ∷ ls)
  complete ls w =
      let e : p ∷ drop (i + 1) pairs ≡ drop i pairs = ap (λ q. q ∷ drop (i + 1) pairs) is ∙ sym (drop_more pairs i (0, 0) in_pairs) in
      h.completed (line_of o a (length pairs) (length cs) ∷ ls) (subst (λ ps. Written m (length pairs) ps (line_of o a (length pairs) (length cs) ∷ ls)) e (line it w))

  pub advance : Progress m s t d (i + 1) (pairs ++ cs) before (set after i (line_of o a (length pairs) (length cs)))
  advance = record {
    apart = All-append (Apart m d) pairs cs h.apart new_apart;
    kept = drop-set-lt (i + 1) after i x (omega arith) ∙ sym (drop-drop 1 i after) ∙ ap (drop 1) h.kept ∙ drop-drop 1 i before;
    completed = λ ls w.
        subst (λ ks. LinesFor m s t ks) (sym (ap (λ ks. ks ++ ls) (take_more_set after i x in_lines) ∙ append_assoc (take i after) (x ∷ []) ls))
        (complete ls (subst₂ (λ n ps. Written m n ps ls) (length-append pairs cs) (drop-append-le (i + 1) pairs cs (omega arith)) w));
  }
    where
      x : Line
      x = line_of o a (length pairs) (length cs)

  -- There are as many lines as pairs, those of this line's children among them.
  pub too_many : (limit : ℕ) → limit < length pairs + length cs → TooMany m s t limit
  too_many limit l = (
    take i after ++ x ∷ rest.0,
    complete rest.0 rest.1,
    omega (
      arith,
      length-append (take i after) (x ∷ rest.0),
      length-take-le i after (omega arith),
      written_long m rest.1,
      length-append (drop (i + 1) pairs) cs,
      length-drop (i + 1) pairs,
    ),
  )
    where
      x : Line
      x = line_of o a (length pairs) (length cs)

      behind : All (Apart m d) (drop (i + 1) pairs ++ cs)
      behind = All-append (Apart m d) (drop (i + 1) pairs) cs (All-drop (Apart m d) (i + 1) pairs h.apart) new_apart

      rest : (ls : List Line) × Written m (length pairs + length cs) (drop (i + 1) pairs ++ cs) ls
      rest =
          lines_at m d (length pairs + length cs) (drop (i + 1) pairs ++ cs)
          (All-weaker (Apart m d) (λ q. ¬ Agree m d q.0 q.1) (λ q y. y.2) (drop (i + 1) pairs ++ cs) behind)

-- The same where the pairs with the children are qs, and the line x is computed from the numbers of pairs.
module _
    (m : Lts) (wide : Wide m) (s t d i a : ℕ) (o : Modality) (p : ℕ × ℕ) (pairs cs : List (ℕ × ℕ)) (before after : List Line)
    (in_pairs : i < length pairs) (in_lines : i < length after) (is : p ≡ get_or pairs i (0, 0)) (h : Progress m s t d i pairs before after)
    (choose : p.0 < m.states → p.1 < m.states → ¬ Bisimilar m p.0 p.1 → Chosen m p.0 p.1 o a cs) where
  pub line_written : (qs : List (ℕ × ℕ)) (x : Line) → qs ≡ pairs ++ cs → x ≡ line_of o a (length pairs) (length qs - length pairs) → Progress m s t d (i + 1) qs before (set after i x)
  line_written qs x e f =
      let count : length qs - length pairs ≡ length cs = omega (arith, ap length e ∙ length-append pairs cs) in
      subst₂ (λ qs y. Progress m s t d (i + 1) qs before (set after i y)) (sym e) (sym (f ∙ ap (line_of o a (length pairs)) count))
      (advance m wide s t d i a o p pairs cs before after in_pairs in_lines is h choose)

-- Lines that do not fit.
pub laid_none :
    (m : Lts) (s t limit : ℕ) (before after : List Line) (r : Result ℕ TooLong)
    → is_err r ≡ true → limit ≡ min (length before) 4096 → TooMany m s t limit → Laid m s t before after r
laid_none m s t limit before after (Ok n) e f h = let z : ◌≡◌ {A = ℕ} 0 1 = cc in absurd (omega arith)
laid_none m s t limit before after (Err long) e f h = subst (TooMany m s t) f h

-- Any lines are too many where there is no room for one.
pub no_room : (m : Lts) (s t d limit : ℕ) → limit < 1 → ¬ Agree m d s t → TooMany m s t limit
no_room m s t d limit l n = let x = lines_exist m d s t n in (x.0, x.1, omega (arith, written_long m x.1))
