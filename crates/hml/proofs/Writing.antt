-- The lines of pairs of states that do not agree: they exist, and there is one list of them.
use Rattle.std.proofs.Common.{◌≡◌, ℕ, zero, suc, ◌+◌, List, [], ◌∷◌, ◌++◌, length, sym, refl, ◌∙◌, subst, ap₂}
use Rattle.std.specs.List.{AllByRecursion as All}
use Rattle.std.proofs.lemmas.List.{append-nil, append_assoc}
use Rattle.std.proofs.ByRecursion.{All-append}
use Rattle.lts.specs.Lts.{Lts}
use Rattle.hml.specs.Bisimilarity.{Agree}
use Rattle.hml.specs.Distinguishing.{Chosen, Written, LinesFor, line_of}
use Rattle.hml.specs.Distinguishing.Written.{none, line}
use Rattle.hml.specs.declared.line.Modality.{Modality}
use Rattle.hml.specs.declared.line.Line.{Line}
use Rattle.hml.proofs.Choosing.{chosen, chosen_is_one, children_apart}

module _ (m : Lts) where
  -- None of the pairs agrees to depth d.
  abbrev pub AllApart : ℕ → List (ℕ × ℕ) → Type 0
  AllApart d ps = All (λ p. ¬ Agree m d p.0 p.1) ps

  abbrev pub Lines : ℕ → List (ℕ × ℕ) → Type 0
  Lines given ps = (ls : List Line) × Written m given ps ls

  -- Pairs that do not agree to depth d have lines.
  abbrev pub Writes : ℕ → Type 0
  Writes d = (given : ℕ) (ps : List (ℕ × ℕ)) → AllApart d ps → Lines given ps

  -- The pairs of one depth, then those of the depth before, among which their children are.
  unfoldable pub across : (d : ℕ) → Writes d → (given : ℕ) (waiting next : List (ℕ × ℕ)) → AllApart (suc d) waiting → AllApart d next → Lines given (waiting ++ next)
  unfolding chosen
  across d deeper given [] next w n = deeper given next n
  across d deeper given (p ∷ waiting) next w n =
      let c = chosen m (suc d) p.0 p.1 w.0 in
      let apart = children_apart m p.0 p.1 c.1 d c.0 c.2 c.3 w.0 in
      let behind = All-append (λ q. ¬ Agree m d q.0 q.1) next c.2 n apart in
      let rest = across d deeper (given + length c.2) waiting (next ++ c.2) w.1 behind in (
        line_of c.0 c.1 given (length c.2) ∷ rest.0,
        line c.3 (subst (λ ps. Written m (given + length c.2) ps rest.0) (sym (append_assoc waiting next c.2)) rest.1),
      )

  unfoldable pub lines_at : (d : ℕ) → Writes d
  unfolding across
  lines_at zero given [] h = ([], none)
  lines_at zero given (p ∷ ps) h = absurd (h.0 tt)
  lines_at (suc d) given ps h =
      let ls = across d (lines_at d) given ps [] h tt in
      (ls.0, subst (λ qs. Written m given qs ls.0) (append-nil ps) ls.1)

  -- Two states that do not agree to some depth have the lines of a distinguishing formula.
  unfoldable pub lines_exist : (r s t : ℕ) → ¬ Agree m r s t → (ls : List Line) × LinesFor m s t ls
  unfolding lines_at
  lines_exist r s t h = lines_at r 1 ((s, t) ∷ []) (h, tt)

  -- What lines of pairs that wait are made of.
  abbrev Made : ℕ → List (ℕ × ℕ) → List Line → Type 0
  Made given [] ls = [] ≡ ls
  Made given (p ∷ waiting) ls =
      (o : Modality) × (a : ℕ) × (cs : List (ℕ × ℕ)) × (rest : List Line)
      × Chosen m p.0 p.1 o a cs × Written m (given + length cs) (waiting ++ cs) rest × (line_of o a given (length cs) ∷ rest ≡ ls)

  made : {given : ℕ} {ps : List (ℕ × ℕ)} {ls : List Line} → Written m given ps ls → Made given ps ls
  made none = refl
  made (line {a = a} {children = cs} {o = o} {ls = ls} c w) = (o, a, cs, ls, c, w, refl)

  -- Pairs that wait have one list of lines.
  pub written_is_one : {given : ℕ} {ps : List (ℕ × ℕ)} {ls : List Line} → Written m given ps ls → (ks : List Line) → Written m given ps ks → ls ≡ ks
  written_is_one none ks v = made v
  written_is_one (line {given} {s} {t} {a} {waiting} {children} {o} {ls} c w) ks v =
      let y = made v in
      let same = chosen_is_one m s t a y.1 o y.0 children y.2 c y.4 in
      let rest = written_is_one w y.3 (subst (λ ds. Written m (given + length ds) (waiting ++ ds) y.3) (sym same.2) y.5) in
      let head : line_of o a given (length children) ≡ line_of y.0 y.1 given (length y.2) = rw (same.0, same.1, same.2) in
      ap₂ (λ l ks. l ∷ ks) head rest ∙ y.6
