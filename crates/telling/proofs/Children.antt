-- The children of a line, move by move.
use Rattle.std.proofs.Common.{◌≡◌, ℕ, ◌+◌, ◌<◌, Bool, true, false, cond, eqb, List, [], ◌∷◌, ◌++◌, map, filter, length, get_or, take, drop, is_err, Some, None, Ok, Err, Result, sym, refl, ap, ◌∙◌, ap₂, arith}
use Rattle.std.proofs.lemmas.List.{length-append, map-append, map-id, take-append-drop, drop_more}
use Rattle.std.proofs.lemmas.List.Elements.{filter-append}
use Rattle.std.proofs.lemmas.Bool.{eq-eqb}
use Rattle.lts.specs.Lts.{Way}
use Rattle.hml.specs.Distinguishing.{targets}
use Rattle.refine.specs.Codes.{moves}
use Rattle.telling.specs.Choosing.{paired, children_by}
use Rattle.telling.specs.Queueing.{Queued}
use Rattle.telling.specs.declared.queue.Queue.{Queue}
use Rattle.telling.specs.declared.writing.TooLong.{TooLong}
use Rattle.telling.specs.declared.choosing.Choice.{Choice}

-- What is refused is too long.
pub queued_none : {A : Type 0} (before : Queue) (more : List (ℕ × ℕ)) (after : Queue) (r : Result A TooLong) → is_err r ≡ true → before.limit < length before.pairs.items + length more → Queued before more after r
queued_none before more after (Ok x) e h = let z : ◌≡◌ {A = ℕ} 0 1 = cc in absurd (omega arith)
queued_none before more after (Err long) e h = h

module _ (c : Choice) where
  abbrev child : ℕ × ℕ → ℕ × ℕ
  child p = paired c.modality c.target p.1

  -- The pairs that moves of the other state give.
  abbrev pub by_moves : List (ℕ × ℕ) → List (ℕ × ℕ)
  by_moves ps = map child (filter (λ p. eqb p.0 c.action) ps)

  pub all_moves : (ws : List Way) → by_moves (moves ws) ≡ children_by c ws
  all_moves [] = refl
  all_moves (None ∷ ws) = all_moves ws
  all_moves (Some p ∷ ws) = by_test (eqb p.0 c.action) (all_moves ws)
    where
      by_test :
          (b : Bool) → by_moves (moves ws) ≡ children_by c ws
          → map child (cond b (p ∷ filter (λ q. eqb q.0 c.action) (moves ws)) (filter (λ q. eqb q.0 c.action) (moves ws))) ≡ map (paired c.modality c.target) (cond b (p.1 ∷ targets c.action ws) (targets c.action ws))
      by_test true e = ap (λ qs. child p ∷ qs) e
      by_test false e = e

  joined : (xs ys : List (ℕ × ℕ)) → by_moves (xs ++ ys) ≡ by_moves xs ++ by_moves ys
  joined xs ys = ap (map child) (filter-append (λ p. eqb p.0 c.action) xs ys) ∙ map-append child (filter (λ p. eqb p.0 c.action) xs) (filter (λ p. eqb p.0 c.action) ys)

  given : (p : ℕ × ℕ) (ps : List (ℕ × ℕ)) → p.0 ≡ c.action → by_moves (p ∷ ps) ≡ child p ∷ by_moves ps
  given p ps e = ap (λ b. map child (cond b (p ∷ filter (λ q. eqb q.0 c.action) ps) (filter (λ q. eqb q.0 c.action) ps))) (eq-eqb p.0 c.action e)

  -- A further move that gives a pair makes more pairs.
  pub longer : (all ps : List (ℕ × ℕ)) (p : ℕ × ℕ) → map (λ x. x) ps ≡ take (length ps) all → length ps < length all → p ≡ get_or all (length ps) p → p.0 ≡ c.action → length (by_moves ps) < length (by_moves all)
  longer all ps p front l here e =
      let rest = drop (length ps + 1) all in
      let split : ps ++ p ∷ rest ≡ all = ap₂ ◌++◌ (sym (map-id ps) ∙ front) (ap (λ q. q ∷ rest) here ∙ sym (drop_more all (length ps) p l)) ∙ take-append-drop (length ps) all in
      omega (arith, ap (λ qs. length (by_moves qs)) split, ap length (joined ps (p ∷ rest) ∙ ap (λ qs. by_moves ps ++ qs) (given p rest e)), length-append (by_moves ps) (child p ∷ by_moves rest))
