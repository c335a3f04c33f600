-- A loop over calls: those that have been run, one more, and all of them.
use Rattle.std.proofs.Common.{◌≡◌, ℕ, ◌+◌, ◌<◌, ◌≤◌, ◌≢◌, List, [], ◌∷◌, ◌++◌, length, get_or, take, set, refl, ◌∙◌, subst, arith}
use Rattle.std.proofs.lemmas.List.{take_more, take_more_set, take_all, get_or-set_other}
use Rattle.lts.specs.Lts.{Lts}
use Rattle.law.specs.History.{Call, Phase}
use Rattle.bench.specs.Bench.{Bench}
use Rattle.history.specs.Noting.{InTurn}
use Rattle.history.specs.Noting.InTurn.{none, next}
use Rattle.history.specs.Running.{Took}

module _ {L R : Type 0} (left : L → Lts) (right : R → Lts) {Q : Type 0} (One : Q → Q → List Call → List Call → Type 0) (φ : Phase) where
  in_turn_more : {qs qs' : List Q} {q q' : Q} {h h' h'' : List Call} → InTurn One qs qs' h h' → One q q' h' h'' → InTurn One (qs ++ q ∷ []) (qs' ++ q' ∷ []) h h''
  in_turn_more none x = next x none
  in_turn_more (next y ys) x = next y (in_turn_more ys x)

  -- The calls below place i have been run, and took the bench b to b'. The others are as they were handed in.
  pub record Run (b b' : Bench L R) (asked now : List Q) (i : ℕ) : Type 0 where
    pub rest : (k : ℕ) (d : Q) → i ≤ k → get_or now k d ≡ get_or asked k d
    pub done : Took left right φ b φ b' (InTurn One (take i asked) (take i now))

  pub run_none : (b : Bench L R) (asked : List Q) → Run b b asked asked 0
  run_none b asked = record { rest = λ k d l. refl; done = record { same_left = refl; same_right = refl; leads = λ h x. (h, none, x) } }

  pub run_more : (b b' b'' : Bench L R) (asked now : List Q) (i : ℕ) (d q' : Q) → i < length asked → length now ≡ length asked
      → Run b b' asked now i → Took left right φ b' φ b'' (One (get_or now i d) q') → Run b b'' asked (set now i q') (i + 1)
  run_more b b' b'' asked now i d q' l e x y = record {
    rest = λ k d' m. let other : k ≢ i = omega arith in get_or-set_other now i k q' d' other ∙ x.rest k d' (omega arith);
    done = record {
      same_left = y.same_left ∙ x.done.same_left;
      same_right = y.same_right ∙ x.done.same_right;
      leads = λ h b.
          let first = x.done.leads h b in
          let then = y.leads first.0 first.2 in
          let one = subst (λ p. One p q' first.0 then.0) (x.rest i d (omega arith)) then.1 in
          let less : i < length now = omega arith in
          (then.0, rw (take_more asked i d l, take_more_set now i q' less) (in_turn_more first.1 one), then.2);
    };
  }

  pub run_all : (b b' : Bench L R) (asked now : List Q) (i : ℕ) → length asked ≤ i → length now ≡ length asked → Run b b' asked now i → Took left right φ b φ b' (InTurn One asked now)
  run_all b b' asked now i l e x =
      let less : length now ≤ i = omega arith in
      subst (λ qs. Took left right φ b φ b' (InTurn One qs now)) (take_all i asked l) (subst (λ qs. Took left right φ b φ b' (InTurn One (take i asked) qs)) (take_all i now less) x.done)
