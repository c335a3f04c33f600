-- A round of refinement: the name of each state to the next depth is that of its class, a fresh name, or itself.
use Rattle.std.proofs.Common.{◌≡◌, ℕ, suc, ◌+◌, ◌<◌, ◌≤◌, Bool, true, false, List, [], ◌∷◌, ◌++◌, length, get_or, Some, None, Option, sym, ap, ◌∙◌, subst, ⊎_elim, arith, below_more, length-append}
use Rattle.std.specs.Option.{MatchOption, unwrap_or}
use Rattle.std.specs.List.{AllWithin, HoldsAt}
use Rattle.std.proofs.Math.ListN.{get_or-append}
use Rattle.std.proofs.Math.Seq.{get_or-append_seam}
use Rattle.std.proofs.lemmas.Bool.{cases_eq, false≢true}
use Rattle.arrayvec.specs.ArrayVec.{array_vec_len}
use Rattle.lts.specs.Lts.{Lts}
use Rattle.hml.proofs.Agreement.{agree_refl, agree_sym, agree_less}
use Rattle.hml.proofs.Deciding.{by_order}
use Rattle.pair.specs.Wide.{Wide}
use Rattle.refine.specs.Classes.{Names, Classed}
use Rattle.refine.specs.Codes.{moves}
use Rattle.refine.specs.Signatures.{Alike, Signed, Weighs, passes}
use Rattle.refine.specs.Rounds.{Fresh, Placed, Entered}
use Rattle.refine.specs.declared.marks.Marks.{Marks}
use Rattle.refine.specs.declared.round.Round.{Round}
use Rattle.refine.proofs.Naming.{name_low, name_moves, name_is_one, name_names, names_agreeing, agree_same, names_deeper}
use Rattle.refine.proofs.Signing.{alike_agree, agree_alike, tells}

-- What holds of each number of a list, and of one behind it.
pushed : (P : ℕ → Type 0) (xs : List ℕ) (s : ℕ) → ((j : ℕ) → j < length xs → P (get_or xs j 0)) → P s → (j : ℕ) → j < length (xs ++ s ∷ []) → P (get_or (xs ++ s ∷ []) j 0)
pushed P xs s before last j l =
    by_order j (length xs) (λ k. subst P (sym (get_or-append xs (s ∷ []) 0 j k)) (before j k))
    (λ k. let e : j ≡ length xs = omega (arith, length-append xs (s ∷ [])) in subst P (sym (ap (λ i. get_or (xs ++ s ∷ []) i 0) e ∙ get_or-append_seam xs s [] 0)) last)

module _ (m : Lts) (wide : Wide m) (r : ℕ) (names : List ℕ) (classed : Classed m r names) where
  -- The name of a class to one depth is a name to the next.
  pub class_names : (s : ℕ) → s < m.states → Names m (suc r) (get_or names s 0) (get_or names s 0)
  class_names s l = names_deeper m r (suc r) (get_or names s 0) (omega arith) (name_names m r s (get_or names s 0) (classed s l))

  -- A name with the signature of s is the name of s.
  pub alike_names : (s u : ℕ) → Names m (suc r) u u → Alike m names s u → Names m (suc r) s u
  alike_names s u h x = names_agreeing m (suc r) s u h (alike_agree m names wide r classed s u x)

  module _ (s : ℕ) (w : Round) (placed : Placed m r names s w) where
    -- A fresh name is its own name.
    fresh_names : (j : ℕ) → j < array_vec_len w.fresh → Names m (suc r) (get_or w.fresh.items j 0) (get_or w.fresh.items j 0)
    fresh_names j l =
        let u = get_or w.fresh.items j 0 in
        let f = placed.fresh j l in
        subst (Names m (suc r) u) f.naming (placed.named u f.below)

    module _ (ls : s < m.states) (apart : ¬ Alike m names s (get_or names s 0)) where
      -- A state that is like neither the name of its class nor a fresh name is a fresh name itself.
      module _ (none : (j : ℕ) → j < array_vec_len w.fresh → ¬ Alike m names s (get_or w.fresh.items j 0)) where
        -- It would have the name of a lower state with which it agrees.
        no_lower : (u : ℕ) → u < s → Names m (suc r) s u → ⊥
        no_lower u l h = ⊎_elim old new (cases_eq (get_or names u 0) u)
          where
            like : Alike m names s u
            like = agree_alike m names wide r classed s u h.agrees

            lu : u < m.states
            lu = omega (arith, l, ls)

            old : get_or names u 0 ≡ u → ⊥
            old e =
                let c : get_or names s 0 ≡ u = agree_same m r names classed s u ls lu (agree_less m r s u h.agrees) ∙ e in
                apart (subst (Alike m names s) (sym c) like)

            new : (get_or names u 0 ≡ u → ⊥) → ⊥
            new n =
                let e : get_or w.next u 0 ≡ u = name_is_one m (suc r) u (get_or w.next u 0) u (placed.named u l) (name_names m (suc r) s u h) in
                let x = placed.listed u (record { below = l; new = n; naming = e }) in
                none x.0 x.1 (subst (Alike m names s) (sym x.2) like)

        none_names : Names m (suc r) s s
        none_names = record {
          agrees = agree_refl m (suc r) s;
          lowest = λ v l x.
              let h = placed.named v l in
              let u = get_or w.next v 0 in
              no_lower u (omega (arith, name_low m (suc r) v u h)) (name_moves m (suc r) v s u h (agree_sym m (suc r) s v x));
        }

      -- Where the signature of s is marked and weighed, a search through the fresh names finds the name of s.
      module _ (print : ℕ) (marks : Marks) (sought : Signed names (moves (m.ways s)) marks print) where
        abbrev test : ℕ → Bool
        test u = passes m names marks print u (get_or w.weights u 0)

        pub found_names :
            (o : Option ℕ)
            → MatchOption o (AllWithin (λ u. test u ≡ false) w.fresh.items 0 (length w.fresh.items))
            (λ x. (test x ≡ true) × (i : ℕ) × (i < length w.fresh.items) × HoldsAt (λ y. y ≡ x) w.fresh.items i × AllWithin (λ u. test u ≡ false) w.fresh.items 0 i)
            → Names m (suc r) s (unwrap_or o s)
        found_names None h =
            none_names (λ j l like.
            let u = get_or w.fresh.items j 0 in
            false≢true (sym (h j 0 (omega arith) l) ∙ (tells m names s u print (get_or w.weights u 0) marks sought (placed.weighs u (placed.fresh j l).below)).1 like))
        found_names (Some x) h =
            let i = h.1 in
            let e : get_or w.fresh.items i 0 ≡ x = h.3 0 in
            let low : x < s = subst (λ y. y < s) e (placed.fresh i h.2).below in
            alike_names s x (subst (λ y. Names m (suc r) y y) e (fresh_names i h.2)) ((tells m names s x print (get_or w.weights x 0) marks sought (placed.weighs x low)).0 h.0)

    -- What is entered of s is found, and the round goes on.
    module _ (w' : Round) (u weight : ℕ) (entered : Entered w s (get_or names s 0) u weight w') (named : Names m (suc r) s u) (weighs : Weighs m names s weight) where
      later : (t : ℕ) → Fresh names w.next s t → Fresh names w'.next (s + 1) t
      later t f = record { below = omega (arith, f.below); new = f.new; naming = entered.names t f.below ∙ f.naming }

      earlier : (t : ℕ) → t < s → Fresh names w'.next (s + 1) t → Fresh names w.next s t
      earlier t l f = record { below = l; new = f.new; naming = sym (entered.names t l) ∙ f.naming }

      go_on :
          array_vec_len w'.fresh ≤ s + 1
          → ((j : ℕ) → j < array_vec_len w'.fresh → Fresh names w'.next (s + 1) (get_or w'.fresh.items j 0))
          → ((t : ℕ) → Fresh names w'.next (s + 1) t → (j : ℕ) × (j < array_vec_len w'.fresh) × (get_or w'.fresh.items j 0 ≡ t))
          → Placed m r names (s + 1) w'
      go_on few fresh listed = record {
        named = below_more (λ t. Names m (suc r) t (get_or w'.next t 0)) s
            (λ t l. subst (Names m (suc r) t) (sym (entered.names t l)) (placed.named t l))
            (subst (Names m (suc r) s) (sym entered.name) named);
        weighs = below_more (λ t. Weighs m names t (get_or w'.weights t 0)) s
            (λ t l. entered.weights t l ∙ placed.weighs t l)
            (entered.weighs ∙ weighs);
        few = few;
        fresh = fresh;
        listed = listed;
      }

      -- s is no fresh name
      same : (u ≡ s → get_or names s 0 ≡ s) → w'.fresh.items ≡ w.fresh.items → Placed m r names (s + 1) w'
      same old e =
          go_on (omega (arith, placed.few, ap length e))
          (λ j l. subst (Fresh names w'.next (s + 1)) (sym (ap (λ xs. get_or xs j 0) e)) (later (get_or w.fresh.items j 0) (placed.fresh j (omega (arith, ap length e)))))
          (λ t f.
          by_order t s (λ l. let x = placed.listed t (earlier t l f) in (x.0, omega (arith, x.1, ap length e), ap (λ xs. get_or xs x.0 0) e ∙ x.2))
          (λ l.
          let here : t ≡ s = omega (arith, f.below) in
          absurd (f.new (subst (λ i. get_or names i 0 ≡ i) (sym here) (old (sym entered.name ∙ subst (λ i. get_or w'.next i 0 ≡ i) here f.naming))))))

      -- s is one
      one_more : u ≡ s → ¬ (get_or names s 0 ≡ s) → w'.fresh.items ≡ w.fresh.items ++ s ∷ [] → Placed m r names (s + 1) w'
      one_more itself new e =
          let long : array_vec_len w'.fresh ≡ array_vec_len w.fresh + 1 = ap length e ∙ length-append w.fresh.items (s ∷ []) in
          go_on (omega (arith, placed.few, long))
          (subst (λ xs. (j : ℕ) → j < length xs → Fresh names w'.next (s + 1) (get_or xs j 0)) (sym e)
          (pushed (Fresh names w'.next (s + 1)) w.fresh.items s (λ j l. later (get_or w.fresh.items j 0) (placed.fresh j l)) (record { below = omega arith; new = new; naming = entered.name ∙ itself })))
          (λ t f.
          by_order t s
          (λ l. let x = placed.listed t (earlier t l f) in (x.0, omega (arith, x.1, long), ap (λ xs. get_or xs x.0 0) e ∙ get_or-append w.fresh.items (s ∷ []) 0 x.0 x.1 ∙ x.2))
          (λ l.
          let here : s ≡ t = omega (arith, f.below) in (array_vec_len w.fresh, omega (arith, long), ap (λ xs. get_or xs (array_vec_len w.fresh) 0) e ∙ get_or-append_seam w.fresh.items s [] 0 ∙ here)))

      pub placed_more : Placed m r names (s + 1) w'
      placed_more =
          ⊎_elim
          (λ e. ⊎_elim (λ k. same (λ _. k) (entered.known k)) (λ n. one_more e n (entered.listed e n)) (cases_eq (get_or names s 0) s))
          (λ n. same (λ e. absurd (n e)) (entered.other n))
          (cases_eq u s)
