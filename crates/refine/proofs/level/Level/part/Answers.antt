use Rattle.std.proofs.Common.{◌≡◌, ℕ, ◌+◌, ◌<◌, ◌≢◌, List, length, get_or, set, sym, ap, ◌∙◌, ⊎_elim, get_or-set_other, get_or-set_same, arith}
use Rattle.std.proofs.Math.ListN.{length-set}
use Rattle.std.proofs.lemmas.Bool.{cases_eq}
use Rattle.refine.specs.Classes.{parting_at}
use Rattle.refine.specs.declared.classes.Parting.{Parting}
use Rattle.refine.proofs.level.Level.part.Goals as goal

module _ (names items : List ℕ) (first before : List Parting) (r i : ℕ) (lt : get_or items i 0 < length before) where
  abbrev parted : ℕ → Parting
  parted u = record { parent = get_or names u 0; depth = r + 1 }

  abbrev after : List Parting
  after = set before (get_or items i 0) (parted (get_or items i 0))

  fresh_more : ((j : ℕ) → j < i → parting_at before (get_or items j 0) ≡ parted (get_or items j 0)) → (j : ℕ) → j < i + 1 → parting_at after (get_or items j 0) ≡ parted (get_or items j 0)
  fresh_more h j l =
      let t = get_or items i 0 in
      ⊎_elim
      (λ (e : get_or items j 0 ≡ t). ap (parting_at after) e ∙ get_or-set_same before t (parted t) (record { parent = 0; depth = 0 }) lt ∙ ap parted (sym e))
      (λ n. let other : j ≢ i = λ e. n (ap (λ k. get_or items k 0) e) in get_or-set_other before t (get_or items j 0) (parted t) (record { parent = 0; depth = 0 }) n ∙ h j (omega (arith, other)))
      (cases_eq (get_or items j 0) t)

  others_more : ((u : ℕ) → ((j : ℕ) → j < i → ¬ (get_or items j 0 ≡ u)) → parting_at before u ≡ parting_at first u) → (u : ℕ) → ((j : ℕ) → j < i + 1 → ¬ (get_or items j 0 ≡ u)) → parting_at after u ≡ parting_at first u
  others_more h u n =
      get_or-set_other before (get_or items i 0) u (parted (get_or items i 0)) (record { parent = 0; depth = 0 }) (λ e. n i (omega arith) (sym e)) ∙ h u (λ j l. n j (omega arith))

pub loop-state-preserved : goal.loop-state-preserved
loop-state-preserved g c =
    let names = c.args.self.now.names in
    let items = c.deref-state-items.result.now in
    let ps = c.loop-state.partings in
    let i = c.loop-state.state-index in
    let same = c.deref-state-items.ensures.0 in
    let fresh = c.requires.placed.fresh i (omega (arith, ap length same, c.loop-state-test.true)) in
    let lt : get_or items i 0 < length ps = rw same (omega (arith, c.loop-state.invariant.long, fresh.below, (g.met.G.Graph.wide c.args.self.now.graph.now).most)) in
    rw (c.from.ensures, c.from-in-loop-state.ensures)
    (record {
      long = simp length-set c.loop-state.invariant.long;
      fresh = fresh_more names items c.args.partings.now ps c.args.self.now.depth i lt c.loop-state.invariant.fresh;
      others = others_more names items c.args.partings.now ps c.args.self.now.depth i lt c.loop-state.invariant.others;
    })
