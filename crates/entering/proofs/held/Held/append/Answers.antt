use Rattle.std.proofs.Common.{◌≡◌, ◌+◌, ◌<◌, ◌++◌, ◌∷◌, [], map, length, take, drop, set, sym, ap, ◌∙◌, append_assoc, arith}
use Rattle.std.proofs.lemmas.List.{take_more_set, take_all, length-set}
use Rattle.std.proofs.lemmas.List.{map_more}
use Rattle.formula.specs.Entries.{raised, appended}
use Rattle.formula.specs.declared.entry.Entry.TheVariants.{True}
use Rattle.formula.proofs.Appending.{appending_is_sound}
use Rattle.entering.specs.Padding.{padding_less, counted_again}
use Rattle.entering.proofs.held.Held.append.Goals as goal

pub loop-entry-preserved : goal.loop-entry-preserved
loop-entry-preserved c =
    let inv = c.loop-entry.invariant in
    let es = c.loop-entry.self-inside.entries in
    let count = c.loop-entry.self-inside.count in
    let i = c.loop-entry.entry-index in
    let list = c.args.list.now in
    let n = c.self.inside.count in
    let before = take n c.self.inside.entries in
    let x = c.raise.result in
    let held : length c.args.self.now ≡ n = sym (ap length c.self.view_is) ∙ counted_again n c.self.inside.entries c.self.invariant.0 c.self.invariant.1 in
    let room : count < length es = omega (arith, inv.0, inv.1, held, c.requires.room, c.loop-entry-test.true) in (
      omega (arith, inv.0),
      length-set es c.from.result x ∙ inv.1,
      ap (λ k. drop (count + 1) (set es k x)) c.from.ensures ∙ padding_less count es x inv.2,
      ap (λ k. take (count + 1) (set es k x)) c.from.ensures
          ∙ take_more_set es count x room
          ∙ ap (λ l. l ++ x ∷ []) inv.3
          ∙ append_assoc before (map (raised n) (take i list)) (x ∷ [])
          ∙ ap (λ l. before ++ l) (ap (λ y. map (raised n) (take i list) ++ y ∷ []) c.raise.ensures ∙ sym (map_more (raised n) list i True c.loop-entry-test.true)),
    )

pub invariant_of-self : goal.invariant_of-self
invariant_of-self c =
    let inv = c.loop-entry.invariant in
    let old = take c.self.inside.count c.self.inside.entries in
    let list = c.args.list.now in
    let n = c.self.inside.count in
    let counted = counted_again n c.self.inside.entries c.self.invariant.0 c.self.invariant.1 in
    let whole : take c.loop-entry.self-inside.count c.loop-entry.self-inside.entries ≡ appended old list =
    inv.3
    ∙ ap (λ l. old ++ map (raised n) l) (take_all c.loop-entry.entry-index list c.loop-entry-test.false)
    ∙ ap (λ k. old ++ map (raised k) list) (sym counted) in
    (omega (arith, inv.0, c.requires.room, ap length c.self.view_is, counted, c.loop-entry.auto.entry-index-end), inv.1, inv.2, rw whole (appending_is_sound old list c.self.invariant.3 c.requires.sound))
