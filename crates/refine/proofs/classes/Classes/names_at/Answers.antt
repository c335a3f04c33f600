use Rattle.std.proofs.Common.{◌≡◌, ◌<◌, ◌≤◌, ◌≢◌, length, get_or, set, sym, subst, arith, get_or-set_other, get_or-set_same, rules, below_more}
use Rattle.refine.specs.Classes.{Names}
use Rattle.refine.proofs.AtDepths.{next_name}
use Rattle.refine.proofs.classes.Classes.names_at.Goals as goal
use Rattle.refine.proofs.classes.Classes.names_at.Goals.{then-leader-s, else-leader-s}

pub loop-s-preserved : goal.loop-s-preserved
loop-s-preserved c m wide refined =
    let ns = c.loop-s.names in
    let s = c.loop-s.s in
    let at = c.from-in-loop-s.result in
    let v = c.leader-leader.result in
    let x = c.if-leader-s.names in
    let r = c.args.depth in
    let before = c.loop-s.invariant m wide refined in
    let here : at ≡ s = c.from-in-loop-s.ensures in
    let lower : v < s → x ≡ get_or ns v 0 = λ l. elim c.if-leader-s.branch [ then-leader-s w ↦ rw (sym w.from.ensures) w.names-is | else-leader-s w ↦ absurd (omega (arith, w.if-leader-s.false)) ] in
    let same : s ≤ v → x ≡ s = λ l. elim c.if-leader-s.branch [ then-leader-s w ↦ absurd (omega (arith, w.if-leader-s.true)) | else-leader-s w ↦ w.names-is ] in
    let lt : s < length ns = search rules in
    let e = c.leader-leader.ensures in
    rw here
    (below_more (λ k. k < m.states → Names m r k (get_or (set ns s x) k 0)) s
    (λ k h l. let ne : k ≢ s = omega arith in subst (λ y. Names m r k y) (sym (get_or-set_other ns s k x 0 ne)) (before k h l))
    (λ l. subst (λ y. Names m r s y) (sym (get_or-set_same ns s x 0 lt)) (next_name m wide c.args.self.now refined r s v x ns e.named e.itself e.parent lower same before l)))

pub returns : goal.returns
returns c m wide refined s l = c.loop-s.invariant m wide refined s (omega (arith, wide.most)) l
