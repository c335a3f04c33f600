-- The marks are the signature of the state: each move adds its code.
use Rattle.std.proofs.Common.{true, false, [], add-zero, sym, refl, ◌∙◌, subst, arith}
use Rattle.std.proofs.lemmas.List.{map-id}
use Rattle.std.proofs.lemmas.Iterator.Consumers.{YieldsList-from_first, YieldsList-at, YieldsList-end}
use Rattle.refine.specs.Codes.{coded}
use Rattle.refine.specs.Signatures.{weight_of, Signed}
use Rattle.refine.proofs.Coding.{moves_given}
use Rattle.refine.proofs.Signing.{signed_fits, signed_more}
use Rattle.refine.proofs.Weighing.{weighed_none}
use Rattle.refine.proofs.level.Level.sign.Goals as goal

pub loop-step-init : goal.loop-step-init
loop-step-init g c = record { codes = c.clear.ensures; weighs = sym (weighed_none weight_of (coded c.args.self.now.names []) 108545 (λ i l. refl)) }

pub overflow_add-print : goal.overflow_add-print
overflow_add-print g c = omega (arith, c.weight-print.ensures, signed_fits c.loop-step.invariant c.of-code.result.number)

pub loop-step-preserved-then-not-mark : goal.loop-step-preserved-then-not-mark
loop-step-preserved-then-not-mark g c =
    rw c.weight-print.ensures (signed_more c.loop-step.invariant c.in-Some.step _ _ _ c.of-code.ensures c.mark.ensures.before c.mark.ensures.marked false c.if-not-mark.true)

pub loop-step-preserved : goal.loop-step-preserved
loop-step-preserved g c =
    rw (← add-zero c.loop-step.print) (signed_more c.loop-step.invariant c.in-Some.step _ _ _ c.of-code.ensures c.mark.ensures.before c.mark.ensures.marked true c.if-not-mark.false)

pub returns : goal.returns
returns g c =
    let told = c.flatten-step-items.ensures in
    let all = YieldsList-end
    (YieldsList-at c.into_iter-step-iterator.ensures.into_iter_gives (moves_given (λ o j h. h.0) (YieldsList-at told.source (YieldsList-from_first (λ x. x) _ _ c.of.ensures)) told.front told.back told.done))
    c.loop-step.yielded _ c.loop-step.yielded_by _ _ c.in-None.is c.next.ensures.steps in
    subst (λ ps. Signed c.args.self.now.names ps c.loop-step.marks c.loop-step.print) (sym (map-id c.loop-step.yielded) ∙ all.0) c.loop-step.invariant
