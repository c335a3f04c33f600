-- States with one name are bisimilar, and others part where their names part.
use Rattle.std.proofs.Common.{get_or, sym, ◌∙◌, subst, subst₂}
use Rattle.hml.specs.Distinguishing.{FirstApart}
use Rattle.refine.specs.Climbs.{IsName}
use Rattle.refine.proofs.Parting.{one_name_bisimilar, name_state, name_own, name_bisimilar, parts_moves}
use Rattle.refine.proofs.classes.Classes.parts_at.Goals as goal

pub returns-then-first-second : goal.returns-then-first-second
returns-then-first-second c = λ m wide h ls lt.
    one_name_bisimilar m c.args.self.now h wide c.args.s c.args.t ls lt (sym c.name-first.ensures.value ∙ c.if-first-second.true ∙ c.name-second.ensures.value)

pub returns : goal.returns
returns c = λ m wide h ls lt.
    let x = c.args.self.now in
    let u = get_or x.names c.args.s 0 in
    let v = get_or x.names c.args.t 0 in
    let nu : IsName m x c.name-first.result = subst (IsName m x) (sym c.name-first.ensures.value) (name_state m x h c.args.s ls, name_own m x h c.args.s ls) in
    let nv : IsName m x c.name-second.result = subst (IsName m x) (sym c.name-second.ensures.value) (name_state m x h c.args.t lt, name_own m x h c.args.t lt) in
    parts_moves m c.args.s c.args.t u v c.climb.result (name_bisimilar m x h wide c.args.s ls) (name_bisimilar m x h wide c.args.t lt)
    (subst₂ (FirstApart m c.climb.result) c.name-first.ensures.value c.name-second.ensures.value (c.climb.ensures m h nu nv c.if-first-second.false))
