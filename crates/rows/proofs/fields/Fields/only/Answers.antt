use Rattle.std.proofs.Common.{rules}
use Rattle.rows.proofs.Naming.{none_named, two_named, one_named}
use Rattle.rows.proofs.fields.Fields.only.Goals as goal

pub returns-in_err-first : goal.returns-in_err-first
returns-in_err-first c = rw c.from_residual.ensures (none_named c.args.name.now c.args.self.now.parts.items (rw c.deref.ensures.0 at c.in_err-first.ensures))

pub returns-then-is_some : goal.returns-then-is_some
returns-then-is_some c =
    let first = rw c.deref.ensures.0 at c.in_ok-first.ensures in
    let second = rw c.deref-2.ensures.0 at c.first_named-2.ensures in
    two_named c.args.name.now c.args.self.now.parts.items c.in_ok-first.first first c.first_named-2.result second (search rules)

pub returns : goal.returns
returns c =
    let first = rw c.deref.ensures.0 at c.in_ok-first.ensures in
    let second = rw c.deref-2.ensures.0 at c.first_named-2.ensures in
    one_named c.args.name.now c.args.self.now.parts.items c.in_ok-first.first first c.first_named-2.result second (search rules)
