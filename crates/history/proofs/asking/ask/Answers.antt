use Rattle.std.proofs.Common.{sym, refl, arith}
use Rattle.std.proofs.lemmas.List.{with_items_is}
use Rattle.history.proofs.Noting.{rule_noted, reach_noted, alike_noted, tell_noted}
use Rattle.history.proofs.asking.ask.Goals as goal

pub returns-in-Rule : goal.returns-in-Rule
returns-in-Rule g c = rule_noted g.L.System.means g.R.System.means _ _ refl _ c.in-Rule.call _ _ c.in-Rule.is refl refl refl c.rule.ensures.lawful

pub returns-in-Reach : goal.returns-in-Reach
returns-in-Reach g c =
    let q = c.in-Reach.call in
    let path = c.reach.new.path in
    reach_noted g.L.System.means g.R.System.means _ _ c.reach.ensures.same _ q _ c.as_mut_slice.result.now path _
    c.in-Reach.is c.as_mut_slice.ensures.value (sym (with_items_is q.path path (omega (arith, c.reach.auto.path, c.as_mut_slice.ensures.len)))) refl refl refl c.reach.ensures.lawful

pub returns-in-Alike : goal.returns-in-Alike
returns-in-Alike g c = alike_noted g.L.System.means g.R.System.means _ _ refl _ c.in-Alike.call _ _ c.in-Alike.is refl refl refl c.alike.ensures.lawful

pub returns-in-Tell : goal.returns-in-Tell
returns-in-Tell g c =
    let q = c.in-Tell.call in
    let lines = c.tell.new.lines in
    tell_noted g.L.System.means g.R.System.means _ _ refl _ q _ c.as_mut_slice-in-Tell.result.now lines _
    c.in-Tell.is c.as_mut_slice-in-Tell.ensures.value (sym (with_items_is q.lines lines (omega (arith, c.tell.auto.lines, c.as_mut_slice-in-Tell.ensures.len)))) refl refl refl c.tell.ensures.lawful
