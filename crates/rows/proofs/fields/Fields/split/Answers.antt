use Rattle.std.proofs.Common.{rules, ◌≡◌, [], ◌∷◌, ◌++◌, length, sym, ap, ◌∙◌, append-nil, arith}
use Rattle.rows.proofs.Cutting.{field_read, cut_more}
use Rattle.rows.proofs.fields.Fields.split.Goals as goal

pub returns-then-not-pass : goal.returns-then-not-pass
returns-then-not-pass c =
    let pushed : c.try_push.new.self.items ≡ c.loop-cursor.parts.items ++ c.until.result ∷ [] = search rules in
    let read = field_read c.loop-cursor.cursor c.until.new.self c.pass.new.self c.pass.result c.until.ensures.part c.until.ensures.on c.pass.ensures.value c.pass.ensures.on in
    let last = rw c.if-not-pass.true at read in
    sym (append-nil _) ∙ cut_more c.loop-cursor.parts.items c.until.result pushed last c.loop-cursor.invariant

pub loop-cursor-preserved : goal.loop-cursor-preserved
loop-cursor-preserved c =
    let pushed : c.try_push.new.self.items ≡ c.loop-cursor.parts.items ++ c.until.result ∷ [] = search rules in
    let read = field_read c.loop-cursor.cursor c.until.new.self c.pass.new.self c.pass.result c.until.ensures.part c.until.ensures.on c.pass.ensures.value c.pass.ensures.on in
    let more = rw c.if-not-pass.false at read in
    cut_more c.loop-cursor.parts.items c.until.result pushed more c.loop-cursor.invariant

pub loop-cursor-smaller : goal.loop-cursor-smaller
loop-cursor-smaller c =
    let read = field_read c.loop-cursor.cursor c.until.new.self c.pass.new.self c.pass.result c.until.ensures.part c.until.ensures.on c.pass.ensures.value c.pass.ensures.on in
    let more = rw c.if-not-pass.false at read in
    omega (arith, ap length more)
