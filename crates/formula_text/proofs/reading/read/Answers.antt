use Rattle.std.proofs.Common.{◌≡◌, ◌-◌, ◌++◌, length, drop, replicate, ◌∙◌, sym, ap, ap₂, subst, arith}
use Rattle.std.proofs.lemmas.List.{length-take-le, drop-replicate}
use Rattle.formula.specs.declared.entry.Entry.TheVariants.{True}
use Rattle.formula_text.specs.Answers.{Accepted}
use Rattle.formula_text.specs.Readers.{held}
use Rattle.formula_text.proofs.Ending.{whole_fits, whole_answer, written_again}
use Rattle.formula_text.proofs.reading.read.Goals as goal

pub slice_bounds-copy_from_slice-end : goal.slice_bounds-copy_from_slice-end
slice_bounds-copy_from_slice-end c =
    let fits = whole_fits c.whole.new.self (c.in_ok-whole.ensures c.args.text.now (length c.args.list.now) c.new-reader.ensures) in
    omega (arith, fits, ap length c.as_slice-entries.ensures.value, c.fill.ensures.len)

pub slice_bounds-copy_from_slice-end-2 : goal.slice_bounds-copy_from_slice-end-2
slice_bounds-copy_from_slice-end-2 c =
    let fits = whole_fits c.whole.new.self (c.in_ok-whole.ensures c.args.text.now (length c.args.list.now) c.new-reader.ensures) in
    sym (length-take-le (length c.as_slice-entries.result.now) c.fill.new.self (omega (arith, fits, ap length c.as_slice-entries.ensures.value, c.fill.ensures.len)))

pub copy_from_slice-requires : goal.copy_from_slice-requires
copy_from_slice-requires c =
    let fits = whole_fits c.whole.new.self (c.in_ok-whole.ensures c.args.text.now (length c.args.list.now) c.new-reader.ensures) in
    length-take-le (length c.as_slice-entries.result.now) c.fill.new.self (omega (arith, fits, ap length c.as_slice-entries.ensures.value, c.fill.ensures.len))

-- The list that is left is the one that is accepted.
accepted_here : (c : goal.After-list-2-1) → Accepted c.args.text.now c.args.list.now (c.copy_from_slice.new.self ++ drop (length c.as_slice-entries.result.now) c.fill.new.self) (length c.as_slice-entries.result.now)
accepted_here c =
    let whole = c.in_ok-whole.ensures c.args.text.now (length c.args.list.now) c.new-reader.ensures in
    let entries = c.as_slice-entries.ensures.value in
    let n = length c.as_slice-entries.result.now in
    let blank : c.fill.new.self ≡ replicate (length c.args.list.now) True = c.fill.ensures.after (λ y e. e) in
    let is : c.copy_from_slice.new.self ++ drop n c.fill.new.self ≡ held c.whole.new.self ++ replicate (length c.args.list.now - length (held c.whole.new.self)) True = ap₂ ◌++◌ (c.copy_from_slice.ensures.after ∙ entries) (ap (drop n) blank ∙ drop-replicate n (length c.args.list.now) True ∙ ap (λ es. replicate (length c.args.list.now - length es) True) entries) in
    subst (λ es. Accepted c.args.text.now c.args.list.now (c.copy_from_slice.new.self ++ drop n c.fill.new.self) (length es)) (sym entries) (whole_answer c.args.list.now (c.copy_from_slice.new.self ++ drop n c.fill.new.self) c.whole.new.self whole is)

pub returns-clause-answer : goal.returns-clause-answer
returns-clause-answer c = accepted_here c

pub returns-clause-written : goal.returns-clause-written
returns-clause-written c = λ f actions is. written_again (accepted_here c) f actions is
