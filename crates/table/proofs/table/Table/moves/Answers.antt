use Rattle.std.proofs.Common.{◌≡◌, ◌∙◌, map, length, sym, ap, arith, rules}
use Rattle.rows.specs.Answers.{transitions}
use Rattle.table.specs.Limiting.{none_past}
use Rattle.table.specs.Meaning.{way_of, ways_of}
use Rattle.table.proofs.Asking.{in_order, part_ways}
use Rattle.table.proofs.Arranging.{rows_few}
use Rattle.table.proofs.table.Table.moves.Goals as goal

pub returns-then-state-ge-STATES-clause-ways : goal.returns-then-state-ge-STATES-clause-ways
returns-then-state-ge-STATES-clause-ways c = sym (ap (map way_of) (none_past c.args.self.now.rows.items c.args.state c.if-state-ge-STATES.true))

pub slice_bounds-result-count : goal.slice_bounds-result-count
slice_bounds-result-count c = let x = c.args.self.now in in_order (transitions x.rows) x.index x.indexed c.from-state.result _ _ (omega arith) c.from-first.ensures c.from-end.ensures

pub slice_bounds-result-start : goal.slice_bounds-result-start
slice_bounds-result-start c = let x = c.args.self.now in in_order (transitions x.rows) x.index x.indexed c.from-state.result _ _ (omega arith) c.from-first.ensures c.from-end.ensures

pub returns-clause-ways : goal.returns-clause-ways
returns-clause-ways c =
    let x = c.args.self.now in
    let long : length x.index.moves ≡ 2048 = search rules in
    part_ways (transitions x.rows) x.index x.indexed c.from-state.result _ _ (omega arith) c.from-first.ensures c.from-end.ensures (omega (arith, rows_few x.rows))
    ∙ ap (ways_of (transitions x.rows)) c.from-state.ensures
