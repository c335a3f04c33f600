-- What the moves of a state are. Assumes nothing.
use Rattle.std.proofs.Common.{◌≡◌, ℕ, ◌+◌, ◌-◌, ◌<◌, ◌≤◌, List, map, length, get_or, drop, take, Some, None, arith}
use Rattle.std.proofs.lemmas.List.{length-map, length-take, length-drop, get_or-map, get_or-take, get_or-drop, ext_get_or}
use Rattle.rows.specs.Format.{Transition}
use Rattle.table.specs.Index.{no_move, Indexes}
use Rattle.table.specs.Meaning.{rows_from, way_of, ways_of}
use Rattle.table.specs.declared.index.Index.{Index}
use Rattle.table.proofs.Arranging.{below_next, below_few}

-- The part of the moves from the first of a state, at place a, to the first of the next, at place e.
module _ (ts : List Transition) (x : Index) (indexed : Indexes ts x) (s a e : ℕ) (state : s < 1024) (from : a ≡ get_or x.firsts s 0) (upto : e ≡ get_or x.firsts (s + 1) 0) where
  pub in_order : a ≤ e
  in_order = let next = below_next ts s in grind (arith, indexed.begins s, indexed.begins (s + 1))

  pub part_ways : length ts ≤ length x.moves → map (λ m. Some m) (take (e - a) (drop a x.moves)) ≡ ways_of ts s
  part_ways few =
      let part = take (e - a) (drop a x.moves) in
      let order = in_order in
      let first = indexed.begins s (omega arith) in
      let end = indexed.begins (s + 1) (omega arith) in
      let many = below_few ts (s + 1) in
      let next = below_next ts s in
      let ways = length-map (rows_from ts s) way_of in
      let count = length-map part (λ m. Some m) in
      ext_get_or None (map (λ m. Some m) part) (ways_of ts s) (grind (arith, length-take, length-drop))
      (λ k h. grind (arith, length-take, length-drop, get_or-take, get_or-drop, get_or-map (λ m. Some m) part k no_move None, indexed.placed s k))
