use Rattle.std.proofs.Common.{◌≡◌, ◌+◌, ◌-◌, ◌++◌, map, length, take, drop, replicate}
use Rattle.formula.specs.Entries.{raised}
use Rattle.formula.specs.declared.entry.Entry.TheVariants.{True}
use Rattle.entering.proofs.held.Held.append.Given as goal

-- the entries so far are held behind those of before
abbrev pub invariant-loop-entry : goal.invariant-loop-entry
invariant-loop-entry l =
    (l.self-inside.count ≡ l.before + l.entry-index)
    × (length l.self-inside.entries ≡ 128)
    × (drop l.self-inside.count l.self-inside.entries ≡ replicate (128 - l.self-inside.count) True)
    × (take l.self-inside.count l.self-inside.entries ≡ take l.before l.initial.self-inside.entries ++ map (raised l.before) (take l.entry-index l.list))
