use Rattle.std.proofs.Common.{◌≡◌, ◌-◌, ◌++◌, string_bytes}
use Rattle.listing.specs.Listing.{states_text}
use Rattle.listing.proofs.write_system.Given as goal

-- what is written since the two first lines, and the states that are left
abbrev pub invariant-loop-state : goal.invariant-loop-state
invariant-loop-state g l =
    string_bytes l.out ++ states_text (g.S.System.means l.system) l.state ((g.S.System.means l.system).states - l.state)
    ≡ string_bytes l.initial.out ++ states_text (g.S.System.means l.system) 0 (g.S.System.means l.system).states
