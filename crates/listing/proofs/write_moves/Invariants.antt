use Rattle.std.proofs.Common.{◌≡◌, ◌++◌, drop, string_bytes}
use Rattle.listing.specs.Listing.{ways_text}
use Rattle.listing.proofs.write_moves.Given as goal

-- what is written, and the lines that are left
abbrev pub invariant-loop-k : goal.invariant-loop-k
invariant-loop-k g l =
    string_bytes l.out ++ ways_text l.state (drop l.k ((g.S.System.means l.system).ways l.state))
    ≡ string_bytes l.initial.out ++ ways_text l.state ((g.S.System.means l.system).ways l.state)
