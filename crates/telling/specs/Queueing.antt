-- What putting pairs behind those that wait answers. Assumes nothing.
use Rattle.std.specs.Prelude.{◌≡◌, ℕ, ◌+◌, ◌<◌, List, ◌++◌, length, Ok, Err, Result}
use Rattle.telling.specs.declared.queue.Queue.{Queue}
use Rattle.telling.specs.declared.writing.TooLong.{TooLong}

-- All stand behind, and the limit stays; or they are too many for it.
abbrev pub Queued : {A : Type 0} → Queue → List (ℕ × ℕ) → Queue → Result A TooLong → Type 0
Queued before more after (Ok x) = (after.pairs.items ≡ before.pairs.items ++ more) × (after.limit ≡ before.limit)
Queued before more after (Err long) = before.limit < length before.pairs.items + length more
