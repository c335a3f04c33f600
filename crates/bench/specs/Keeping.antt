-- Which calls since the opening led to a bench, and what a call adds. Assumes nothing.
use Rattle.std.specs.Prelude.{◌≡◌, List, ◌∷◌}
use Rattle.lts.specs.Lts.{Lts}
use Rattle.law.specs.History.{Call, Phase, History, AsDefined, Lawful, entries_held}
use Rattle.law.specs.History.Call.{settle, reopen}
use Rattle.law.specs.History.Phase.{Open, Settled}
use Rattle.bench.specs.Bench.{Bench, system}

-- A call that took a bench from Before to After, each of which says which calls lead to it, newest first: whatever
-- calls led to it before, this one is answered as defined for the entries held, they and it lead to the bench after it,
-- and the answers of them all keep the law.
abbrev pub Lawfully : Lts → (List Call → Type 0) → (List Call → Type 0) → Call → Type 0
Lawfully m Before After e = (h : List Call) → Before h → AsDefined m (entries_held h) e × After (e ∷ h) × Lawful m (e ∷ h)

-- The meanings of the values of two types of systems.
module _ {L R : Type 0} (left : L → Lts) (right : R → Lts) where
  -- The calls lead to the bench, which is open or settled: it holds the entries that they leave.
  pub record Kept (φ : Phase) (b : Bench L R) (h : List Call) : Type 0 where
    pub history : History (system left right b) φ h
    pub entries : b.entries ≡ entries_held h

  -- What each call of an open bench, settling, each call of a settled bench, and reopening does, from a bench to a bench.
  abbrev pub OpenTakes : Bench L R → Bench L R → Call → Type 0
  OpenTakes b b' e = Lawfully (system left right b) (Kept Open b) (Kept Open b') e

  abbrev pub Settles : Bench L R → Bench L R → Type 0
  Settles b b' = Lawfully (system left right b) (Kept Open b) (Kept Settled b') settle

  abbrev pub SettledTakes : Bench L R → Bench L R → Call → Type 0
  SettledTakes b b' e = Lawfully (system left right b) (Kept Settled b) (Kept Settled b') e

  abbrev pub Reopens : Bench L R → Bench L R → Type 0
  Reopens b b' = Lawfully (system left right b) (Kept Settled b) (Kept Open b') reopen
