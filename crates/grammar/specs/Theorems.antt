-- What is proved of the grammar of formula text, of the machine as its reader, and of how formulas are written. Assumes nothing.
use Rattle.std.specs.Prelude.{◌≡◌, ℕ, suc, ◌<◌, ◌≤◌, List, length, take}
use Rattle.actions.specs.Text.{action_text}
use Rattle.hml.specs.Logic.{Formula}
use Rattle.grammar.specs.Order.{good, bad}
use Rattle.grammar.specs.Grammar.{Act, size}
use Rattle.grammar.specs.Verdict.{Is, Viable, entries, depth_of, Out, Verdict}
use Rattle.grammar.specs.Machine.{read}
use Rattle.grammar.specs.Writing.{formula_text, AllActions}

-- A text is at most one formula.
abbrev pub TextIsOneFormula : Type 0
TextIsOneFormula = (s : List ℕ) (f g : Formula) → Is s f → Is s g → f ≡ g

-- As many entries begin in the text of a formula as the formula has.
abbrev pub EntriesAreCounted : Type 0
EntriesAreCounted = (s : List ℕ) (f : Formula) → Is s f → entries s ≡ size f

-- What the machine reads is the verdict, and the verdict is what it reads.
abbrev pub MachineIsExact : Type 0
MachineIsExact = (limit : ℕ) (s : List ℕ) (o : Out) → (Verdict limit s o → read limit s ≡ o) × (read limit s ≡ o → Verdict limit s o)

-- Each text has a verdict, and one only.
abbrev pub VerdictIsOne : Type 0
VerdictIsOne = (limit : ℕ) (s : List ℕ) → (o : Out) × Verdict limit s o × ((x : Out) → Verdict limit s x → x ≡ o)

-- What is read is what the grammar derives, and what it derives is read where no limit is exceeded.
abbrev pub AcceptedIsDerived : Type 0
AcceptedIsDerived =
    (limit : ℕ) (s : List ℕ) (f : Formula)
    → (read limit s ≡ good f → Is s f) × (Is s f → size f ≤ limit → ((q : ℕ) → depth_of (take q s) ≤ 16) → read limit s ≡ good f)

-- Some text begins with the bytes before place p, and none with the byte at p too, or the text ends at p too soon.
abbrev pub MalformedAt : List ℕ → ℕ → Type 0
MalformedAt s p = Viable (take p s) × (p ≤ length s) × (p < length s → ¬ Viable (take (suc p) s)) × (p ≡ length s → (f : Formula) → ¬ Is s f)

-- A refusal by 31 says so of the text and the place.
abbrev pub MalformedIsFirst : Type 0
MalformedIsFirst = (limit : ℕ) (s : List ℕ) (p : ℕ) → read limit s ≡ bad 31 p → MalformedAt s p

-- A formula that is written is read as itself.
abbrev pub WrittenIsRead : Type 0
WrittenIsRead = (f : Formula) → AllActions f → Is (formula_text f) f

-- The text of an action is that action.
abbrev pub ActionTextIsRead : Type 0
ActionTextIsRead = (n : ℕ) → n ≤ 52 → Act (action_text n) n
