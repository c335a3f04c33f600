-- What a reader does with a phrase, as the machine of formula text sees it. Assumes nothing.
use Rattle.std.specs.Prelude.{◌≡◌, ℕ, ◌<◌, ◌≤◌, [], ◌∷◌, ◌++◌, Some, slice_get, Option, Result, MatchResult, OnOk}
use Rattle.hml.specs.Logic.{Formula}
use Rattle.hml.specs.declared.line.Modality.{Modality}
use Rattle.formula.specs.declared.entry.Entry.{Entry}
use Rattle.grammar.specs.Grammar.{Level, unary, ands, ors, size}
use Rattle.grammar.specs.Machine.{Ctx, first, lone, want, act, shut, State, await, have, begun, depth, Alive}
use Rattle.formula_text.specs.Listing.{last_of, listed}
use Rattle.formula_text.specs.Refusals.{refused}
use Rattle.formula_text.specs.Readers.{text, at, held, out, Same}
use Rattle.formula_text.specs.declared.refusal.TextRefusal.{TextRefusal}
use Rattle.formula_text.specs.declared.reader.Reader.{Reader}

-- The byte at the reader's place, if there is one.
abbrev pub here : Reader → Option ℕ
here r = slice_get (text r) (at r)

-- No small letter stands at the reader's place.
abbrev pub NoLetter : Reader → Type 0
NoLetter r = (b : ℕ) → here r ≡ Some b → 97 ≤ b → b ≤ 122 → ⊥

-- The reader may be in the state: as many entries have begun in both, and d brackets are open.
abbrev pub At : Reader → ℕ → State → Type 0
At r d σ = Alive σ × (begun σ ≡ r.begun) × (depth σ ≡ d)

-- From the first reader to the second, the machine goes from one state to the other, whatever is pending.
abbrev pub Goes : {l : Level} → Reader → Reader → ℕ → (Ctx l → State) → (Ctx l → State) → Type 0
Goes {l} a b d from to = (k : Ctx l) → At a d (from k) → out a (from k) ≡ out b (to k)

-- From the reader on, what comes of the text in the state is the refusal, whatever is pending.
abbrev pub Stops : {l : Level} → Reader → ℕ → (Ctx l → State) → TextRefusal → Type 0
Stops {l} a d from e = (k : Ctx l) → At a d (from k) → out a (from k) ≡ refused e

-- An action is read, by its number.
pub record ActionRead (a b : Reader) (n : ℕ) : Type 0 where
  pub same : Same a b 0
  pub entries : held b ≡ held a
  pub on : at a < at b
  pub goes : (m : Modality) (d : ℕ) → d ≤ 16 → Goes a b d (await (act m)) (await (shut m n))

-- An entry is put behind those held; it has the number n.
pub record Put (a b : Reader) (e : Entry) (n : ℕ) : Type 0 where
  pub same : Same a b 0
  pub place : at b ≡ at a
  pub entries : held b ≡ held a ++ e ∷ []
  pub number : n ≡ last_of (held b)

-- A phrase is read, and n is the number of its entry. It is a formula such that the machine goes from the first state to the second.
pub record Phrase {l : Level} (a b : Reader) (d n : ℕ) (from : Ctx l → State) (to : Formula → Ctx l → State) : Type 0 where
  pub formula : Formula
  pub same : Same a b (size formula)
  pub entries : held b ≡ listed (held a) formula
  pub number : n ≡ last_of (held b)
  pub on : at a < at b
  pub goes : Goes a b d from (to formula)

-- What comes of reading a phrase: the number of its entry, or the refusal.
abbrev pub Read : {l : Level} → Reader → Reader → ℕ → (Ctx l → State) → (Formula → Ctx l → State) → Result ℕ TextRefusal → Type 0
Read a b d from to r = MatchResult r (λ n. Phrase a b d n from to) (Stops a d from)

-- The state before a phrase of each level, and the state after one.
abbrev pub before_unary : Ctx unary → State
before_unary k = await want k

abbrev pub before_ands : Ctx ands → State
before_ands k = await want (lone k)

abbrev pub before_ors : Ctx ors → State
before_ors k = await want (lone (first k))

abbrev pub after_ors : Formula → Ctx ors → State
after_ors f k = have f (first k)

-- The reader stands at the end, or at a byte with which a phrase of and does not go on.
abbrev pub PastAnds : Reader → Type 0
PastAnds r = (here r ≡ Some 32 → ⊥) × (here r ≡ Some 38 → ⊥)

-- Nor does one of or.
abbrev pub PastOrs : Reader → Type 0
PastOrs r = PastAnds r × (here r ≡ Some 124 → ⊥)

-- A phrase of or is read, and no byte follows with which it would go on.
abbrev pub OrsRead : Reader → Reader → ℕ → Result ℕ TextRefusal → Type 0
OrsRead a b d r = Read a b d before_ors after_ors r × OnOk r (PastOrs b)

abbrev pub AndsRead : Reader → Reader → ℕ → Result ℕ TextRefusal → Type 0
AndsRead a b d r = Read a b d before_ands have r × OnOk r (PastAnds b)
