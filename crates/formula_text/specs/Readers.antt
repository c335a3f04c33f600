-- A reader as the machine of formula text sees it. Assumes nothing.
use Rattle.std.specs.Prelude.{◌≡◌, ℕ, ◌+◌, ◌≤◌, List}
use Rattle.formula.specs.declared.entry.Entry.{Entry}
use Rattle.grammar.specs.Verdict.{Out}
use Rattle.grammar.specs.Machine.{State, next, out_at, Within}
use Rattle.sheet.specs.Cursors.{bytes, place}
use Rattle.formula_text.specs.declared.reader.Reader.{Reader}

abbrev pub text : Reader → List ℕ
text r = bytes r.cursor

abbrev pub at : Reader → ℕ
at r = place r.cursor

abbrev pub held : Reader → List Entry
held r = r.entries.items

-- What comes of the bytes that are not read yet, in a state of the machine.
abbrev pub out : Reader → State → Out
out r σ = out_at r.limit (text r) σ (at r)

-- The second reader stands in the same text under the same limit, where n more entries have begun.
pub record Same (a b : Reader) (n : ℕ) : Type 0 where
  pub text : text b ≡ text a
  pub limit : b.limit ≡ a.limit
  pub begun : b.begun ≡ a.begun + n

-- The second reader stands at the first byte from the first one on that is no space.
pub record Spaced (a b : Reader) : Type 0 where
  pub same : Same a b 0
  pub entries : held b ≡ held a
  pub on : at a ≤ at b
  pub goes : (σ : State) → next σ 32 ≡ σ → Within a.limit σ → out a σ ≡ out b σ

-- The second reader stands one byte further.
pub record Passed (a b : Reader) (n : ℕ) : Type 0 where
  pub same : Same a b n
  pub entries : held b ≡ held a
  pub on : at b ≡ at a + 1
