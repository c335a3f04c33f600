-- What a reader that passes bytes does, as the machine sees it. Assumes nothing.
use Rattle.std.proofs.Common.{◌≡◌, ℕ, zero, suc, ◌+◌, ◌<◌, ◌≤◌, true, false, List, [], ◌∷◌, length, drop, get_or, eqb, Option, Some, None, slice_get, refl, sym, ap, ◌∙◌, ⊎_elim, arith}
use Rattle.std.proofs.lemmas.Option.{slice_get_within, slice_get_cases, get_or_from_slice_get}
use Rattle.std.proofs.lemmas.Bool.{eq-eqb, eqb-true, false≢true}
use Rattle.std.specs.Option.{option_eq, is_some, unwrap_or}
use Rattle.sheet.specs.Parts.{begins}
use Rattle.grammar.specs.Order.{bad}
use Rattle.grammar.specs.Machine.{State, dead, next, begun, ending, out_at, Alive, Within}
use Rattle.grammar.proofs.Walking.{out_byte, out_dead, out_end, out_many}
use Rattle.formula_text.specs.Readers.{text, at, out, Spaced, Passed}
use Rattle.formula_text.specs.Phrases.{here, At}
use Rattle.formula_text.specs.declared.reader.Reader.{Reader}

-- The byte at a place is the first of what is left from there.
pub begins_here : (s : List ℕ) (p b : ℕ) → slice_get s p ≡ Some b → begins b (drop p s) ≡ true
begins_here [] p b h = let l : p < 0 = slice_get_within [] p b h in absurd (omega (arith, l))
begins_here (c ∷ s) zero b h = rw (get_or_from_slice_get (c ∷ s) 0 b 0 h) (eq-eqb b b refl)
begins_here (c ∷ s) (suc p) b h = begins_here s p b h

-- A byte that is there and equals the mark.
pub is_mark : (o : Option ℕ) (b : ℕ) → option_eq eqb o (Some b) ≡ true → o ≡ Some b
is_mark None b h = absurd (false≢true h)
is_mark (Some c) b h = ap Some (eqb-true c b h)

-- A byte that is there and is another than the mark.
pub is_other : {o : Option ℕ} (x b : ℕ) → o ≡ Some x → (x ≡ b → ⊥) → o ≡ Some b → ⊥
is_other x b e differs is = differs (ap (λ o. unwrap_or o b) (sym e ∙ is))

-- No byte is there.
pub is_none : {o : Option ℕ} (b : ℕ) → o ≡ None → o ≡ Some b → ⊥
is_none b e is = absurd (false≢true (ap is_some (sym e ∙ is)))

-- Whether a byte is there.
pub is_there : (o : Option ℕ) → is_some o ≡ true → (b : ℕ) × (o ≡ Some b)
is_there None h = absurd (false≢true h)
is_there (Some b) h = (b, refl)

pub is_away : (o : Option ℕ) → is_some o ≡ false → o ≡ None
is_away None h = refl
is_away (Some b) h = absurd (false≢true (sym h))

-- What comes of the bytes is the same where the text, the limit and the place are.
pub out_same : (a b : Reader) (σ : State) (p : ℕ) → b.limit ≡ a.limit → text b ≡ text a → at b ≡ p → out_at a.limit (text a) σ p ≡ out b σ
out_same a b σ p limit same on = sym (ap (λ l. out_at l (text b) σ (at b)) limit ∙ ap (λ s. out_at a.limit s σ (at b)) same ∙ ap (λ i. out_at a.limit (text a) σ i) on)

-- A byte that leads on within the limits.
pub crossing : {a b : Reader} {n : ℕ} (σ τ : State) (mark : ℕ) → Passed a b n → slice_get (text a) (at a) ≡ Some mark → next σ mark ≡ τ → Within a.limit τ → out a σ ≡ out b τ
crossing {a} {b} σ τ mark passed here leads within =
    out_byte a.limit (text a) σ τ (at a) mark (slice_get_within (text a) (at a) mark here) (get_or_from_slice_get (text a) (at a) mark 0 here) leads within
    ∙ out_same a b τ (at a + 1) passed.same.limit passed.same.text passed.on

-- No space is passed.
pub spaced_none : (a : Reader) → Spaced a a
spaced_none a = record {
  same = record { text = refl; limit = refl; begun = omega arith };
  entries = refl;
  on = omega arith;
  goes = λ σ stays within. refl;
}

-- One space more.
pub spaced_more : {a b c : Reader} → Spaced a b → slice_get (text b) (at b) ≡ Some 32 → Passed b c 0 → Spaced a c
spaced_more {a} {b} {c} spaced here passed = record {
  same = record { text = passed.same.text ∙ spaced.same.text; limit = passed.same.limit ∙ spaced.same.limit; begun = omega (arith, passed.same.begun, spaced.same.begun) };
  entries = passed.entries ∙ spaced.entries;
  on = omega (arith, passed.on, spaced.on);
  goes = λ σ stays within. spaced.goes σ stays within ∙ crossing σ σ 32 passed here stays (rw spaced.same.limit within);
}

-- Where a reader may be in a state, the limits are kept.
pub within : (a : Reader) (d : ℕ) (σ : State) → d ≤ 16 → At a d σ → Within a.limit σ
within a d σ low h = (h.0, omega (arith, h.1, a.few), omega (arith, h.2, low))

-- Spaces that are passed change nothing of it.
pub at_spaced : {a b : Reader} (d : ℕ) (σ : State) → Spaced a b → At a d σ → At b d σ
at_spaced d σ spaced h = (h.0, omega (arith, h.1, spaced.same.begun), h.2)

-- Where no byte leads on, the text is malformed at the reader's place.
pub lost : (a : Reader) (σ : State) → ((b : ℕ) → here a ≡ Some b → next σ b ≡ dead) → ending σ (at a) ≡ bad 31 (at a) → out a σ ≡ bad 31 (at a)
lost a σ dies ends = ⊎_elim more none (slice_get_cases (text a) (at a)).1
  where
    more : (x : ℕ) × (at a < length (text a)) × (here a ≡ Some x) × (get_or (text a) (at a) x ≡ x) → out a σ ≡ bad 31 (at a)
    more h = out_dead a.limit (text a) σ (at a) h.0 h.1 (get_or_from_slice_get (text a) (at a) h.0 0 h.2) (dies h.0 h.2)

    none : (length (text a) ≤ at a) × (here a ≡ None) → out a σ ≡ bad 31 (at a)
    none h = out_end a.limit (text a) σ (at a) h.0 ∙ ends

-- Where one entry too many begins.
pub too_many : (a : Reader) (σ τ : State) (mark : ℕ) → here a ≡ Some mark → next σ mark ≡ τ → Alive τ → a.limit < begun τ → out a σ ≡ bad 32 (at a)
too_many a σ τ mark stands leads alive many =
    out_many a.limit (text a) σ τ (at a) mark (slice_get_within (text a) (at a) mark stands) (get_or_from_slice_get (text a) (at a) mark 0 stands) leads alive many
