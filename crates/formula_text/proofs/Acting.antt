-- Actions are read as the machine reads them. Assumes nothing.
use Rattle.std.proofs.Common.{◌≡◌, ℕ, ◌+◌, ◌<◌, ◌≤◌, Some, refl, ap, ◌∙◌, arith}
use Rattle.hml.specs.declared.line.Modality.{Modality}
use Rattle.grammar.specs.Grammar.{unary}
use Rattle.grammar.specs.Machine.{Ctx, act, hat, shut, await, next}
use Rattle.grammar.proofs.Moves.{no_move, next_receives, next_sends}
use Rattle.formula_text.specs.Readers.{at, Spaced, Passed}
use Rattle.formula_text.specs.Phrases.{here, At, NoLetter, ActionRead, Stops}
use Rattle.formula_text.specs.declared.reader.Reader.{Reader}
use Rattle.formula_text.specs.declared.refusal.TextRefusal.TheVariants.{Malformed}
use Rattle.formula_text.proofs.Passing.{crossing, within, at_spaced, lost}

-- Spaces, and then a byte that leads to the state after the action.
acted : {a s b : Reader} (mark n : ℕ) → Spaced a s → here s ≡ Some mark → Passed s b 0 → ((m : Modality) (k : Ctx unary) → next (await (act m) k) mark ≡ await (shut m n) k) → ActionRead a b n
acted {a} {s} {b} mark n spaced stands passed leads = record {
  same = record { text = passed.same.text ∙ spaced.same.text; limit = passed.same.limit ∙ spaced.same.limit; begun = omega (arith, passed.same.begun, spaced.same.begun) };
  entries = passed.entries ∙ spaced.entries;
  on = omega (arith, passed.on, spaced.on);
  goes = λ m d low k h.
      let there = at_spaced d (await (act m) k) spaced h in
      spaced.goes (await (act m) k) refl (within a d (await (act m) k) low h)
      ∙ crossing (await (act m) k) (await (shut m n) k) mark passed stands (leads m k) (within s d (await (act m) k) low there);
}

pub silent : {a s b : Reader} → Spaced a s → here s ≡ Some 42 → Passed s b 0 → ActionRead a b 0
silent spaced stands passed = acted 42 0 spaced stands passed (λ m k. refl)

pub receives : {a s b : Reader} (c : ℕ) → c < 26 → Spaced a s → here s ≡ Some (c + 97) → Passed s b 0 → ActionRead a b (1 + c)
receives c low spaced stands passed =
    let same : c + 1 ≡ 1 + c = omega arith in
    acted (c + 97) (1 + c) spaced stands passed (λ m k. next_receives m k c low ∙ ap (λ n. await (shut m n) k) same)

-- A hat, then spaces and a letter.
pub sends : {a s t u b : Reader} (c : ℕ) → c < 26 → Spaced a s → here s ≡ Some 94 → Passed s t 0 → Spaced t u → here u ≡ Some (c + 97) → Passed u b 0 → ActionRead a b (27 + c)
sends {a} {s} {t} {u} {b} c low spaced stands passed more letter last = record {
  same = record {
    text = last.same.text ∙ more.same.text ∙ passed.same.text ∙ spaced.same.text;
    limit = last.same.limit ∙ more.same.limit ∙ passed.same.limit ∙ spaced.same.limit;
    begun = omega (arith, last.same.begun, more.same.begun, passed.same.begun, spaced.same.begun);
  };
  entries = last.entries ∙ more.entries ∙ passed.entries ∙ spaced.entries;
  on = omega (arith, last.on, more.on, passed.on, spaced.on);
  goes = λ m d small k h.
      let σ = await (act m) k in
      let τ = await (hat m) k in
      let same : c + 27 ≡ 27 + c = omega arith in
      let in_s = at_spaced d (σ) spaced h in
      let in_t : At t d τ = (tt, omega (arith, in_s.1, passed.same.begun), in_s.2) in
      let in_u = at_spaced d (τ) more in_t in
      spaced.goes σ refl (within a d (σ) small h)
      ∙ crossing σ τ 94 passed stands refl (within s d (σ) small in_s)
      ∙ more.goes τ refl (within t d (τ) small in_t)
      ∙ crossing τ (await (shut m (27 + c)) k) (c + 97) last letter (next_sends m k c low ∙ ap (λ n. await (shut m n) k) same) (within u d (τ) small in_u);
}

-- Where none stands.
pub no_action : {a s : Reader} → Spaced a s → (here s ≡ Some 32 → ⊥) → (here s ≡ Some 42 → ⊥) → (here s ≡ Some 94 → ⊥) → NoLetter s → (m : Modality) (d : ℕ) → d ≤ 16 → Stops a d (await (act m)) (Malformed (at s))
no_action {a} {s} spaced space star sent letter m d low k h =
    spaced.goes (await (act m) k) refl (within a d (await (act m) k) low h)
    ∙ lost s (await (act m) k) (λ b e. no_move (await (act m) k) b ((λ c l is. letter b e (omega (arith, is)) (omega (arith, is))), ((λ is. space (e ∙ ap Some is)), ((λ is. star (e ∙ ap Some is)), ((λ is. sent (e ∙ ap Some is)), tt))))) refl

-- Where no letter stands behind a hat.
pub no_sent : {a s t u : Reader} → Spaced a s → here s ≡ Some 94 → Passed s t 0 → Spaced t u → (here u ≡ Some 32 → ⊥) → NoLetter u → (m : Modality) (d : ℕ) → d ≤ 16 → Stops a d (await (act m)) (Malformed (at u))
no_sent {a} {s} {t} {u} spaced stands passed more space letter m d low k h =
    let σ = await (act m) k in
    let τ = await (hat m) k in
    let in_s = at_spaced d (σ) spaced h in
    let in_t : At t d τ = (tt, omega (arith, in_s.1, passed.same.begun), in_s.2) in
    spaced.goes σ refl (within a d (σ) low h)
    ∙ crossing σ τ 94 passed stands refl (within s d (σ) low in_s)
    ∙ more.goes τ refl (within t d (τ) low in_t)
    ∙ lost u τ (λ b e. no_move τ b ((λ c l is. letter b e (omega (arith, is)) (omega (arith, is))), ((λ is. space (e ∙ ap Some is)), tt))) refl
