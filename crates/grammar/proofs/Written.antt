-- A formula that is written is read as itself, and so is an action. Assumes nothing.
use Rattle.std.proofs.Common.{◌≡◌, ℕ, ◌+◌, ◌-◌, ◌<◌, ◌≤◌, List, sym, subst, subst₂, ⊎_elim, arith}
use Rattle.std.proofs.lemmas.Bool.{cases_eq, cases_lt}
use Rattle.actions.specs.Text.{action_text}
use Rattle.actions.proofs.Texts.{text_received, text_sent}
use Rattle.hml.specs.Logic.{Formula}
use Rattle.hml.specs.Logic.Formula.{tru, fls, both, either, may, must}
use Rattle.grammar.specs.Grammar.{Level, unary, ands, ors, Act, silent, receives, sends, letter}
use Rattle.grammar.specs.Grammar.{Text, truth, falsity, diamond, box, bracketed, single, conjunction, conjunctions, disjunction}
use Rattle.grammar.specs.Writing.{placed, text_at, AllActions}
use Rattle.grammar.specs.Theorems.{WrittenIsRead, ActionTextIsRead}

-- The text of an action is that action.
act_received : (c : ℕ) → c < 26 → Act (action_text (1 + c)) (1 + c)
act_received c h = let same : c + 1 ≡ 1 + c = omega arith in subst₂ Act (sym (text_received c h)) same (receives (letter h))

act_sent : (c : ℕ) → c < 26 → Act (action_text (27 + c)) (27 + c)
act_sent c h = let same : c + 27 ≡ 27 + c = omega arith in subst₂ Act (sym (text_sent c)) same (sends (letter h))

pub acts : ActionTextIsRead
acts n h = ⊎_elim none (λ ne. ⊎_elim (received ne) sent (cases_lt n 27)) (cases_eq n 0)
  where
    none : n ≡ 0 → Act (action_text n) n
    none e = rw e silent

    received : ¬ (n ≡ 0) → n < 27 → Act (action_text n) n
    received ne l = let same : 1 + (n - 1) ≡ n = omega arith in subst (λ i. Act (action_text i) i) same (act_received (n - 1) (omega arith))

    sent : 27 ≤ n → Act (action_text n) n
    sent l = let same : 27 + (n - 27) ≡ n = omega arith in subst (λ i. Act (action_text i) i) same (act_sent (n - 27) (omega arith))

-- A unary phrase is a phrase of any level, and so is an and-phrase or an or-phrase where it is placed.
unary_text : (l : Level) {u : List ℕ} {f : Formula} → Text unary u f → Text l u f
unary_text unary t = t
unary_text ands t = single t
unary_text ors t = conjunctions (single t)

placed_ands : (l : Level) {u : List ℕ} {f : Formula} → Text ands u f → Text l (placed l ands u) f
placed_ands unary t = bracketed (conjunctions t)
placed_ands ands t = t
placed_ands ors t = conjunctions t

placed_ors : (l : Level) {u : List ℕ} {f : Formula} → Text ors u f → Text l (placed l ors u) f
placed_ors unary t = bracketed t
placed_ors ands t = single (bracketed t)
placed_ors ors t = t

-- A formula that is written at a place of a level is a phrase of the level.
pub written_at : (f : Formula) (l : Level) → AllActions f → Text l (text_at l f) f
written_at tru l h = unary_text l truth
written_at fls l h = unary_text l falsity
written_at (both f g) l h = placed_ands l (conjunction (written_at f ands h.0) (written_at g unary h.1))
written_at (either f g) l h = placed_ors l (disjunction (written_at f ors h.0) (written_at g ands h.1))
written_at (may a f) l h = unary_text l (diamond (acts a h.0) (written_at f unary h.1))
written_at (must a f) l h = unary_text l (box (acts a h.0) (written_at f unary h.1))

-- A formula that is written is read as itself.
pub written : WrittenIsRead
written f h = written_at f ors h
