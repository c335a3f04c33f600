-- A whole text is read as its verdict says. Assumes nothing.
use Rattle.std.proofs.Common.{◌≡◌, ℕ, ◌<◌, ◌≤◌, ◌-◌, List, [], ◌++◌, length, replicate, min, Some, None, refl, sym, ap, ◌∙◌, ⊎_elim, subst, arith}
use Rattle.std.proofs.lemmas.Option.{slice_get_within, slice_get_cases, get_or_from_slice_get}
use Rattle.std.proofs.lemmas.Bool.{cases_eq}
use Rattle.hml.specs.Logic.{Formula}
use Rattle.formula.specs.declared.entry.Entry.{Entry}
use Rattle.formula.specs.declared.entry.Entry.TheVariants.{True}
use Rattle.formula.specs.Entries.{formula_at, AllSound}
use Rattle.grammar.specs.Grammar.{size}
use Rattle.grammar.specs.Order.{good, bad}
use Rattle.grammar.specs.Verdict.{Out, Is, Verdict}
use Rattle.grammar.specs.Machine.{top, dead, start, next, out_at}
use Rattle.grammar.proofs.Moves.{no_move}
use Rattle.grammar.proofs.Verdicts.{unique, exact, accepted, accepted_size}
use Rattle.grammar.proofs.Written.{written}
use Rattle.grammar.specs.Writing.{formula_text, AllActions}
use Rattle.grammar.proofs.Walking.{out_start, out_dead, out_end}
use Rattle.formula_text.specs.Listing.{last_of, listed}
use Rattle.formula_text.specs.Refusals.{refused}
use Rattle.formula_text.specs.Readers.{text, at, held, out}
use Rattle.formula_text.specs.Phrases.{here, Phrase, Stops, before_ors, after_ors, PastOrs}
use Rattle.formula_text.specs.Answers.{limit_of, Accepted}
use Rattle.formula_text.specs.Wholes.{Unread, Whole}
use Rattle.formula_text.proofs.Sizes.{length_listed}
use Rattle.formula_text.proofs.Meaning.{size_some, listed_stands, listed_sound, padded, text_actions}
use Rattle.formula_text.proofs.Passing.{is_none}
use Rattle.formula_text.specs.declared.reader.Reader.{Reader}
use Rattle.formula_text.specs.declared.refusal.TextRefusal.{TextRefusal}
use Rattle.formula_text.specs.declared.refusal.TextRefusal.TheVariants.{Malformed}

-- Where no byte stands, the text ends.
past_end : (r : Reader) → here r ≡ None → length (text r) ≤ at r
past_end r none = ⊎_elim (λ h. absurd (is_none h.0 none h.2)) (λ h. h.0) (slice_get_cases (text r) (at r)).1

module _ {s : List ℕ} {places : ℕ} {a : Reader} (unread : Unread s places a) where
  -- What comes of the text from its start is its verdict.
  verdict : (o : Out) → out a (before_ors top) ≡ o → Verdict (min 128 places) s o
  verdict o comes =
      (exact (min 128 places) s o).1
      (out_start (min 128 places) s
      ∙ sym (ap (λ l. out_at l (text a) start (at a)) unread.limit ∙ ap (λ t. out_at (min 128 places) t start (at a)) unread.text ∙ ap (out_at (min 128 places) s start) unread.place)
      ∙ comes)

  pub whole_stops : (e : TextRefusal) → Stops a 0 before_ors e → Verdict (min 128 places) s (refused e)
  whole_stops e stops = verdict (refused e) (stops top (tt, sym unread.begun, refl))

  module _ {b : Reader} {n : ℕ} (x : Phrase a b 0 n before_ors after_ors) where
    comes : out a (before_ors top) ≡ out b (after_ors x.formula top)
    comes = x.goes top (tt, sym unread.begun, refl)

    -- The text ends where a formula ends.
    pub whole_read : here b ≡ None → Whole s places b
    whole_read none = record {
      formula = x.formula;
      verdict = verdict (good x.formula) (comes ∙ out_end b.limit (text b) (after_ors x.formula top) (at b) (past_end b none));
      entries = x.entries ∙ ap (λ es. listed es x.formula) unread.entries;
    }

    -- More stands behind it.
    pub not_ended : (c : ℕ) → PastOrs b → here b ≡ Some c → Verdict (min 128 places) s (refused (Malformed (at b)))
    not_ended c past stands =
        let σ = after_ors x.formula top in
        let dies : next σ c ≡ dead = ⊎_elim (λ e. ap (next σ) e) (λ other. no_move σ c ((λ is. past.0.0 (stands ∙ ap Some is)), ((λ is. past.0.1 (stands ∙ ap Some is)), ((λ is. past.1 (stands ∙ ap Some is)), ((λ is. other is), tt))))) (cases_eq c 41) in
        verdict (bad 31 (at b)) (comes ∙ out_dead b.limit (text b) σ (at b) c (slice_get_within (text b) (at b) c stands) (get_or_from_slice_get (text b) (at b) c 0 stands) dies)

-- A whole text's entries fit into the list.
pub whole_fits : {s : List ℕ} {places : ℕ} (b : Reader) → Whole s places b → length (held b) ≤ places
whole_fits {s} {places} b w =
    let few = accepted_size (min 128 places) s w.formula ((exact (min 128 places) s (good w.formula)).0 w.verdict) in
    let least : min 128 places ≤ places = omega arith in
    omega (arith, few, least, ap length w.entries, length_listed [] w.formula)

-- What is accepted is that formula.
is_text : (limit : ℕ) (s : List ℕ) (f : Formula) → Verdict limit s (good f) → Is s f
is_text limit s f v = (accepted limit s f).0 ((exact limit s (good f)).0 v)

-- With the places behind them holding true, they are what is answered.
pub whole_answer : {s : List ℕ} (before after : List Entry) (b : Reader) → Whole s (length before) b → after ≡ held b ++ replicate (length before - length (held b)) True → Accepted s before after (length (held b))
whole_answer {s} before after b w is =
    let f = w.formula in
    let es = listed [] f in
    let count : length (held b) ≡ size f = omega (arith, ap length w.entries, length_listed [] f) in
    let full : after ≡ es ++ replicate (length before - length (held b)) True = is ∙ ap (λ x. x ++ replicate (length before - length (held b)) True) w.entries in
    let rest = padded (length before - length (held b)) es (listed_sound [] f (λ k l. absurd (none_below k l)) (text_actions (is_text (min 128 (length before)) s f w.verdict))) in
    let same : length (held b) - 1 ≡ last_of es = omega (arith, ap length w.entries) in
    record {
      formula = f;
      verdict = w.verdict;
      count = count;
      list = full;
      sound = subst AllSound (sym full) rest.0;
      means = ap (λ x. formula_at x (length (held b) - 1)) full ∙ rest.1 (length (held b) - 1) (omega (arith, count, size_some f, length_listed [] f)) ∙ ap (formula_at es) same ∙ listed_stands [] f;
    }
  where
    none_below : (k : ℕ) → k < 0 → ⊥
    none_below k l = omega (arith, l)

-- The formula that is read from the text of a formula is that one.
pub written_again : {s : List ℕ} {before after : List Entry} {n : ℕ} → Accepted s before after n → (f : Formula) → AllActions f → s ≡ formula_text f → formula_at after (n - 1) ≡ f
written_again {s} {before} x f actions is = x.means ∙ unique s x.formula f (is_text (limit_of before) s x.formula x.verdict) (subst (λ t. Is t f) (sym is) (written f actions))
