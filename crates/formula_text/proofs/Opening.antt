-- Constants, modalities and brackets are read as the machine reads them. Assumes nothing.
use Rattle.std.proofs.Common.{◌≡◌, ℕ, suc, ◌+◌, ◌<◌, ◌≤◌, Bool, true, false, List, [], ◌∷◌, ◌++◌, Some, Result, Ok, Err, refl, sym, ap, ◌∙◌, arith}
use Rattle.std.proofs.lemmas.Option.{slice_get_within, get_or_from_slice_get}
use Rattle.hml.specs.Logic.{Formula}
use Rattle.hml.specs.declared.line.Modality.{Modality}
use Rattle.hml.specs.declared.line.Modality.TheVariants.{May, Must}
use Rattle.formula.specs.declared.entry.Entry.{Entry}
use Rattle.grammar.specs.Grammar.{unary, modal_of, size}
use Rattle.grammar.specs.Machine.{Ctx, within as inside, under, half, act, shut, await, done, next, opener, closer, initial, named}
use Rattle.grammar.proofs.Moves.{no_move}
use Rattle.grammar.proofs.Counting.{within_done}
use Rattle.grammar.proofs.Walking.{out_deep}
use Rattle.formula_text.specs.Listing.{last_of, listed, modal_entry, constant_entry}
use Rattle.formula_text.specs.Readers.{text, at, held, out, Spaced, Passed}
use Rattle.formula_text.specs.Phrases.{here, At, ActionRead, Put, Phrase, Stops, Read, before_unary, before_ors, after_ors, PastOrs}
use Rattle.formula_text.specs.declared.reader.Reader.{Reader}
use Rattle.formula_text.specs.declared.refusal.TextRefusal.{TextRefusal}
use Rattle.formula_text.specs.declared.refusal.TextRefusal.TheVariants.{Malformed, TooMany, TooDeep}
use Rattle.formula_text.proofs.Passing.{crossing, within, lost, too_many}
use Rattle.formula_text.proofs.Joining.{out_put}

-- The first letter of a constant.
opens_constant : (w : Bool) (k : Ctx unary) → next (before_unary k) (initial w) ≡ await (half w) k
opens_constant true k = refl
opens_constant false k = refl

-- The second one.
ends_constant : (w : Bool) (k : Ctx unary) → next (await (half w) k) (initial w) ≡ done (named w) k
ends_constant true k = refl
ends_constant false k = refl

size_named : (w : Bool) → size (named w) ≡ 1
size_named true = refl
size_named false = refl

listed_named : (es : List Entry) (w : Bool) → listed es (named w) ≡ es ++ constant_entry w ∷ []
listed_named es true = refl
listed_named es false = refl

pub constant_many : (a : Reader) {d : ℕ} (w : Bool) → here a ≡ Some (initial w) → a.begun ≡ a.limit → Stops a d before_unary (TooMany (at a))
constant_many a w stands full k h = too_many a (before_unary k) (await (half w) k) (initial w) stands (opens_constant w k) tt (omega (arith, full, h.1))

-- The first letter is passed.
half_read : {a s : Reader} {d : ℕ} (w : Bool) → d ≤ 16 → here a ≡ Some (initial w) → Passed a s 1 → (k : Ctx unary) → At a d (before_unary k) → out a (before_unary k) ≡ out s (await (half w) k)
half_read {s} w low stands passed k h = crossing (before_unary k) (await (half w) k) (initial w) passed stands (opens_constant w k) (tt, omega (arith, s.few, passed.same.limit, passed.same.begun, h.1), omega (arith, h.2, low))

pub constant_stops : {a s : Reader} {d : ℕ} (w : Bool) → d ≤ 16 → here a ≡ Some (initial w) → Passed a s 1 → (here s ≡ Some (initial w) → ⊥) → Stops a d before_unary (Malformed (at s))
constant_stops {s} w low stands passed other k h =
    half_read w low stands passed k h ∙ lost s (await (half w) k) (λ b e. no_move (await (half w) k) b ((λ is. other (e ∙ ap Some is)), tt)) refl

pub constant_read : {a s t b : Reader} {d n : ℕ} (w : Bool) → d ≤ 16 → here a ≡ Some (initial w) → Passed a s 1 → here s ≡ Some (initial w) → Passed s t 0 → Put t b (constant_entry w) n → Phrase a b d n before_unary done
constant_read {a} {s} {t} w low stands passed stands′ passed′ put = record {
  formula = named w;
  same = record {
    text = put.same.text ∙ passed′.same.text ∙ passed.same.text;
    limit = put.same.limit ∙ passed′.same.limit ∙ passed.same.limit;
    begun = omega (arith, put.same.begun, passed′.same.begun, passed.same.begun, size_named w);
  };
  entries = put.entries ∙ ap (λ es. es ++ constant_entry w ∷ []) (passed′.entries ∙ passed.entries) ∙ sym (listed_named (held a) w);
  number = put.number;
  on = omega (arith, put.place, passed′.on, passed.on);
  goes = λ k h.
      half_read w low stands passed k h
      ∙ crossing (await (half w) k) (done (named w) k) (initial w) passed′ stands′ (ends_constant w k) (within_done s.limit (named w) k (omega (arith, size_named w, s.few, passed.same.begun, h.1)) (omega (arith, h.2, low)))
      ∙ out_put (done (named w) k) put;
}

-- The mark before an action.
opens_modal : (m : Modality) (k : Ctx unary) → next (before_unary k) (opener m) ≡ await (act m) k
opens_modal May k = refl
opens_modal Must k = refl

-- The mark behind it.
shuts_modal : (m : Modality) (n : ℕ) (k : Ctx unary) → next (await (shut m n) k) (closer m) ≡ before_unary (under m n k)
shuts_modal May n k = refl
shuts_modal Must n k = refl

size_modal : (m : Modality) (n : ℕ) (f : Formula) → size (modal_of m n f) ≡ suc (size f)
size_modal May n f = refl
size_modal Must n f = refl

listed_modal : (es : List Entry) (m : Modality) (n : ℕ) (f : Formula) → listed es (modal_of m n f) ≡ listed es f ++ modal_entry m n (last_of (listed es f)) ∷ []
listed_modal es May n f = refl
listed_modal es Must n f = refl

pub modal_many : (a : Reader) {d : ℕ} (m : Modality) → here a ≡ Some (opener m) → a.begun ≡ a.limit → Stops a d before_unary (TooMany (at a))
modal_many a m stands full k h = too_many a (before_unary k) (await (act m) k) (opener m) stands (opens_modal m k) tt (omega (arith, full, h.1))

module _ {a s : Reader} {d : ℕ} (m : Modality) (low : d ≤ 16) (stands : here a ≡ Some (opener m)) (passed : Passed a s 1) where
  -- The mark before the action is passed.
  opened : (k : Ctx unary) → At a d (before_unary k) → (At s d (await (act m) k)) × (out a (before_unary k) ≡ out s (await (act m) k))
  opened k h =
      let there : At s d (await (act m) k) = (tt, omega (arith, passed.same.begun, h.1), h.2) in
      (there, crossing (before_unary k) (await (act m) k) (opener m) passed stands (opens_modal m k) (tt, omega (arith, s.few, passed.same.limit, there.1), omega (arith, h.2, low)))

  pub modal_no_action : (e : TextRefusal) → Stops s d (await (act m)) e → Stops a d before_unary e
  modal_no_action e stops k h = let o = opened k h in o.1 ∙ stops k o.0

  module _ {t u : Reader} {n : ℕ} (action : ActionRead s t n) (spaced : Spaced t u) where
    -- The action is passed, and the spaces behind it.
    acted : (k : Ctx unary) → At a d (before_unary k) → (At u d (await (shut m n) k)) × (out a (before_unary k) ≡ out u (await (shut m n) k))
    acted k h =
        let o = opened k h in
        let there : At u d (await (shut m n) k) = (tt, omega (arith, spaced.same.begun, action.same.begun, o.0.1), o.0.2) in
        (there, o.1 ∙ action.goes m d low k o.0 ∙ spaced.goes (await (shut m n) k) refl (tt, omega (arith, t.few, action.same.begun, o.0.1), omega (arith, o.0.2, low)))

    pub modal_not_shut : (here u ≡ Some 32 → ⊥) → (here u ≡ Some (closer m) → ⊥) → Stops a d before_unary (Malformed (at u))
    modal_not_shut space other k h =
        let o = acted k h in
        o.1 ∙ lost u (await (shut m n) k) (λ b e. no_move (await (shut m n) k) b ((λ is. space (e ∙ ap Some is)), ((λ is. other (e ∙ ap Some is)), tt))) refl

    module _ {v : Reader} (shuts : here u ≡ Some (closer m)) (over : Passed u v 0) where
      -- The mark behind the action is passed.
      shut_read : (k : Ctx unary) → At a d (before_unary k) → (At v d (before_unary (under m n k))) × (out a (before_unary k) ≡ out v (before_unary (under m n k)))
      shut_read k h =
          let o = acted k h in
          let there : At v d (before_unary (under m n k)) = (tt, omega (arith, over.same.begun, o.0.1), o.0.2) in
          (there, o.1 ∙ crossing (await (shut m n) k) (before_unary (under m n k)) (closer m) over shuts (shuts_modal m n k) (tt, omega (arith, u.few, o.0.1), omega (arith, o.0.2, low)))

      pub modal_stops : (e : TextRefusal) → Stops v d before_unary e → Stops a d before_unary e
      modal_stops e stops k h = let o = shut_read k h in o.1 ∙ stops (under m n k) o.0

      pub modal_read : {w b : Reader} {i j : ℕ} → Phrase v w d i before_unary done → Put w b (modal_entry m n i) j → Phrase a b d j before_unary done
      modal_read x put = record {
        formula = modal_of m n x.formula;
        same = record {
          text = put.same.text ∙ x.same.text ∙ over.same.text ∙ spaced.same.text ∙ action.same.text ∙ passed.same.text;
          limit = put.same.limit ∙ x.same.limit ∙ over.same.limit ∙ spaced.same.limit ∙ action.same.limit ∙ passed.same.limit;
          begun = omega (arith, put.same.begun, x.same.begun, over.same.begun, spaced.same.begun, action.same.begun, passed.same.begun, size_modal m n x.formula);
        };
        entries = put.entries ∙ rw (x.number, x.entries, over.entries, spaced.entries, action.entries, passed.entries) (sym (listed_modal (held a) m n x.formula));
        number = put.number;
        on = omega (arith, put.place, x.on, over.on, spaced.on, action.on, passed.on);
        goes = λ k h. let o = shut_read k h in o.1 ∙ x.goes (under m n k) o.0 ∙ out_put (done (modal_of m n x.formula) k) put;
      }

pub too_deep : (a : Reader) {d : ℕ} → d ≡ 16 → here a ≡ Some 40 → Stops a d before_unary (TooDeep (at a))
too_deep a {d} deep stands k h =
    out_deep a.limit (text a) (before_unary k) (before_ors (inside k)) (at a) 40 (slice_get_within (text a) (at a) 40 stands) (get_or_from_slice_get (text a) (at a) 40 0 stands) refl tt (omega (arith, a.few, h.1)) (omega (arith, h.2, deep))

module _ {a s : Reader} {d : ℕ} (low : d < 16) (stands : here a ≡ Some 40) (passed : Passed a s 0) where
  -- The bracket is passed.
  entered : (k : Ctx unary) → At a d (before_unary k) → (At s (d + 1) (before_ors (inside k))) × (out a (before_unary k) ≡ out s (before_ors (inside k)))
  entered k h =
      let there : At s (d + 1) (before_ors (inside k)) = (tt, omega (arith, passed.same.begun, h.1), omega (arith, h.2)) in
      (there, crossing (before_unary k) (before_ors (inside k)) 40 passed stands refl (tt, omega (arith, a.few, h.1), omega (arith, h.2, low)))

  pub bracket_stops : (e : TextRefusal) → Stops s (d + 1) before_ors e → Stops a d before_unary e
  bracket_stops e stops k h = let o = entered k h in o.1 ∙ stops (inside k) o.0

  module _ {b : Reader} {n : ℕ} (x : Phrase s b (d + 1) n before_ors after_ors) where
    pub not_closed : PastOrs b → (here b ≡ Some 41 → ⊥) → Stops a d before_unary (Malformed (at b))
    not_closed past other k h =
        let o = entered k h in
        let σ = after_ors x.formula (inside k) in
        o.1 ∙ x.goes (inside k) o.0
        ∙ lost b σ (λ c e. no_move σ c ((λ is. past.0.0 (e ∙ ap Some is)), ((λ is. past.0.1 (e ∙ ap Some is)), ((λ is. past.1 (e ∙ ap Some is)), ((λ is. other (e ∙ ap Some is)), tt))))) refl

    pub bracket_read : {r : Reader} → here b ≡ Some 41 → Passed b r 0 → Phrase a r d n before_unary done
    bracket_read closes over = record {
      formula = x.formula;
      same = record {
        text = over.same.text ∙ x.same.text ∙ passed.same.text;
        limit = over.same.limit ∙ x.same.limit ∙ passed.same.limit;
        begun = omega (arith, over.same.begun, x.same.begun, passed.same.begun);
      };
      entries = over.entries ∙ x.entries ∙ ap (λ es. listed es x.formula) passed.entries;
      number = x.number ∙ ap last_of (sym over.entries);
      on = omega (arith, over.on, x.on, passed.on);
      goes = λ k h.
          let o = entered k h in
          o.1 ∙ x.goes (inside k) o.0
          ∙ crossing (after_ors x.formula (inside k)) (done x.formula k) 41 over closes refl (within_done b.limit x.formula k (omega (arith, b.few, x.same.begun, passed.same.begun, h.1)) (omega (arith, h.2, low)));
    }

-- Spaces before a phrase.
led : {a s : Reader} {d : ℕ} → d ≤ 16 → Spaced a s → (k : Ctx unary) → At a d (before_unary k) → (At s d (before_unary k)) × (out a (before_unary k) ≡ out s (before_unary k))
led {a} {s} {d} low spaced k h =
    let there : At s d (before_unary k) = (tt, omega (arith, h.1, spaced.same.begun), h.2) in
    (there, spaced.goes (before_unary k) refl (within a d (before_unary k) low h))

pub read_led : {a s : Reader} {d : ℕ} (b : Reader) (r : Result ℕ TextRefusal) → d ≤ 16 → Spaced a s → Read s b d before_unary done r → Read a b d before_unary done r
read_led b (Ok n) low spaced x = record {
  formula = x.formula;
  same = record { text = x.same.text ∙ spaced.same.text; limit = x.same.limit ∙ spaced.same.limit; begun = omega (arith, x.same.begun, spaced.same.begun) };
  entries = x.entries ∙ ap (λ es. listed es x.formula) spaced.entries;
  number = x.number;
  on = omega (arith, x.on, spaced.on);
  goes = λ k h. let o = led low spaced k h in o.1 ∙ x.goes k o.0;
}
read_led b (Err e) low spaced stops = λ k h. let o = led low spaced k h in o.1 ∙ stops k o.0

-- No phrase begins with the byte.
pub none_begins : {a s : Reader} {d : ℕ} → d ≤ 16 → Spaced a s → (here s ≡ Some 32 → ⊥) → (here s ≡ Some 116 → ⊥) → (here s ≡ Some 102 → ⊥) → (here s ≡ Some 60 → ⊥) → (here s ≡ Some 91 → ⊥) → (here s ≡ Some 40 → ⊥) → Stops a d before_unary (Malformed (at s))
none_begins {s} low spaced space t f may must bracket k h =
    (led low spaced k h).1
    ∙ lost s (before_unary k) (λ b e. no_move (before_unary k) b ((λ is. space (e ∙ ap Some is)), ((λ is. t (e ∙ ap Some is)), ((λ is. f (e ∙ ap Some is)), ((λ is. may (e ∙ ap Some is)), ((λ is. must (e ∙ ap Some is)), ((λ is. bracket (e ∙ ap Some is)), tt))))))) refl
