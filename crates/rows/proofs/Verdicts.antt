-- A sheet has one verdict only: its lines are read in order, and each of them leads to one stage only. Assumes nothing.
use Rattle.std.proofs.Common.{◌≡◌, ℕ, suc, ◌+◌, ◌<◌, ◌≤◌, true, false, ◌⊎◌, List, [], ◌∷◌, ◌++◌, length, sym, refl, ap, ◌∙◌, subst, inl, inr, ⊎_elim, append_assoc, append-nil, arith, length-append}
use mathlib.Core.HLevel.{is_prop→PathP}
use Rattle.std.proofs.Math.Bridge.{le_prop}
use Rattle.std.proofs.lemmas.Fmt.{decimal_injective}
use Rattle.std.proofs.lemmas.Bool.{both_ways, cases_Bool}
use Rattle.actions.proofs.Texts.{text_once}
use Rattle.sheet.specs.Lines.{Lines, lines_of}
use Rattle.sheet.proofs.Splitting.{lines_are_found}
use Rattle.rows.specs.Fields.{Fields, fields_of}
use Rattle.rows.specs.Format.{Transition, Once, IsHeader, IsState, IsRow, skipped, Rows, Table}
use Rattle.rows.specs.Format as format
use Rattle.rows.specs.Verdict.{AllSkipped, LineAt, RowAt, Outcome, accepted, refused, Verdict, OneVerdict}
use Rattle.rows.specs.declared.columns.Columns.{Columns}
use Rattle.rows.specs.declared.refusal.Refusal.{Refusal}
use Rattle.rows.specs.declared.refusal.Refusal.TheVariants.{NoHeader, BadHeader, Width, BadField, TooMany}
use Rattle.rows.proofs.Cutting.{fields_are_found}

-- No two values are such.
abbrev AtMostOne : {X : Type 0} → (X → Type 0) → Type 0
AtMostOne {X} P = (x y : X) → P x → P y → x ≡ y

-- Of two cases that exclude each other, the first gives one value, and the second one at most.
cases_once : {X : Type 0} {C : Type 0} {v : X} (P : X → Type 0) → (C → (y : X) → P y → ⊥) → AtMostOne P → AtMostOne (λ x. (C × (x ≡ v)) ⊎ P x)
cases_once P apart once x y (inl a) (inl b) = a.1 ∙ sym b.1
cases_once P apart once x y (inl a) (inr b) = absurd (apart a.0 y b)
cases_once P apart once x y (inr a) (inl b) = absurd (apart b.0 x a)
cases_once P apart once x y (inr a) (inr b) = once x y a b

-- Fields are the header of one set of columns only, and under these they are one row only.
place_once : (fs : List (List ℕ)) (name : List ℕ) → AtMostOne (λ k. Once fs k name)
place_once fs name j k a b = b.alone j a.there a.named

header_once : (fs : List (List ℕ)) → AtMostOne (IsHeader fs)
header_once fs c d h k =
    let width : c.width ≡ d.width = h.width ∙ sym k.width in
    let from : c.from ≡ d.from = place_once fs _ c.from d.from h.from k.from in
    let act : c.act ≡ d.act = place_once fs _ c.act d.act h.act k.act in
    let to : c.to ≡ d.to = place_once fs _ c.to d.to h.to k.to in
    λ i. record { width = width i; from = from i; act = act i; to = to i; few = is_prop→PathP (λ j. width j ≤ 8) (λ j. le_prop) c.few d.few i }

state_once : (f : List ℕ) → AtMostOne (IsState f)
state_once f m n a b = decimal_injective m n (omega arith) (omega arith) (sym a.1 ∙ b.1)

row_once : (c : Columns) (fs : List (List ℕ)) → AtMostOne (IsRow c fs)
row_once c fs t u a b =
    let from : t.from ≡ u.from = state_once _ t.from u.from a.from b.from in
    let action : t.action ≡ u.action = text_once t.action u.action (sym a.act.1 ∙ b.act.1) in
    let to : t.to ≡ u.to = state_once _ t.to u.to a.to b.to in
    λ i. record { from = from i; action = action i; to = to i }

-- How far a sheet is read: before its header, behind it with the rows so far, or at the first rule that it breaks.
data Stage : Type 0 where
  unheaded : Stage
  behind : Columns → List Transition → Stage
  stopped : Refusal → Stage

-- What is answered where the lines end.
abbrev ending : Stage → Outcome
ending unheaded = refused NoHeader
ending (behind c ts) = accepted ts
ending (stopped e) = refused e

-- The stage behind line n, from its fields, where a header is due.
abbrev HeaderTo : ℕ → List (List ℕ) → Stage → Type 0
HeaderTo n fs x = (((c : Columns) → ¬ IsHeader fs c) × (x ≡ stopped (BadHeader n))) ⊎ ((c : Columns) × IsHeader fs c × (x ≡ behind c []))

header_to_once : (n : ℕ) (fs : List (List ℕ)) → AtMostOne (HeaderTo n fs)
header_to_once n fs =
    cases_once _ (λ no_Header y b. no_Header b.0 b.1)
    (λ x y a b. a.2 ∙ ap (λ c. behind c []) (header_once fs a.0 b.0 a.1 b.1) ∙ sym b.2)

-- And where a row is due, under these columns and behind these rows.
module _ (c : Columns) (ts : List Transition) (n : ℕ) where
  abbrev CountTo : Transition → Stage → Type 0
  CountTo t x = ((length ts ≡ 2048) × (x ≡ stopped (TooMany n))) ⊎ ((length ts < 2048) × (x ≡ behind c (ts ++ t ∷ [])))

  abbrev FieldsTo : List (List ℕ) → Stage → Type 0
  FieldsTo fs x = (((t : Transition) → ¬ IsRow c fs t) × (x ≡ stopped (BadField n))) ⊎ ((t : Transition) × IsRow c fs t × CountTo t x)

  abbrev RowTo : List (List ℕ) → Stage → Type 0
  RowTo fs x = ((¬ (length fs ≡ c.width)) × (x ≡ stopped (Width n))) ⊎ ((length fs ≡ c.width) × FieldsTo fs x)

  count_to_once : (t : Transition) → AtMostOne (CountTo t)
  count_to_once t = cases_once _ (λ full y b. omega (arith, full, b.0)) (λ x y a b. a.1 ∙ sym b.1)

  fields_to_once : (fs : List (List ℕ)) → AtMostOne (FieldsTo fs)
  fields_to_once fs =
      cases_once _ (λ no_row y b. no_row b.0 b.1)
      (λ x y a b. count_to_once b.0 x y (subst (λ t. CountTo t x) (row_once c fs a.0 b.0 a.1 b.1) a.2) b.2)

  row_to_once : (fs : List (List ℕ)) → AtMostOne (RowTo fs)
  row_to_once fs = cases_once _ (λ other y b. other b.0) (λ x y a b. fields_to_once fs x y a.1 b.1)

-- The stage behind line n: a skipped line changes no stage, and where a rule is broken no line does.
abbrev ContentTo : Stage → ℕ → List (List ℕ) → Stage → Type 0
ContentTo unheaded n fs x = HeaderTo n fs x
ContentTo (behind c ts) n fs x = RowTo c ts n fs x
ContentTo (stopped e) n fs x = x ≡ stopped e

abbrev LineTo : Stage → ℕ → List ℕ → Stage → Type 0
LineTo a n l x = ((skipped l ≡ true) × (x ≡ a)) ⊎ ((skipped l ≡ false) × ContentTo a n (fields_of l) x)

content_to_once : (a : Stage) (n : ℕ) (fs : List (List ℕ)) → AtMostOne (ContentTo a n fs)
content_to_once unheaded n fs = header_to_once n fs
content_to_once (behind c ts) n fs = row_to_once c ts n fs
content_to_once (stopped e) n fs = λ x y p q. p ∙ sym q

line_to_once : (a : Stage) (n : ℕ) (l : List ℕ) → AtMostOne (LineTo a n l)
line_to_once a n l =
    cases_once _ (λ passed y b. both_ways (skipped l) b.0 passed) (λ x y p q. content_to_once a n (fields_of l) x y p.1 q.1)

line_to : (a : Stage) (n : ℕ) (l : List ℕ) (x : Stage) {fs : List (List ℕ)} → skipped l ≡ false → Fields l fs → ContentTo a n fs x → LineTo a n l x
line_to a n l x {fs} content fields due = inr (content, subst (λ gs. ContentTo a n gs x) ((fields_are_found l).1 fs fields) due)

-- The lines from line n on lead from a stage to a stage.
data Lead : Stage → ℕ → List (List ℕ) → Stage → Type 0 where
  none : {a : Stage} {n : ℕ} → Lead a n [] a
  more : {a b x : Stage} {n : ℕ} {l : List ℕ} {ls : List (List ℕ)} → LineTo a n l b → Lead b (suc n) ls x → Lead a n (l ∷ ls) x

lead_once : (a : Stage) (n : ℕ) (ls : List (List ℕ)) → AtMostOne (Lead a n ls)
lead_once a n [] x y none none = refl
lead_once a n (l ∷ ls) x y (more {b} to lead) (more {b = c} also on) =
    lead_once c (suc n) ls x y (subst (λ z. Lead z (suc n) ls x) (line_to_once a n l b c to also) lead) on

lead_on : {a b x : Stage} {m : ℕ} {ls after : List (List ℕ)} (n : ℕ) → n ≡ m + length ls → Lead a m ls b → Lead b n after x → Lead a m (ls ++ after) x
lead_on {x} {after} n e (none {a}) on = subst (λ k. Lead a k after x) (omega arith) on
lead_on n e (more to lead) on = more to (lead_on n (omega arith) lead on)

skips_lead : (ls : List (List ℕ)) (m : ℕ) → AllSkipped ls → Lead unheaded m ls unheaded
skips_lead [] m all = none
skips_lead (l ∷ ls) m all = more (inl (all.0, refl)) (skips_lead ls (suc m) all.1)

module _ (c : Columns) where
  rows_lead : {ls : List (List ℕ)} {ts : List Transition} → Rows c ls ts → (us : List Transition) (m : ℕ) → length us + length ts ≤ 2048 → Lead (behind c us) m ls (behind c (us ++ ts))
  rows_lead format.none us m few = subst (λ ts. Lead (behind c us) m [] (behind c ts)) (sym (append-nil us)) none
  rows_lead (format.Rows.skip passed rest) us m few = more (inl (passed, refl)) (rows_lead rest us (suc m) few)
  rows_lead (format.row {l} {ls} {t} {ts} content fields row rest) us m few =
      let now = us ++ t ∷ [] in
      let on = rows_lead rest now (suc m) (omega (arith, length-append us (t ∷ []))) in
      more (line_to (behind c us) m l (behind c now) content fields (inr (row.width, inr (t, row, inr (omega arith, refl)))))
      (subst (λ all. Lead (behind c now) (suc m) ls (behind c all)) (append_assoc us (t ∷ []) ts) on)

  table_leads : {ls : List (List ℕ)} {ts : List Transition} (m : ℕ) → length ts ≤ 2048 → Table c ls ts → Lead unheaded m ls (behind c ts)
  table_leads m few (format.Table.skip passed rest) = more (inl (passed, refl)) (table_leads (suc m) few rest)
  table_leads m few (format.header {l} content fields header rest) =
      more (line_to unheaded m l (behind c []) content fields (inr (c, header, refl))) (rows_lead rest [] (suc m) (omega arith))

stop_stays : (e : Refusal) (n : ℕ) (ls : List (List ℕ)) → Lead (stopped e) n ls (stopped e)
stop_stays e n [] = none
stop_stays e n (l ∷ ls) = more (⊎_elim (λ passed. inl (passed, refl)) (λ content. inr (content, refl)) (cases_Bool (skipped l))) (stop_stays e (suc n) ls)

-- A verdict is the ending of the stage to which the lines of the sheet lead.
module _ (s : List ℕ) where
  abbrev Leads : Stage → Type 0
  Leads x = Lead unheaded 1 (lines_of s) x

  whole_leads : (ls : List (List ℕ)) (x : Stage) → Lines s ls → Lead unheaded 1 ls x → Leads x
  whole_leads ls x split = subst (λ all. Lead unheaded 1 all x) ((lines_are_found s).1 ls split)

  line_leads :
      {n : ℕ} {fs : List (List ℕ)} {Such : List (List ℕ) → Type 0} (at : LineAt s n fs Such) (a : Stage) (e : Refusal)
      → Lead unheaded 1 at.before a → ContentTo a n fs (stopped e) → Leads (stopped e)
  line_leads {n} at a e lead due =
      let stop = line_to a n at.line (stopped e) at.content at.fields due in
      whole_leads _ (stopped e) at.split (lead_on n (omega (arith, at.number)) lead (more stop (stop_stays e (suc n) at.after)))

  row_leads : {n : ℕ} {c : Columns} {ts : List Transition} {fs : List (List ℕ)} (e : Refusal) → RowAt s n c ts fs → RowTo c ts n fs (stopped e) → Leads (stopped e)
  row_leads {c} {ts} e at = line_leads at.0 (behind c ts) e (table_leads c 1 at.1 at.0.such)

  verdict_leads : (o : Outcome) → Verdict s o → (x : Stage) × Leads x × (o ≡ ending x)
  verdict_leads (accepted ts) (table, few) = (_, whole_leads table.lines _ table.split (table_leads table.columns 1 few table.table), refl)
  verdict_leads (refused NoHeader) (ls, split, all) = (_, whole_leads ls unheaded split (skips_lead ls 1 all), refl)
  verdict_leads (refused (BadHeader n)) (fs, at, no_Header) = (_, line_leads at unheaded (BadHeader n) (skips_lead at.before 1 at.such) (inl (no_Header, refl)), refl)
  verdict_leads (refused (Width n)) (c, ts, fs, at, other) = (_, row_leads (Width n) at (inl (other, refl)), refl)
  verdict_leads (refused (BadField n)) (c, ts, fs, at, width, no_row) = (_, row_leads (BadField n) at (inr (width, inl (no_row, refl))), refl)
  verdict_leads (refused (TooMany n)) (c, ts, fs, at, (t, row), full) = (_, row_leads (TooMany n) at (inr (row.width, inr (t, row, inl (full, refl)))), refl)

pub one_verdict : OneVerdict
one_verdict s o p v w =
    let a = verdict_leads s o v in
    let b = verdict_leads s p w in
    a.2 ∙ ap ending (lead_once unheaded 1 (lines_of s) a.0 b.0 a.1 b.1) ∙ sym b.2
