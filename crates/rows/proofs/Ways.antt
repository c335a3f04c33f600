-- What each line of a sheet adds to what is read. Assumes nothing.
use Rattle.std.proofs.Common.{IsTrue, rules, suc, zero, ◌≡◌, ℕ, ◌<◌, Bool, true, false, List, [], ◌∷◌, ◌++◌, map, length, get_or, Option, Some, None, Ok, Err, sym, refl, ◌∙◌, subst, arith, Bor, MatchOption}
use Rattle.std.specs.Option.{IfSome, ok_or}
use Rattle.std.specs.List.{FoldsTo, slice_get}
use Rattle.std.specs.Iterator.{Yields, FindsMapped}
use Rattle.std.specs.Iterator.Runs.{YieldsRun, SomeRun, CallKeepsClosure, AllItemsGive}
use Rattle.std.specs.Fn.{Called}
use denote.Param.Members.{Mut}
use Rattle.std.proofs.lemmas.List.{map_push, length-map, length_push}
use Rattle.std.proofs.lemmas.Option.{IfSome_then}
use Rattle.std.proofs.lemmas.Bool.{both_ways, or_from, or_left, or_right, not_from_true, not_from_false}
use Rattle.sheet.specs.Lines.{lines_of, is_remark, blanks}
use Rattle.sheet.specs.Reading.{unread, Holds, Gives, NextLine}
use Rattle.sheet.specs.declared.line.Line.{Line}
use Rattle.sheet.specs.declared.line.Line.TheVariants as is
use Rattle.sheet.specs.declared.line.Numbered.{Numbered}
use Rattle.sheet.specs.declared.lines.Lines.{Lines as Reader}
use Rattle.sheet.proofs.Splitting.{lines_are_found}
use Rattle.rows.specs.Fields.{fields_of}
use Rattle.rows.specs.Format.{IsHeader, skipped, Table}
use Rattle.rows.specs.Held.{transition_of}
use Rattle.rows.specs.Reading.{RowRead, Gone, Begun, HeaderOf, HeaderRead}
use Rattle.rows.specs.Verdict.{AllSkipped, RowAt, Refused, Accepted}
use Rattle.rows.specs.declared.columns.Columns.{Columns}
use Rattle.rows.specs.declared.refusal.Refusal.{Refusal}
use Rattle.rows.specs.declared.refusal.Refusal.TheVariants.{NoHeader, BadHeader, Width, BadField, TooMany}
use Rattle.rows.specs.declared.row.Row.{Row}
use Rattle.rows.proofs.Cutting.{fields_are_found}
use Rattle.rows.proofs.Going.{skipped_remark, passed_all, Next, next, gone_on, line_at, skips_keep, tables_keep, table_more, table_begins}

-- A line that is given is a remark where it is not what else can stand there.
remark_before : (h : Bool) (l : List ℕ) (x : Line) → Holds h l x → h ≡ false → ((y : Bor (List ℕ)) → x ≡ is.Header y → ⊥) → is_remark l ≡ true
remark_before h l (is.Remark y) holds e none = holds.0
remark_before h l (is.Header y) holds e none = absurd (none y refl)
remark_before h l (is.Row y) holds e none = absurd (both_ways h e holds.1)

remark_behind : (h : Bool) (l : List ℕ) (x : Line) → Holds h l x → h ≡ true → ((y : Bor (List ℕ)) → x ≡ is.Row y → ⊥) → is_remark l ≡ true
remark_behind h l (is.Remark y) holds e none = holds.0
remark_behind h l (is.Header y) holds e none = absurd (both_ways h holds.1 e)
remark_behind h l (is.Row y) holds e none = absurd (none y refl)

-- The line that the next call of the reader gives.
abbrev current : Reader → List ℕ
current a = get_or (unread a) (blanks (unread a)) []

module _ (a b : Reader) (given : Numbered) (gives : Gives a (blanks (unread a)) given b) where
  pub still_headed : a.headed ≡ true → b.headed ≡ true
  still_headed headed = gives.headed ∙ or_left _ _ headed

  told : (x : Bool) → is_remark (current a) ≡ x → skipped (current a) ≡ x
  told x e = skipped_remark (unread a) gives.there ∙ e

  module _ (unheaded : a.headed ≡ false) (other : (y : Bor (List ℕ)) → given.line ≡ is.Header y → ⊥) where
    remark : is_remark (current a) ≡ true
    remark = remark_before a.headed (current a) given.line gives.holds unheaded other

    still_unheaded : b.headed ≡ false
    still_unheaded = gives.headed ∙ or_from _ _ unheaded (not_from_true _ remark)

    header_not_yet : (s : List ℕ) → Gone s a AllSkipped → Gone s b AllSkipped
    header_not_yet s gone =
        let at = next s AllSkipped skips_keep a b given gone gives in
        gone_on s (current a) _ b AllSkipped at AllSkipped (skips_keep at.mid (current a) (told true remark) at.such)

  module _ (part : Bor (List ℕ)) (header : given.line ≡ is.Header part) where
    held : (is_remark (current a) ≡ false) × (a.headed ≡ false) × (part.now ≡ current a)
    held = subst (Holds a.headed (current a)) header gives.holds

    -- what the header says, or that it is none
    header_read : (s : List ℕ) → Gone s a AllSkipped → (c : Option Columns) → MatchOption c ((c : Columns) → IsHeader (fields_of part.now) c → ⊥) (IsHeader (fields_of part.now)) → HeaderRead s b (ok_or c (BadHeader given.number))
    header_read s gone None none =
        let at = next s AllSkipped skips_keep a b given gone gives in
        (fields_of (current a), line_at s (current a) _ b AllSkipped at (told false held.0), λ c fine. none c (subst (λ x. IsHeader (fields_of x) c) (sym held.2) fine))
    header_read s gone (Some c) header_is =
        let at = next s AllSkipped skips_keep a b given gone gives in
        let fine = subst (λ x. IsHeader (fields_of x) c) held.2 header_is in
        let table = table_begins c (current a) at.mid (told false held.0) (fields_are_found (current a)).0 fine at.such in (
          (gone_on s (current a) _ b AllSkipped at (λ ls. Table c ls []) table, omega arith),
          gives.headed ∙ or_right _ _ (not_from_false _ held.0),
        )

  -- Behind the header, with these rows read.
  module _ (c : Columns) (rows : List Row) (s : List ℕ) (begun : Begun s a c rows) where
    abbrev Before : List (List ℕ) → Type 0
    Before ls = Table c ls (map transition_of rows)

    at : Next s (current a) given.number b Before
    at = next s Before (tables_keep c (map transition_of rows)) a b given begun.0 gives

    pub row_not : a.headed ≡ true → ((y : Bor (List ℕ)) → given.line ≡ is.Row y → ⊥) → Begun s b c rows
    row_not headed other =
        let remark = remark_behind a.headed (current a) given.line gives.holds headed other in
        (gone_on s (current a) _ b Before at Before (tables_keep c (map transition_of rows) at.mid (current a) (told true remark) at.such), begun.1)

    module _ (part : Bor (List ℕ)) (row_Line : given.line ≡ is.Row part) where
      row_held : (is_remark (current a) ≡ false) × (a.headed ≡ true) × (part.now ≡ current a)
      row_held = subst (Holds a.headed (current a)) row_Line gives.holds

      pub row_read : (row : Row) → RowRead c part.now given.number (Ok row) → length rows < 2048 → Begun s b c (rows ++ row ∷ [])
      row_read row read room =
          let fine = subst (λ x. RowRead c x given.number (Ok row)) row_held.2 read in
          let table = table_more c (current a) (told false row_held.0) (fields_are_found (current a)).0 fine at.such in (
            gone_on s (current a) _ b Before at (λ ls. Table c ls (map transition_of (rows ++ row ∷ [])))
                (subst (Table c (at.mid ++ current a ∷ [])) (sym (map_push transition_of rows row)) table),
            omega (arith, length_push rows row),
          )

      few : length (map transition_of rows) ≡ length rows
      few = length-map rows transition_of

      there : RowAt s given.number c (map transition_of rows) (fields_of (current a))
      there = (line_at s (current a) _ b Before at (told false row_held.0), omega (arith, few, begun.1))

      -- a row that is one too many
      pub row_over : (row : Row) → RowRead c part.now given.number (Ok row) → length rows ≡ 2048 → Refused s (TooMany given.number)
      row_over row read full =
          let fine = subst (λ x. RowRead c x given.number (Ok row)) row_held.2 read in
          (c, map transition_of rows, fields_of (current a), there, (transition_of row, fine), omega (arith, few))

      pub row_refused : (e : Refusal) → RowRead c part.now given.number (Err e) → Refused s e
      row_refused e read = due e (subst (λ x. RowRead c x given.number (Err e)) row_held.2 read)
        where
          moved : (n : ℕ) → n ≡ given.number → RowAt s n c (map transition_of rows) (fields_of (current a))
          moved n same = subst (λ k. RowAt s k c (map transition_of rows) (fields_of (current a))) (sym same) there

          due : (x : Refusal) → RowRead c (current a) given.number (Err x) → Refused s x
          due NoHeader fine = absurd fine
          due (BadHeader n) fine = absurd fine
          due (Width n) fine = (c, map transition_of rows, fields_of (current a), moved n fine.0, fine.1)
          due (BadField n) fine = (c, map transition_of rows, fields_of (current a), moved n fine.0, fine.1, fine.2)
          due (TooMany n) fine = absurd fine

header_missing : (s : List ℕ) (a b : Reader) → Gone s a AllSkipped → NextLine a None b → Refused s NoHeader
header_missing s a b gone ended =
    (lines_of s, (lines_are_found s).0, passed_all (lines_of s) AllSkipped skips_keep (unread a) gone.before gone.such gone.whole ended.0)

-- Lines of which none is the header.
abbrev Others : List Numbered → Type 0
Others xs = (k : ℕ) → IfSome (slice_get xs k) (λ x. HeaderOf x None)

passes_others : (s : List ℕ) (xs : List Numbered) (a b : Reader) → Yields NextLine a xs b → Others xs → a.headed ≡ false → Gone s a AllSkipped → (b.headed ≡ false) × Gone s b AllSkipped
passes_others s [] a b e other unheaded gone = subst (λ r. (r.headed ≡ false) × Gone s r AllSkipped) e (unheaded, gone)
passes_others s (x ∷ xs) a b (j, step, more) other unheaded gone =
    passes_others s xs j b more (λ k. other (suc k)) (still_unheaded a j x step unheaded (other 0)) (header_not_yet a j x step unheaded (other 0) s gone)

-- The header is looked for by calls that tell whether a line is it.
module _ {F : Type 0} (g : Mut F (Numbered × Unit {0}) (Option (ℕ × Bor (List ℕ)))) (tells : (p : F) (x : Numbered) (r : Option (ℕ × Bor (List ℕ))) (q : F) → Called g p (x, tt) r q → HeaderOf x r) where
  others : (p : F) (xs : List Numbered) (q : F) → FoldsTo (λ p x q. Called g p (x, tt) None q) p xs q → Others xs
  others p [] q folds k = tt
  others p (x ∷ xs) q (j, call, folds) zero = tells p x None j call
  others p (x ∷ xs) q (j, call, folds) (suc k) = others j xs q folds k

  module _ (a : Reader) (f : F) (unheaded : a.headed ≡ false) (s : List ℕ) (gone : Gone s a AllSkipped) where
    pub header_found : (b : Reader) (found : ℕ × Bor (List ℕ)) → FindsMapped NextLine g a f (Some found) b → (c : Option Columns) → MatchOption c ((c : Columns) → IsHeader (fields_of found.1.now) c → ⊥) (IsHeader (fields_of found.1.now)) → HeaderRead s b (ok_or c (BadHeader found.0))
    header_found b found (xs, None, q, yields, folds, end) c says = absurd (cc)
    header_found b found (xs, Some x, q, (j, yields, step), folds, (h, call)) c says =
        let passed = passes_others s xs a j yields (others f xs q folds) unheaded gone in
        let header = tells q x (Some found) h call in
        rw header.0 (header_read j b x step found.1 header.1 s passed.1 c says)

    pub no_header_found : CallKeepsClosure g f → SomeRun NextLine a (λ p. IsTrue p.whole × AllItemsGive p g f None) → Refused s NoHeader
    unfolding YieldsRun
    no_header_found keeps (run, from, (whole, gives)) =
        let all = run.gave.0 in
        let other : Others run.items = λ k. rw (← run.gave.1 k) (IfSome_then (run.at k) (gives keeps k) (λ x call. tells f x None f call)) in
        let end = all.2 (search rules) in
        let passed = passes_others s run.items a all.0 (rw from at all.1) other unheaded gone in
        header_missing s all.0 end.0 passed.1 end.1

pub rows_end : (s : List ℕ) (a b : Reader) (c : Columns) (rows : List Row) → Begun s a c rows → NextLine a None b → Accepted s (map transition_of rows)
rows_end s a b c rows begun ended = (
  record {
    lines = lines_of s;
    columns = c;
    split = (lines_are_found s).0;
    table = passed_all (lines_of s) (λ ls. Table c ls (map transition_of rows)) (tables_keep c (map transition_of rows)) (unread a) begun.0.before begun.0.such begun.0.whole ended.0;
  },
  omega (arith, length-map rows transition_of, begun.1),
)

-- No line of the sheet is read yet.
pub none_gone : (s : List ℕ) (a : Reader) → unread a ≡ lines_of s → a.count ≡ 0 → Gone s a AllSkipped
none_gone s a all none = record { before = []; whole = all; counted = none; such = tt }
