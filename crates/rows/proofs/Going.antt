-- How a table is read line by line: what holds of the lines that are read. Assumes nothing.
use Rattle.std.proofs.Common.{◌≡◌, ℕ, suc, ◌+◌, ◌<◌, true, false, List, [], ◌∷◌, ◌++◌, length, get_or, drop, sym, refl, ap, ◌∙◌, subst, append_assoc, append-nil, arith, length-append}
use Rattle.sheet.specs.Lines.{Lines, lines_of, is_remark, blanks}
use Rattle.sheet.specs.Reading.{unread, Gives}
use Rattle.sheet.specs.declared.line.Numbered.{Numbered}
use Rattle.sheet.specs.declared.lines.Lines.{Lines as Reader}
use Rattle.sheet.proofs.Splitting.{lines_are_found}
use Rattle.rows.specs.Fields.{Fields, fields_of}
use Rattle.rows.specs.Format.{Transition, IsHeader, IsRow, skipped, Rows, Table, WellFormed}
use Rattle.rows.specs.Format as format
use Rattle.rows.specs.Reading.{Gone}
use Rattle.rows.specs.Verdict.{AllSkipped, LineAt}
use Rattle.rows.specs.declared.columns.Columns.{Columns}
use Rattle.rows.proofs.Cutting.{fields_are_found}

-- The first line that is not empty is skipped exactly where it is a remark.
pub skipped_remark : (us : List (List ℕ)) → blanks us < length us → skipped (get_or us (blanks us) []) ≡ is_remark (get_or us (blanks us) [])
skipped_remark [] h = absurd (omega arith)
skipped_remark ([] ∷ us) h = skipped_remark us (omega arith)
skipped_remark ((b ∷ l) ∷ us) h = refl

-- A property of lines that one skipped line more keeps.
abbrev Keeps : (List (List ℕ) → Type 0) → Type 0
Keeps Such = (ls : List (List ℕ)) (l : List ℕ) → skipped l ≡ true → Such ls → Such (ls ++ l ∷ [])

module _ (all : List (List ℕ)) (Such : List (List ℕ) → Type 0) (keeps : Keeps Such) where
  -- The empty lines are passed, up to the first that is not.
  pub passed : (us before : List (List ℕ)) → Such before → before ++ us ≡ all → blanks us < length us → (mid : List (List ℕ)) × Such mid × (mid ++ get_or us (blanks us) [] ∷ drop (suc (blanks us)) us ≡ all) × (length mid ≡ length before + blanks us)
  passed [] before such e h = absurd (omega arith)
  passed ([] ∷ us) before such e h =
      let p = passed us (before ++ [] ∷ []) (keeps before [] refl such) (append_assoc before ([] ∷ []) us ∙ e) (omega arith) in
      (p.0, p.1, p.2, omega (arith, p.3, length-append before ([] ∷ [])))
  passed ((b ∷ l) ∷ us) before such e h = (before, such, e, omega arith)

  -- All lines are empty.
  pub passed_all : (us before : List (List ℕ)) → Such before → before ++ us ≡ all → blanks us ≡ length us → Such all
  passed_all [] before such e h = subst Such (sym (append-nil before) ∙ e) such
  passed_all ([] ∷ us) before such e h = passed_all us (before ++ [] ∷ []) (keeps before [] refl such) (append_assoc before ([] ∷ []) us ∙ e) (omega arith)
  passed_all ((b ∷ l) ∷ us) before such e h = absurd (omega arith)

-- The line that comes next, behind lines that are such.
pub record Next (s : List ℕ) (l : List ℕ) (n : ℕ) (b : Reader) (Such : List (List ℕ) → Type 0) : Type 0 where
  pub mid : List (List ℕ)
  pub such : Such mid
  pub whole : mid ++ l ∷ unread b ≡ lines_of s
  pub number : n ≡ suc (length mid)
  pub counted : b.count ≡ n

module _ (s : List ℕ) (Such : List (List ℕ) → Type 0) (keeps : Keeps Such) (a b : Reader) where
  pub next : (given : Numbered) → Gone s a Such → Gives a (blanks (unread a)) given b → Next s (get_or (unread a) (blanks (unread a)) []) given.number b Such
  next given gone gives =
      let p = passed (lines_of s) Such keeps (unread a) gone.before gone.such gone.whole gives.there in
      record {
        mid = p.0;
        such = p.1;
        whole = ap (λ ls. p.0 ++ get_or (unread a) (blanks (unread a)) [] ∷ ls) gives.left ∙ p.2;
        number = omega (arith, gives.number, gone.counted, p.3);
        counted = gives.count;
      }

-- One line more is read.
module _ (s l : List ℕ) (n : ℕ) (b : Reader) (Such : List (List ℕ) → Type 0) (at : Next s l n b Such) where
  pub gone_on : (After : List (List ℕ) → Type 0) → After (at.mid ++ l ∷ []) → Gone s b After
  gone_on After after = record {
    before = at.mid ++ l ∷ [];
    whole = append_assoc at.mid (l ∷ []) (unread b) ∙ at.whole;
    counted = omega (arith, at.number, at.counted, length-append at.mid (l ∷ []));
    such = after;
  }

  pub line_at : skipped l ≡ false → LineAt s n (fields_of l) Such
  line_at content = record {
    before = at.mid;
    line = l;
    after = unread b;
    split = subst (Lines s) (sym at.whole) (lines_are_found s).0;
    such = at.such;
    content = content;
    fields = (fields_are_found l).0;
    number = at.number;
  }

-- Lines that are such, and one more.
pub skips_keep : Keeps AllSkipped
skips_keep [] l h tt' = (h, tt)
skips_keep (k ∷ ls) l h all = (all.0, skips_keep ls l h all.1)

module _ (c : Columns) (l : List ℕ) where
  rows_skip : {ls : List (List ℕ)} {ts : List Transition} → skipped l ≡ true → Rows c ls ts → Rows c (ls ++ l ∷ []) ts
  rows_skip h format.none = format.skip h format.none
  rows_skip h (format.skip g rows) = format.skip g (rows_skip h rows)
  rows_skip h (format.row g fields is rows) = format.row g fields is (rows_skip h rows)

  rows_more : {ls fs : List (List ℕ)} {ts : List Transition} {t : Transition} → skipped l ≡ false → Fields l fs → IsRow c fs t → Rows c ls ts → Rows c (ls ++ l ∷ []) (ts ++ t ∷ [])
  rows_more h f i format.none = format.row h f i format.none
  rows_more h f i (format.skip g rows) = format.skip g (rows_more h f i rows)
  rows_more h f i (format.row g fields is rows) = format.row g fields is (rows_more h f i rows)

  table_skip : {ls : List (List ℕ)} {ts : List Transition} → skipped l ≡ true → Table c ls ts → Table c (ls ++ l ∷ []) ts
  table_skip h (format.skip g table) = format.skip g (table_skip h table)
  table_skip h (format.header g fields is rows) = format.header g fields is (rows_skip h rows)

  pub table_more : {ls fs : List (List ℕ)} {ts : List Transition} {t : Transition} → skipped l ≡ false → Fields l fs → IsRow c fs t → Table c ls ts → Table c (ls ++ l ∷ []) (ts ++ t ∷ [])
  table_more h f i (format.skip g table) = format.skip g (table_more h f i table)
  table_more h f i (format.header g fields is rows) = format.header g fields is (rows_more h f i rows)

  pub table_begins : (ls : List (List ℕ)) {fs : List (List ℕ)} → skipped l ≡ false → Fields l fs → IsHeader fs c → AllSkipped ls → Table c (ls ++ l ∷ []) []
  table_begins [] h f i all = format.header h f i format.none
  table_begins (k ∷ ls) h f i all = format.skip all.0 (table_begins ls h f i all.1)

pub tables_keep : (c : Columns) (ts : List Transition) → Keeps (λ ls. Table c ls ts)
tables_keep c ts ls l h table = table_skip c l h table
