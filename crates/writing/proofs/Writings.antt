-- A text is read as a station exactly when it is a writing of it.
use Rattle.std.proofs.Common.{◌≡◌, ℕ, Bool, true, false, cond, List, ◌++◌, length, Some, None, Ok, Err, Option, Result, sym, refl, ap, ◌∙◌, subst, arith}
use Rattle.std.proofs.lemmas.Bool.{cond-false}
use Rattle.text.specs.Ahead.{ends, tokens_from}
use Rattle.rows.specs.declared.faults.ReadingFault.{ReadingFault}
use Rattle.rows.specs.declared.faults.ReadingFault.TheVariants.{Size, Row, Undeclared, Incomplete, Memory}
use Rattle.rows.specs.Faults.{code}
use Rattle.sheets.specs.Layout.{Sofar}
use Rattle.sheets.specs.Outcomes.{Outcome, done, refused, Refused}
use Rattle.sheets.specs.Sections.{sheet}
use Rattle.naming.specs.Index.{index_of}
use Rattle.naming.specs.Unknown.{first_unknown}
use Rattle.naming.specs.Missing.{incomplete}
use Rattle.station.specs.Station.{Station}
use Rattle.reading.specs.Reading.{judged_by, judged, reading, Settles}
use Rattle.reading.specs.Tables.{tables_of}
use Rattle.writing.specs.Marks.{Spelt}
use Rattle.writing.specs.Spelling.{whole as spelling}
use Rattle.writing.specs.Written.{Written, ReadingLaw, WhereRead, ReadsAs}
use Rattle.writing.proofs.Counts.{spelt_whole}
use Rattle.writing.proofs.Parts.{tokens_law}
use Rattle.writing.proofs.Sheets.{Rows, sheet_sound, sheet_is}

-- rows that make a station use no undeclared name and lack no row
abbrev Makes : Sofar → Station → Type 0
Makes rows s = (first_unknown (index_of rows) rows ≡ None) × (incomplete rows ≡ false) × (s ≡ tables_of rows)

-- no row is missing
complete_by : (n : ℕ) (rows : Sofar) (s : Station) (b : Bool) → incomplete rows ≡ b → cond b (refused 7 n) (done (tables_of rows)) ≡ done s → (incomplete rows ≡ false) × (s ≡ tables_of rows)
complete_by n rows s true i e = let z : ◌≡◌ {A = ℕ} 0 1 = cc in absurd (omega arith)
complete_by n rows s false i e = let f : tables_of rows ≡ s = cc in (i, sym f)

-- no name is undeclared
declared_by : (n : ℕ) (rows : Sofar) (s : Station) (q : Option ℕ) → first_unknown (index_of rows) rows ≡ q → judged_by n rows q ≡ done s → Makes rows s
declared_by n rows s (Some i) u e = let z : ◌≡◌ {A = ℕ} 0 1 = cc in absurd (omega arith)
declared_by n rows s None u e = let p = complete_by n rows s _ refl e in (u, p.0, p.1)

-- a station comes of rows
judged_sound : (n : ℕ) (o : Outcome Sofar) (s : Station) → judged n o ≡ done s → (rows : Sofar) × (o ≡ done rows) × Makes rows s
judged_sound n (refused m i) s e = let z : ◌≡◌ {A = ℕ} 0 1 = cc in absurd (omega arith)
judged_sound n (done rows) s e = (rows, refl, declared_by n rows s _ refl e)

-- and rows that make it are judged so
judged_is : (n : ℕ) (rows : Sofar) (s : Station) → Makes rows s → judged n (done rows) ≡ done s
judged_is n rows s m =
    ap (judged_by n rows) m.0 ∙ cond-false (incomplete rows) (refused 7 n) (done (tables_of rows)) m.1 ∙ ap done (sym m.2)

module _ (t : List ℕ) (s : Station) where
  -- what is read is written
  read_written : reading t ≡ done s → Written t s
  read_written e =
      let p = judged_sound (length t) (sheet t) s e in
      let r = sheet_sound t p.0 p.1 in
      let m : Makes (r.layout ++ r.rest) s = subst (λ rows. Makes rows s) r.all_of p.2 in
      record {
        tokens = tokens_from t 0;
        layout = r.layout;
        data_rows = r.rest;
        few = r.few;
        set = (tokens_law t (tokens_from t 0)).0 refl (spelt_whole (spelling r.layout r.rest) (tokens_from t 0) (length t) r.spelt);
        spelt = r.spelt;
        laid = r.laid;
        listed = r.listed;
        declared = m.0;
        complete = m.1;
        says = m.2;
      }

  -- what is written is read
  written_read : Written t s → reading t ≡ done s
  written_read w =
      let all : Sofar = w.layout ++ w.data_rows in
      let r : Rows t all = record { layout = w.layout; rest = w.data_rows; few = w.few; spelt = subst (λ ts. Spelt (spelling w.layout w.data_rows) ts (ends (length t))) (sym ((tokens_law t w.tokens).1 w.set)) w.spelt; laid = w.laid; listed = w.listed; all_of = refl } in
      ap (judged (length t)) (sheet_is t all r) ∙ judged_is (length t) all s (w.declared, w.complete, w.says)

  -- the law of reading
  pub reading_law : ReadingLaw t s
  reading_law = (read_written, written_read)

-- only want of memory refuses what is read
only_memory : (e : ReadingFault) (t : List ℕ) (u : Station) → Refused (code e) (reading t) → reading t ≡ done u → e ≡ Memory
only_memory Size t u r d = let z : ◌≡◌ {A = ℕ} 0 1 = cc in absurd (omega arith)
only_memory (Row f) t u r d = let z : ◌≡◌ {A = ℕ} 0 1 = cc in absurd (omega arith)
only_memory (Undeclared i) t u r d = let z : ◌≡◌ {A = ℕ} 0 1 = cc in absurd (omega arith)
only_memory (Incomplete i) t u r d = let z : ◌≡◌ {A = ℕ} 0 1 = cc in absurd (omega arith)
only_memory Memory t u r d = refl

module _ {X : Type 0} where
  -- what is read is a writing
  pub written : (r : Result X ReadingFault) (t : List ℕ) (s : Station) → Settles r s (reading t) → WhereRead r (Written t s)
  written (Ok x) t s e = (reading_law t s).0 (sym e)
  written (Err f) t s e = tt

  -- every writing is read, unless memory is wanting
  pub whole : (r : Result X ReadingFault) (t : List ℕ) (s : Station) → Settles r s (reading t) → (u : Station) → Written t u → ReadsAs r s u
  whole (Ok x) t s e u w = let d = (reading_law t u).1 w in cc
  whole (Err f) t s e u w = only_memory f t u e.1 ((reading_law t u).1 w)
