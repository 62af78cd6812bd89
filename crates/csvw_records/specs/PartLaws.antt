-- Laws of a part of a text in which no row ends: it begins a row, or a rule is broken in it.
use Rattle.std.specs.Prelude.{◌≡◌, ℕ, ◌<◌, true, false, List, [], length, drop, None}
use Rattle.csvw_records.specs.declared.dialect.Dialect.{Dialect}
use Rattle.csvw_records.specs.Lawful.{IsLawful}
use Rattle.csvw_records.specs.declared.scan.State.{State}
use Rattle.csvw_records.specs.declared.scan.State.TheVariants.{Start}
use Rattle.csvw_records.specs.declared.stop.RowStop.{RowStop}
use Rattle.csvw_records.specs.declared.stop.RowStop.TheVariants.{UnclosedQuote}
use Rattle.csvw_records.specs.AtFront.{IsShown, IsWrong}
use Rattle.csvw_records.specs.Files.{is_ignored}
use Rattle.csvw_records.specs.NextRow.{settled, line_of, may_be_comment}
use Rattle.csvw_records.specs.PartOfRow.{Continues}
use Rattle.csvw_records.specs.Scan.{Broken, Unfinished, run, is_quoted}

pub record PartLaws : Type 0 where
  -- a part begins a comment, if it may become one or is one without its end
  pub continues_maybe : (d : Dialect) (i : ℕ) (part : List ℕ) → IsLawful d → is_ignored d i part ≡ false → may_be_comment d part ≡ true
      → Continues d i part (length part)
  pub continues_ignored : (d : Dialect) (i : ℕ) (part : List ℕ) → IsLawful d → is_ignored d i part ≡ true → line_of false d (settled d part) ≡ None
      → Continues d i part (length (settled d part))
  -- it begins a row if a pass over it isn't finished
  pub continues_quoted : (d : Dialect) (i : ℕ) (part : List ℕ) (st : State) (vs : List (List ℕ)) (cur : List ℕ) → IsLawful d → is_ignored d i part ≡ false
      → may_be_comment d part ≡ false
      → run d Start [] [] (settled d part) ≡ Unfinished st vs cur → is_quoted st ≡ true → Continues d i part (length part)
  pub continues_unquoted : (d : Dialect) (i : ℕ) (part : List ℕ) (st : State) (vs : List (List ℕ)) (cur : List ℕ) → IsLawful d
      → is_ignored d i part ≡ false → may_be_comment d part ≡ false
      → run d Start [] [] (settled d part) ≡ Unfinished st vs cur → is_quoted st ≡ false → Continues d i part (length (settled d part))
  -- a rule that a pass finds broken is broken, as these characters show, in the last text and in one that more text follows
  pub wrong_whole : (d : Dialect) (i : ℕ) (text : List ℕ) (stop : RowStop) (at : ℕ) → is_ignored d i text ≡ false
      → run d Start [] [] text ≡ Broken stop (drop at text) → at < length text
      → (len : ℕ) → IsShown d text at len → IsWrong true d i text len stop
  pub wrong_part : (d : Dialect) (i : ℕ) (text : List ℕ) (stop : RowStop) (at : ℕ) → is_ignored d i text ≡ false
      → run d Start [] [] text ≡ Broken stop (drop at text) → at < length text
      → (len : ℕ) → IsShown d text at len → may_be_comment d text ≡ false → at < length (settled d text) → IsWrong false d i text len stop
  -- a quote that isn't closed when the text has ended
  pub left_open : (d : Dialect) (i : ℕ) (text : List ℕ) (st : State) (vs : List (List ℕ)) (cur : List ℕ) → is_ignored d i text ≡ false
      → run d Start [] [] text ≡ Unfinished st vs cur → is_quoted st ≡ true
      → IsWrong true d i text (length text) UnclosedQuote
