-- Parts of dialects that have at most one fault (Metadata Vocabulary for Tabular Data, section 5.9).
use Rattle.std.specs.Prelude.{ℕ, ◌==◌, ◌||◌, List, [], ◌∷◌, true, false, Option, Some, None, nat_lt, length, bytes_eq, chars, if◌then◌else◌}
use Rattle.std.proofs.Common.{refl}
use Rattle.serde_json.specs.Data.{Data, null, boolean, number, string, array, object}
use Rattle.serde_json.specs.Find.{as_str}
use Rattle.csvw_records.specs.declared.dialect.LineTerminators.{LineTerminators}
use Rattle.csvw_records.specs.declared.dialect.Trim.{Trim}
use Rattle.csvw_records.specs.Lawful.{has_break}
use Rattle.csvw_meta_core.specs.declared.fault.MetaCode.{MetaCode}
use Rattle.csvw_meta_core.specs.declared.fault.MetaCode.TheVariants.{BadDialect, BadProperty, NotSupported}
use Rattle.csvw_meta_core.specs.declared.fault.MetaFault.{MetaFault}
use Rattle.csvw_meta_core.specs.Kinds.{character}
use Rattle.csvw_meta_core.specs.Read.{Read, fine, faulty, over_faults}
use Rattle.csvw_meta_dialect.specs.declared.dialect.TheConstants.{MAX_PREFIX}
use Rattle.csvw_meta_dialect.specs.Dialect.{is_break_char, mark, comment_prefix, trim_named, trim_found, trim, is_utf8_name, encoding, neither, terminator}
use Rattle.csvw_meta_faults_core.specs.Sole.{AtMostOne, of_kind, of_test, character_has_one}
use Rattle.csvw_meta_faults_core.specs.StandsIn.{StandsIn, over_stands, test_stands}

of_over : {A B : Type 0} (dummy : B) (fs : List MetaFault) (a : A) (next : A → Read B) → AtMostOne fs → ((x : A) → AtMostOne (next x).faults)
    → AtMostOne (over_faults dummy fs a next).faults
of_over dummy [] a next one rest = rest a
of_over dummy (f ∷ fs) a next one rest = one

pub mark_has_one : (several : MetaCode) (at : List ℕ) (d : Data) → AtMostOne (mark several at d).faults
mark_has_one several at d =
    let r = character several at d in
    let next : ℕ → Read ℕ = λ c. if is_break_char c then faulty BadDialect at 0 else fine c in
    of_over 0 r.faults r.value next (character_has_one several at d) (λ c. of_test (is_break_char c) (faulty BadDialect at 0) (fine c) tt tt)

pub comment_prefix_has_one : (at : List ℕ) (d : Data) → AtMostOne (comment_prefix at d).faults
comment_prefix_has_one at d =
    let whole : List ℕ → Read (List ℕ) = λ s. if has_break (chars s) then faulty BadDialect at [] else fine s in
    of_kind BadProperty at d [] (as_str d)
    (λ s. if (length s == 0) || nat_lt MAX_PREFIX (length s) then faulty BadProperty at [] else whole s)
    (λ s. of_test ((length s == 0) || nat_lt MAX_PREFIX (length s)) (faulty BadProperty at []) (whole s) tt
    (of_test (has_break (chars s)) (faulty BadDialect at []) (fine s) tt tt))

of_trim : (at : List ℕ) (o : Option Trim) → AtMostOne (trim_found at o).faults
of_trim at None = tt
of_trim at (Some t) = tt

pub trim_has_one : (at : List ℕ) (d : Data) → AtMostOne (trim at d).faults
trim_has_one at (boolean b) = tt
trim_has_one at (string s) = of_trim at (trim_named s)
trim_has_one at null = tt
trim_has_one at (number n) = tt
trim_has_one at (array ds) = tt
trim_has_one at (object ms) = tt

pub encoding_has_one : (at : List ℕ) (d : Data) → AtMostOne (encoding at d).faults
encoding_has_one at d =
    of_kind BadProperty at d tt (as_str d) (λ s. if is_utf8_name s then fine tt else faulty NotSupported at tt)
    (λ s. of_test (is_utf8_name s) (fine tt) (faulty NotSupported at tt) tt tt)

pub terminator_has_one : (at : List ℕ) (d : Data) → AtMostOne (terminator at d).faults
terminator_has_one at d =
    let crlf : LineTerminators = record { crlf = true; lf = false } in
    let lf : LineTerminators = record { crlf = false; lf = true } in
    let shorter : List ℕ → Read LineTerminators = λ s. if bytes_eq s (10 ∷ []) then fine lf else faulty NotSupported at neither in
    of_kind BadProperty at d neither (as_str d) (λ s. if bytes_eq s (13 ∷ 10 ∷ []) then fine crlf else shorter s)
    (λ s. of_test (bytes_eq s (13 ∷ 10 ∷ [])) (fine crlf) (shorter s) tt
    (of_test (bytes_eq s (10 ∷ [])) (fine lf) (faulty NotSupported at neither) tt tt))

-- ---- the value in place of one that can't be read

pub mark_stands_in : (several : MetaCode) (at : List ℕ) (d : Data) → StandsIn 0 (mark several at d)
mark_stands_in several at d =
    let r = character several at d in
    let next : ℕ → Read ℕ = λ c. if is_break_char c then faulty BadDialect at 0 else fine c in
    over_stands 0 r.faults r.value next (λ c. test_stands 0 (is_break_char c) (faulty BadDialect at 0) (fine c) refl tt)
