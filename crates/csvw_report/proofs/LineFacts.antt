-- The record of a fault is its line: none of its fields needs quotes.
use Rattle.std.proofs.Common.{◌≡◌, ℕ, ◌+◌, ◌%◌, ◌<◌, ◌^◌, List, [], ◌∷◌, ◌++◌, false, refl, arith, append_assoc}
use Rattle.std.proofs.lemmas.Bool.{ne_eqb}
use Rattle.std.proofs.lemmas.Fmt.{decimal_by_steps}
use Rattle.std.proofs.lemmas.List.Folds.{list_any-append}
use Rattle.std.specs.Prelude.{codes, decimal, ◌==◌}
use Rattle.csv.specs.Writing.{default_writer, field_text, fields_text, is_blank, needs_byte, needs_quotes, row_text}
use Rattle.csv.specs.declared.writer.WriterBuilder.{WriterBuilder}
use Rattle.csvw_fault.specs.declared.fault.Code.{Code}
use Rattle.csvw_fault.specs.declared.fault.Code.TheVariants.{UnknownProperty, HeaderMissing, HeaderCount, HeaderMismatch, Required, BadBoolean}
use Rattle.csvw_fault.specs.declared.fault.Code.TheVariants.{BadInteger, BadDecimal, NumberTooLong, OutOfRange, BadDate, BadDateTime, BadDouble, WrongLength}
use Rattle.csvw_fault.specs.declared.fault.Code.TheVariants.{BadTime, BadText, BadDuration, TooShort, TooLong, BelowMinimum, AboveMaximum, BadUrl, UrlTooLong, DuplicateKey}
use Rattle.csvw_fault.specs.declared.fault.Code.TheVariants.{NoReferencedRow, ManyReferencedRows}
use Rattle.csvw_fault.specs.declared.fault.Fault.{Fault}
use Rattle.csvw_fault.specs.declared.fault.Kind.{Kind}
use Rattle.csvw_fault.specs.declared.fault.Kind.TheVariants.{Error, Warning}
use Rattle.csvw_fault.specs.Code.{name_of}
use Rattle.csvw_report.specs.Report.{kind_name, line}

-- no byte of the text calls for quotes
abbrev IsPlain : List ℕ → Type 0
IsPlain text = needs_quotes default_writer text ≡ false

plain-kind : (kind : Kind) → IsPlain (kind_name kind)
plain-kind Error = refl
plain-kind Warning = refl

plain-code : (code : Code) → IsPlain (name_of code)
plain-code UnknownProperty = refl
plain-code HeaderMissing = refl
plain-code HeaderCount = refl
plain-code HeaderMismatch = refl
plain-code Required = refl
plain-code BadBoolean = refl
plain-code BadInteger = refl
plain-code BadDecimal = refl
plain-code NumberTooLong = refl
plain-code OutOfRange = refl
plain-code BadDate = refl
plain-code BadDateTime = refl
plain-code BadDouble = refl
plain-code BadTime = refl
plain-code BadText = refl
plain-code BadDuration = refl
plain-code WrongLength = refl
plain-code TooShort = refl
plain-code TooLong = refl
plain-code BelowMinimum = refl
plain-code AboveMaximum = refl
plain-code BadUrl = refl
plain-code UrlTooLong = refl
plain-code DuplicateKey = refl
plain-code NoReferencedRow = refl
plain-code ManyReferencedRows = refl

-- a digit calls for none
plain-byte : (b : ℕ) → 47 < b → needs_byte default_writer b ≡ false
plain-byte b above =
    let comma : (b == 44) ≡ false = ne_eqb b 44 (λ e. omega (arith, e)) in
    let quote : (b == 34) ≡ false = ne_eqb b 34 (λ e. omega (arith, e)) in
    let feed : (b == 10) ≡ false = ne_eqb b 10 (λ e. omega (arith, e)) in
    let return : (b == 13) ≡ false = ne_eqb b 13 (λ e. omega (arith, e)) in
    rw (comma, quote, return, feed) refl

plain-digit : (d : ℕ) → IsPlain ((48 + d) ∷ [])
plain-digit d = rw (plain-byte (48 + d) (omega arith)) refl

plain-more : (text : List ℕ) (d : ℕ) → IsPlain text → IsPlain (text ++ ((48 + d) ∷ []))
plain-more text d plain = rw (list_any-append (needs_byte default_writer) text ((48 + d) ∷ []), plain) (plain-digit d)

plain-decimal : (n : ℕ) → n < 2 ^ 64 → IsPlain (decimal n)
plain-decimal n fits = decimal_by_steps (λ m text. IsPlain text) (λ m small. plain-digit m) (λ m text large plain. plain-more text (m % 10) plain) n fits

field-plain : (text : List ℕ) → IsPlain text → field_text default_writer text ≡ text
field-plain text plain = rw plain refl

row-plain : (a b c d e : List ℕ) → IsPlain a → IsPlain b → IsPlain c → IsPlain d → IsPlain e
    → row_text default_writer (a ∷ b ∷ c ∷ d ∷ e ∷ []) ≡ a ++ codes "," ++ b ++ codes "," ++ c ++ codes "," ++ d ++ codes "," ++ e ++ codes "\n"
unfolding fields_text is_blank
row-plain a b c d e p q r s t =
    rw (p, q, r, s, t) (simp append_assoc)

-- the record of these fields of a fault
pub row-line : (fault : Fault) (cfg : WriterBuilder) (a b c d e : List ℕ) → cfg ≡ default_writer
    → fault.place.table < 2 ^ 64 → fault.place.row < 2 ^ 64 → fault.place.column < 2 ^ 64
    → a ≡ kind_name fault.kind → b ≡ name_of fault.code → c ≡ decimal fault.place.table → d ≡ decimal fault.place.row → e ≡ decimal fault.place.column
    → row_text cfg (a ∷ b ∷ c ∷ d ∷ e ∷ []) ≡ line fault
unfolding line
row-line fault cfg a b c d e setup t r n p q u v w =
    rw (setup, p, q, u, v, w) (row-plain _ _ _ _ _ (plain-kind fault.kind) (plain-code fault.code) (plain-decimal _ t) (plain-decimal _ r) (plain-decimal _ n))
