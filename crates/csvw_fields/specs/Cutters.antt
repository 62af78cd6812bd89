-- The state of a `Cutter`.
use Rattle.std.specs.Prelude.{◌≡◌, ℕ, List, Some}
use Rattle.csvw_records.specs.declared.dialect.Dialect.{Dialect}
use Rattle.csvw_fields.specs.declared.cut.Symbols.{Symbols}
use Rattle.csvw_fields.specs.declared.cutter.Cutter.{Cutter}
use Rattle.csvw_fields.specs.declared.rules.Rules.{Rules}

abbrev pub dialect_of : Cutter → Dialect
dialect_of c = c.dialect.now

abbrev pub symbols_of : Cutter → Symbols
symbols_of c = c.symbols

abbrev pub text_of : Cutter → List ℕ
text_of c = c.text.now

-- it cuts a text by these rules
pub record IsCutterOf (rules : Rules) (bytes : List ℕ) (c : Cutter) : Type 0 where
  pub dialect : dialect_of c ≡ rules.dialect
  pub symbols : rules.symbols ≡ Some (symbols_of c)
  pub text : text_of c ≡ bytes
