-- The text that is lent as the lexical form of a value (XML Schema Part 2, section 3).
use Rattle.std.specs.Prelude.{ℕ, List}
use Rattle.csvw_datatype.specs.declared.value.Value.{Value}
use Rattle.csvw_datatype.specs.declared.value.Value.TheVariants as values

-- the text that the value is, else this form
abbrev pub spelled : Value → List ℕ → List ℕ
spelled (values.Text text) form = text
spelled (values.Truth b) form = form
spelled (values.Number z) form = form
spelled (values.Day day) form = form
spelled (values.Moment moment) form = form
