-- The text before the first comma is the name of the role there, if there is one.
use Rattle.std.proofs.Common.{◌≡◌, ◌∙◌, sym, None, rules}
use Rattle.csvw_key_records.proofs.Lines.{name_of_field}
use Rattle.csvw_key_records.proofs.reading.role_at.Goals as goal

pub returns-in_err-role : goal.returns-in_err-role
returns-in_err-role c =
    let none : c.from_residual-in_err-role.result ≡ None = search rules in
    rw none (λ role rest is.
    c.in_err-role.ensures role (name_of_field c.in_ok-name.name.now c.in_ok-name.rest.now rest role c.in_ok-name.ensures.1 (sym c.in_ok-name.ensures.0 ∙ is)))
