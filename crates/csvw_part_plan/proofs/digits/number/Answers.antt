-- The digits before the first end are those of the number, if there is one: so they are text, can be parsed, and are written again.
use Rattle.std.proofs.Common.{◌≡◌, sym, ◌∙◌, subst, true, false, ap, not}
use Rattle.std.specs.Str.{IsUtf8}
use Rattle.std.proofs.lemmas.Fmt.{IsAscii-decimal, parse-decimal}
use Rattle.std.proofs.lemmas.Slice.Eq.{bytes_eq-Decides}
use Rattle.std.proofs.lemmas.Str.{IsUtf8-from_ascii}
use Rattle.csvw_part_plan.proofs.Cells.{digits_of_cell}
use Rattle.csvw_part_plan.proofs.digits.number.Goals as goal

pub returns-in_default : goal.returns-in_default
returns-in_default c = λ n rest small is.
    let digits = digits_of_cell n c.args.end _ _ rest c.requires small c.in_ok-digits.ensures.1 (sym c.in_ok-digits.ensures.0 ∙ is) in
    c.in_default.ensures.cases.0 (subst IsUtf8 (sym digits) (IsUtf8-from_ascii _ (IsAscii-decimal n small)))

pub returns-in_default-parse : goal.returns-in_default-parse
returns-in_default-parse c = λ n rest small is.
    let digits = digits_of_cell n c.args.end _ _ rest c.requires small c.in_ok-digits.ensures.1 (sym c.in_ok-digits.ensures.0 ∙ is) in
    let same = c.in-Ok.ensures.cases.0 in
    let parsed = parse-decimal 64 n c.in-Ok.digits.now _ small small (same ∙ digits) c.parse.ensures.value.0 in cc

pub returns-then-ne : goal.returns-then-ne
returns-then-ne c = λ n rest small is.
    let digits = digits_of_cell n c.args.end _ _ rest c.requires small c.in_ok-digits.ensures.1 (sym c.in_ok-digits.ensures.0 ∙ is) in
    let same = c.in-Ok.ensures.cases.0 in
    let parsed = parse-decimal 64 n c.in-Ok.digits.now _ small small (same ∙ digits) c.parse.ensures.value.0 in
    let number : c.in-Ok-parse.number ≡ n = cc in
    let text : c.format.result.now ≡ c.in-Ok.digits.now = c.format.ensures.text ∙ (rw number (sym (same ∙ digits))) in
    let yes = (bytes_eq-Decides c.format.result.now c.in-Ok.digits.now).1 text in
    let no : true ≡ false = c.if-ne.ensures ∙ ap not yes in cc
