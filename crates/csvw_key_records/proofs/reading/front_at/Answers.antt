-- A text that begins with the front of a line begins with its rule; what follows that begins with its key and a comma.
use Rattle.std.proofs.Common.{◌≡◌, ◌∙◌, ap, sym, subst, None, rules, lit<}
use Rattle.csvw_key_records.specs.Records.{cell}
use Rattle.csvw_key_records.proofs.Cells.{IsWithout, first_unique, peel, wider}
use Rattle.csvw_key_records.proofs.Lines.{front-cells, has_end}
use Rattle.csvw_key_records.proofs.reading.front_at.Goals as goal

pub returns-in_err-rule : goal.returns-in_err-rule
returns-in_err-rule c =
    let none : c.from_residual.result ≡ None = search rules in
    rw none (λ rule key rest fits is. c.in_err-rule.ensures rule _ fits.fits (is ∙ front-cells rule key rest))

pub returns-in_err-key : goal.returns-in_err-key
returns-in_err-key c =
    let none : c.from_residual-in_err-key.result ≡ None = search rules in
    rw none (λ rule key rest fits is.
    let t1 = peel 44 c.in_ok-rule.rule rule _ _ _ (lit< tt) (wider _ c.in_ok-rule.ensures.1) (wider _ fits.fits) c.in_ok-rule.ensures.0 (is ∙ front-cells rule key rest) in
    has_end 44 key rest (subst (IsWithout 44) t1 c.in_err-key.ensures))

pub returns-in-Some : goal.returns-in-Some
returns-in-Some c = λ rule key rest fits is.
    let t1 = peel 44 c.in_ok-rule.rule rule _ _ _ (lit< tt) (wider _ c.in_ok-rule.ensures.1) (wider _ fits.fits) c.in_ok-rule.ensures.0 (is ∙ front-cells rule key rest) in
    let same = first_unique 44 c.in_ok-key.key.now key c.in_ok-key.rest.now rest c.in_ok-key.ensures.1 fits.is_key.comma (sym c.in_ok-key.ensures.0 ∙ t1) in
    has_end 10 c.in-Some.field-0.0.now c.in-Some.field-0.1.now (subst (IsWithout 10) (sym same.0 ∙ c.in-Some.ensures.0) fits.is_key.line_feed)

pub returns-in-None : goal.returns-in-None
returns-in-None c = (
  c.in_ok-rule.ensures.0 ∙ (ap (cell c.in_ok-rule.rule 44) c.in_ok-key.ensures.0 ∙ sym (front-cells c.in_ok-rule.rule c.in_ok-key.key.now c.in_ok-key.rest.now)),
  record { fits = c.in_ok-rule.ensures.1; is_key = record { comma = c.in_ok-key.ensures.1; line_feed = c.in-None.ensures } },
)
