-- A line that is that of a record begins with its front, and what follows is its rest.
use Rattle.std.proofs.Common.{◌≡◌, ◌∙◌, ◌-◌, ◌++◌, [], ap, sym, refl, take, None, rules, arith, append-nil, length, length-append}
use Rattle.std.proofs.lemmas.List.{take_at}
use Rattle.csvw_key_records.specs.declared.record.KeyRecord.{KeyRecord}
use Rattle.csvw_key_records.specs.Records.{front_of, line_of, tail_of}
use Rattle.csvw_key_records.proofs.Empty.{empty, not_empty}
use Rattle.csvw_key_records.proofs.Orders.{front_unique, line_front, tail_unique}
use Rattle.csvw_key_records.proofs.reading.line_at.Goals as goal

pub returns-in_err-_rule : goal.returns-in_err-_rule
returns-in_err-_rule c =
    let none : c.from_residual.result ≡ None = search rules in
    rw none (λ r fits is. c.in_err-_rule.ensures r.rule r.key (tail_of r) fits.front (is ∙ line_front r))

pub returns-in_err-role : goal.returns-in_err-role
returns-in_err-role c =
    let none : c.from_residual-in_err-role.result ≡ None = search rules in
    rw none (λ r fits is.
    let same = front_unique c.in_ok-_rule._rule r.rule c.in_ok-_rule._key.now r.key c.in_ok-_rule.tail.now (tail_of r) c.in_ok-_rule.ensures.1 fits.front
    (sym c.in_ok-_rule.ensures.0 ∙ (is ∙ line_front r)) in
    c.in_err-role.ensures r.role r.place [] fits.place (same.2 ∙ sym (append-nil (tail_of r))))

pub returns-then-not-is_empty : goal.returns-then-not-is_empty
returns-then-not-is_empty c = λ r fits is.
    let same = front_unique c.in_ok-_rule._rule r.rule c.in_ok-_rule._key.now r.key c.in_ok-_rule.tail.now (tail_of r) c.in_ok-_rule.ensures.1 fits.front
    (sym c.in_ok-_rule.ensures.0 ∙ (is ∙ line_front r)) in
    let tails = tail_unique c.in_ok-role.role r.role c.in_ok-role.place r.place c.in_ok-role.after.now [] c.in_ok-role.ensures.1 fits.place
    (sym c.in_ok-role.ensures.0 ∙ (same.2 ∙ sym (append-nil (tail_of r)))) in
    not_empty c.in_ok-role.after.now c.is_empty.result c.is_empty.ensures c.if-not-is_empty.true tails.2

pub returns : goal.returns
returns c =
    let r : KeyRecord = record { rule = c.in_ok-_rule._rule; key = c.in_ok-_rule._key.now; role = c.in_ok-role.role; place = c.in_ok-role.place } in
    let none = empty c.in_ok-role.after.now c.is_empty.result c.is_empty.ensures c.if-not-is_empty.false in
    let rest : c.in_ok-_rule.tail.now ≡ tail_of r =
    c.in_ok-role.ensures.0 ∙ (ap (λ xs. tail_of r ++ xs) none ∙ append-nil (tail_of r)) in
    let text : c.args.text.now ≡ line_of r = c.in_ok-_rule.ensures.0 ∙ (ap (λ xs. front_of r ++ xs) rest ∙ sym (line_front r)) in
    let long : length c.args.text.now - length c.in_ok-_rule.tail.now ≡ length (front_of r) =
    ap (λ xs. length xs - length c.in_ok-_rule.tail.now) c.in_ok-_rule.ensures.0
    ∙ (ap (λ n. n - length c.in_ok-_rule.tail.now) (length-append (front_of r) c.in_ok-_rule.tail.now) ∙ omega arith) in
    let cut : take (length c.args.text.now - length c.in_ok-_rule.tail.now) c.args.text.now ≡ front_of r =
    ap (λ n. take n c.args.text.now) long
    ∙ (ap (take (length (front_of r))) c.in_ok-_rule.ensures.0 ∙ take_at (front_of r) c.in_ok-_rule.tail.now (length (front_of r)) refl) in
    (refl, r, record { front = c.in_ok-_rule.ensures.1; place = c.in_ok-role.ensures.1 }, record { text = text; front = cut; role = refl; place = refl })
