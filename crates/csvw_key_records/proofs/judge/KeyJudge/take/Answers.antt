-- The line is above the last one, and it is the first of its row.
use Rattle.std.proofs.Common.{◌≡◌, ◌∙◌, ◌++◌, ℕ, List, false, ap, ap₂, sym, subst}
use Rattle.std.specs.Cmp.Lexicographic.{slice_cmp}
use Rattle.std.specs.Ordering.{nat_cmp}
use Rattle.csvw_key_records.specs.Groups.{after, certain, repeats}
use Rattle.csvw_key_records.specs.Judging.{BreaksOrder}
use Rattle.csvw_key_records.specs.Records.{line_of}
use Rattle.csvw_key_records.proofs.Taking.{disorder_is, repeated, taken}
use Rattle.csvw_key_records.proofs.judge.KeyJudge.take.Goals as goal

pub returns-clause-ok : goal.returns-clause-ok
returns-clause-ok c = λ r records faults fits is holds.
    let group = c.group_at-group.result in
    let below = ap (slice_cmp nat_cmp c.args.self.now.last.items) (sym is.text) ∙ c.in_default.ensures in
    let known = c.group_at-group.ensures r records faults fits is.front below holds in
    let apart : repeats group r.role r.place ≡ false = ap₂ (repeats group) (sym is.role) (sym is.place) ∙ (sym c.repeats.ensures ∙ c.if-repeats.false) in
    let last : c.extend_from_slice.new.self.items ≡ line_of r =
    c.in_default-extend_from_slice.ensures.items ∙ (ap (λ xs. xs ++ c.args.line.text.now) c.clear.ensures.items ∙ is.text) in
    let next : c.after-self.result ≡ after group r.role r.place = c.after-self.ensures ∙ ap₂ (after group) is.role is.place in
    let fault : c.certain.result ≡ certain group r.role r.place = c.certain.ensures ∙ ap₂ (certain group) is.role is.place in
    rw fault (taken c.args.self.now record { last = c.extend_from_slice.new.self; group = c.after-self.result } r records faults group fits holds below known apart last next)

pub returns-in-Some-clause-disorder : goal.returns-in-Some-clause-disorder
returns-in-Some-clause-disorder c = λ r records faults fits is holds.
    disorder_is c.args.self.now.last.items r records c.in-Some.disorder holds.is_last
    (subst (λ (t : List ℕ). BreaksOrder c.args.self.now.last.items t c.in-Some.disorder) is.text c.in-Some.ensures)

pub returns-then-repeats-clause-disorder : goal.returns-then-repeats-clause-disorder
returns-then-repeats-clause-disorder c = λ r records faults fits is holds.
    let group = c.group_at-group.result in
    let below = ap (slice_cmp nat_cmp c.args.self.now.last.items) (sym is.text) ∙ c.in_default.ensures in
    let known = c.group_at-group.ensures r records faults fits is.front below holds in
    repeated group r records known (ap₂ (repeats group) (sym is.role) (sym is.place) ∙ (sym c.repeats.ensures ∙ c.if-repeats.true))
