-- The lines of records can be read in one way.
use Rattle.std.proofs.Common.{◌≡◌, ℕ, List, [], ◌∷◌, ◌++◌, flat_map, length, refl, sym, ap, ap₂, ◌∙◌, append_assoc, length-append, arith}
use Rattle.std.proofs.lemmas.List.Elements.{All-head, All-tail}
use Rattle.csvw_key_records.specs.declared.record.KeyRecord.{KeyRecord}
use Rattle.csvw_key_records.specs.RecordLaws.{LinesAreUnique}
use Rattle.csvw_key_records.specs.Records.{Fits, front_of, line_of, tail_of}
use Rattle.csvw_key_records.proofs.Orders.{front_unique, line_front, tail_unique}
use Rattle.csvw_key_records.proofs.Taking.{line_some}

same_record : (p q : KeyRecord) → p.rule ≡ q.rule → p.key ≡ q.key → p.role ≡ q.role → p.place ≡ q.place → p ≡ q
same_record p q a b c d =
    ap (λ x. record p { rule = x }) a ∙ ap (λ x. record p { rule = q.rule; key = x }) b
    ∙ ap (λ x. record p { rule = q.rule; key = q.key; role = x }) c
    ∙ ap (λ x. record p { rule = q.rule; key = q.key; role = q.role; place = x }) d

pub line_unique : (p q : KeyRecord) (x y : List ℕ) → Fits p → Fits q → line_of p ++ x ≡ line_of q ++ y → (p ≡ q) × (x ≡ y)
line_unique p q x y f g is =
    let first : line_of p ++ x ≡ front_of p ++ (tail_of p ++ x) = ap (λ t. t ++ x) (line_front p) ∙ append_assoc (front_of p) (tail_of p) x in
    let second : line_of q ++ y ≡ front_of q ++ (tail_of q ++ y) = ap (λ t. t ++ y) (line_front q) ∙ append_assoc (front_of q) (tail_of q) y in
    let fronts = front_unique p.rule q.rule p.key q.key (tail_of p ++ x) (tail_of q ++ y) f.front g.front (sym first ∙ is ∙ second) in
    let tails = tail_unique p.role q.role p.place q.place x y f.place g.place fronts.2 in
    (same_record p q fronts.0 fronts.1 tails.0 tails.1, tails.2)

pub no_line : (p : KeyRecord) (x : List ℕ) → line_of p ++ x ≡ [] → ⊥
no_line p x none =
    let some = line_some p in
    let all = length-append (line_of p) x in
    let long = ap length none in
    omega arith

pub unique : LinesAreUnique
unique [] [] f g is = refl
unique [] (q ∷ qs) f g is = absurd (no_line q (flat_map line_of qs) (sym is))
unique (p ∷ ps) [] f g is = absurd (no_line p (flat_map line_of ps) is)
unique (p ∷ ps) (q ∷ qs) f g is =
    let one = line_unique p q (flat_map line_of ps) (flat_map line_of qs) (All-head Fits p ps f) (All-head Fits q qs g) is in
    ap₂ (λ x xs. x ∷ xs) one.0 (unique ps qs (All-tail Fits p ps f) (All-tail Fits q qs g) one.1)
