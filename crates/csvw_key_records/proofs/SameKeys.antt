-- Records with the same key.
use Rattle.std.proofs.Common.{◌≡◌, Bool, true, false, ◌&&◌, refl, sym, ap₂}
use Rattle.std.specs.Prelude.{bytes_eq, nat_eq}
use Rattle.std.proofs.lemmas.Bool.Decides.{Decides-eqb}
use Rattle.std.proofs.lemmas.Slice.Eq.{bytes_eq-Decides}
use Rattle.csvw_key_records.specs.declared.record.KeyRecord.{KeyRecord}
use Rattle.csvw_key_records.specs.RecordFaults.{same_key}

pub both : (a b : Bool) → (a && b) ≡ true → (a ≡ true) × (b ≡ true)
both true b is = (refl, is)
both false b is = cc

pub and_true : (a b : Bool) → a ≡ true → b ≡ true → (a && b) ≡ true
and_true true b x y = y
and_true false b x y = cc

pub first_false : (a b : Bool) → a ≡ false → (a && b) ≡ false
first_false true b is = cc
first_false false b is = refl

pub second_false : (a b : Bool) → b ≡ false → (a && b) ≡ false
second_false true b is = is
second_false false b is = refl

pub not_both : (b : Bool) → (b ≡ true → ⊥) → b ≡ false
not_both true none = absurd (none refl)
not_both false none = refl

pub same_to : (a b : KeyRecord) → same_key a b ≡ true → (a.rule ≡ b.rule) × (a.key ≡ b.key)
same_to a b is =
    let parts = both (nat_eq a.rule b.rule) (bytes_eq a.key b.key) is in
    ((Decides-eqb a.rule b.rule).0 parts.0, (bytes_eq-Decides a.key b.key).0 parts.1)

pub same_from : (a b : KeyRecord) → a.rule ≡ b.rule → a.key ≡ b.key → same_key a b ≡ true
same_from a b rule key = and_true (nat_eq a.rule b.rule) (bytes_eq a.key b.key) ((Decides-eqb a.rule b.rule).1 rule) ((bytes_eq-Decides a.key b.key).1 key)

pub same_itself : (a : KeyRecord) → same_key a a ≡ true
same_itself a = same_from a a refl refl

pub differ_back : (a b : KeyRecord) → same_key a b ≡ false → same_key b a ≡ false
differ_back a b differ =
    not_both (same_key b a) (λ is. let parts = same_to b a is in let same = same_from a b (sym parts.0) (sym parts.1) in cc)

pub same_back : (a b : KeyRecord) → same_key a b ≡ true → same_key b a ≡ true
same_back a b is = let parts = same_to a b is in same_from b a (sym parts.0) (sym parts.1)

-- a record has the key of another exactly if it has the key of a third with that key
pub same_other : (a b c : KeyRecord) → same_key a b ≡ true → same_key b c ≡ same_key a c
same_other a b c is =
    let parts = same_to a b is in
    ap₂ (λ rule key. nat_eq rule c.rule && bytes_eq key c.key) (sym parts.0) (sym parts.1)
