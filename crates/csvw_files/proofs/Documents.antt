-- A document, read piece by piece as far as it isn't too long.
use Rattle.std.proofs.Common.{◌≡◌, ◌≤◌, ℕ, List, [], ◌++◌, take, sym, ap, ◌∙◌, arith, append-nil, length, Option, None, Some}
use Rattle.std.proofs.Math.Seq.{take-length}
use Rattle.std.proofs.lemmas.List.{take-append-le, take_all}
use Rattle.std.specs.Io.KnownBytes.{Consumes, IsAtEnd}
use Rattle.csvw_streams.specs.declared.counted.Counted.{Counted}
use Rattle.csvw_streams.specs.Counted.{inner_of}
use Rattle.csvw_files.specs.Documents.{IsDocument, GaveEnd}

-- a read that gives nothing adds nothing
and_nothing : (known then now : Option (List ℕ)) (bytes : List ℕ) → Consumes known then bytes → Consumes then now [] → Consumes known now bytes
and_nothing None then now bytes h none = tt
and_nothing (Some xs) None now bytes h none = absurd h
and_nothing (Some xs) (Some ys) None bytes h none = absurd none
and_nothing (Some xs) (Some ys) (Some zs) bytes h none = h ∙ ap (λ rest. bytes ++ rest) none

-- the reader came to its end
pub read_whole : (known now : Option (List ℕ)) (bytes : List ℕ) → Consumes known now bytes → IsAtEnd now → length bytes ≤ 1_048_577 → IsDocument known bytes
read_whole None now bytes h end few = tt
read_whole (Some xs) None bytes h end few = absurd h
read_whole (Some xs) (Some rest) bytes h end few =
    let all : xs ≡ bytes = h ∙ (ap (λ zs. bytes ++ zs) end ∙ append-nil bytes) in
    sym (ap (λ zs. take 1_048_577 zs) all ∙ take_all 1_048_577 bytes few)

-- the same, where the last read reported the end
pub read_to_end :
    {R : Type 0} (remaining : R → Option (List ℕ)) (known : Option (List ℕ)) (old new : Counted R) (before after : List ℕ) →
    Consumes known (remaining (inner_of old)) before →
    length before ≤ 1_048_577 →
    GaveEnd remaining old new before after →
    IsDocument known after
read_to_end remaining known old new before after h few end =
    let now = remaining (inner_of new) in
    let same = sym end.same in
    let whole = read_whole known now before (and_nothing known (remaining (inner_of old)) now before h end.consumed) end.at_end few in
    rw same at whole

-- as much was read as shows that the document is too long
pub read_enough : (known now : Option (List ℕ)) (bytes : List ℕ) → Consumes known now bytes → length bytes ≡ 1_048_577 → IsDocument known bytes
read_enough None now bytes h many = tt
read_enough (Some xs) None bytes h many = absurd h
read_enough (Some xs) (Some rest) bytes h many =
    let few : 1_048_577 ≤ length bytes = omega (arith, many) in
    sym (ap (λ zs. take 1_048_577 zs) h ∙ (take-append-le 1_048_577 bytes rest few ∙ (ap (λ n. take n bytes) (sym many) ∙ take-length bytes)))
