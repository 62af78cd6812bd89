-- The texts of fields, by their bounds.
use Rattle.std.specs.Prelude.{ℕ, ◌+◌, Bool, false, ◌&&◌, nat_le, if◌then◌else◌, List, length, map, slice_range}
use Rattle.std.specs.List.{list_all}
use Rattle.std.specs.Str.{is_utf8}
use Rattle.csvw_fields.specs.declared.bound.Bound.{Bound}

-- the buffer that it is in
abbrev pub home_of : List ℕ → List ℕ → Bound → List ℕ
home_of text spare b = if b.apart then spare else text

abbrev pub bytes_at : List ℕ → List ℕ → Bound → List ℕ
bytes_at text spare b = slice_range (home_of text spare b) b.from b.to

-- it is within the buffer, and is text
abbrev pub is_bound : List ℕ → List ℕ → Bound → Bool
is_bound text spare b = nat_le b.from b.to && (nat_le b.to (length (home_of text spare b)) && is_utf8 (bytes_at text spare b))

abbrev pub are_bounds : List ℕ → List ℕ → List Bound → Bool
are_bounds text spare bounds = list_all (λ b. is_bound text spare b) bounds

abbrev pub fields_at : List ℕ → List ℕ → List Bound → List (List ℕ)
fields_at text spare bounds = map (λ b. bytes_at text spare b) bounds

-- the bound of a text among the bytes that were read
abbrev pub lent_bound : ℕ → ℕ → Bound
lent_bound from to = record { from = from; to = to; apart = false }

-- a bound of the bytes after a place, as one of all the bytes
abbrev pub moved : ℕ → Bound → Bound
moved at b = if b.apart then b else lent_bound (at + b.from) (at + b.to)

-- the bounds in the second buffer
abbrev pub is_apart : List ℕ → Bound → Bool
is_apart spare b = b.apart && (nat_le b.from b.to && (nat_le b.to (length spare) && is_utf8 (slice_range spare b.from b.to)))

abbrev pub apart_all : List ℕ → List Bound → Bool
apart_all spare bounds = list_all (λ b. is_apart spare b) bounds

abbrev pub texts_apart : List ℕ → List Bound → List (List ℕ)
texts_apart spare bounds = map (λ b. slice_range spare b.from b.to) bounds
