-- Texts whose links need no parser of the URL Standard: `http` and `https` URLs as that standard writes them, and fragments. These definitions take only such
-- texts whose bytes show it one after the other. There are more such texts.
use Rattle.std.specs.Prelude.{◌≡◌, ◌⊎◌, ℕ, ◌==◌, ◌||◌, ◌&&◌, ◌++◌, List, [], ◌∷◌, Bool, true, false, not, nat_lt, codes, Option, Some, None, Ok, if◌then◌else◌}
use Rattle.csvw_text.specs.Class.{is_within}
use Rattle.url.specs.Parts.{Parts, IsValid}
use Rattle.csvw_iri.specs.Safe.{is_forbidden}
use Rattle.csvw_iri.specs.declared.own.Place.{Place}
use Rattle.csvw_iri.specs.declared.own.Place.TheVariants.{Front, Label, Segment, Percent, Path, Query, Fragment}
use Rattle.csvw_iri.specs.Link.{iri_of, resolved, link_of}

-- the text resolves to itself, whatever the base, and is its own link
abbrev pub IsOwnLink : List ℕ → Type 0
IsOwnLink text = (base : Parts) → (resolved base text ≡ Ok text) × (link_of base text ≡ Ok text)

-- the link of the text is the IRI of the base and then the text
abbrev pub IsFragmentLink : List ℕ → Type 0
IsFragmentLink text = (base : Parts) → IsValid base → base.fragment ≡ None → link_of base text ≡ Ok (iri_of base ++ text)

-- the text is a scheme, `://` and the rest
abbrev pub IsOfScheme : List ℕ → List ℕ → Type 0
IsOfScheme text rest = (text ≡ codes "http://" ++ rest) ⊎ (text ≡ codes "https://" ++ rest)

-- an ASCII character that may be raw in an IRIREF
abbrev pub is_plain : ℕ → Bool
is_plain b = nat_lt b 127 && not (is_forbidden b)

-- `a` to `z`
abbrev pub is_lower : ℕ → Bool
is_lower b = is_within 97 122 b

-- a letter in lower case, a digit or `-`
abbrev pub is_of_label : ℕ → Bool
is_of_label b = is_lower b || is_within 48 57 b || b == 45

-- the place after a byte in a label of the host
abbrev pub of_label : ℕ → Option Place
of_label b = if is_of_label b then Some Label else (if b == 46 then Some Front else (if b == 47 then Some Segment else None))

-- the place after a byte in the path
abbrev pub of_path : ℕ → Option Place
of_path b =
    if b == 47 then Some Segment
    else (if b == 63 then Some Query else (if b == 35 then Some Fragment else (if is_plain b then Some Path else None)))

-- the place after a byte in the query
abbrev pub of_query : ℕ → Option Place
of_query b = if b == 35 then Some Fragment else (if is_plain b && not (b == 39) then Some Query else None)

-- The place after a byte. A label begins with a letter, so the host is not an IPv4 address. A segment begins neither with `.` nor with `%2`, so it is not a
-- dot segment.
abbrev pub step : Place → ℕ → Option Place
step Front b = if is_lower b then Some Label else None
step Label b = of_label b
step Segment b = if b == 46 then None else (if b == 37 then Some Percent else of_path b)
step Percent b = if b == 50 then None else of_path b
step Path b = of_path b
step Query b = of_query b
step Fragment b = if is_plain b then Some Fragment else None

-- the host has ended, and a path follows it
abbrev pub is_end : Place → Bool
is_end Front = false
is_end Label = false
is_end Segment = true
is_end Percent = true
is_end Path = true
is_end Query = true
is_end Fragment = true

-- the bytes continue from the place to an end
abbrev pub goes_on : Option Place → List ℕ → Bool
goes_on None bytes = false
goes_on (Some place) [] = is_end place
goes_on (Some place) (b ∷ bytes) = goes_on (step place b) bytes

-- the place to which bytes lead from a place; none if the pass ends in them
abbrev pub after : Option Place → List ℕ → Option Place
after None bytes = None
after (Some place) [] = Some place
after (Some place) (b ∷ bytes) = after (step place b) bytes

-- the text is a scheme, `://` and bytes that lead to the place
abbrev pub IsOwnFront : List ℕ → Place → Type 0
IsOwnFront text place = (rest : List ℕ) × (IsOfScheme text rest × (after (Some Front) rest ≡ Some place))
