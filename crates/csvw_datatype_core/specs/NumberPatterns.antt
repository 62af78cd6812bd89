-- Patterns of numbers: the texts that fit one, and the pattern that a text is (Model for Tabular Data, section 6.4.2; Unicode
-- Technical Standard 35, part 3, section 3).
use Rattle.std.specs.Prelude.{ℕ, zero, suc, ◌+◌, ◌-◌, ◌%◌, ◌==◌, ◌&&◌, ◌||◌, not, nat_lt, nat_le, Bool, true, false, Option, Some, None, unwrap_or, is_some, option_map, Result, Ok, Err}
use Rattle.std.specs.Prelude.{if◌then◌else◌, List, [], ◌∷◌, ◌++◌, length, map, filter}
use Rattle.std.specs.List.{list_any, list_all, take_while}
use Rattle.std.specs.Char.{is_ascii_digit}
use Rattle.csvw_datatype_core.specs.declared.number.NumberRules.{NumberRules}
use Rattle.csvw_datatype_core.specs.declared.number.Mark.{Mark}
use Rattle.csvw_datatype_core.specs.declared.number.Mark.TheVariants as marks
use Rattle.csvw_datatype_core.specs.declared.number_pattern.GroupSizes.{GroupSizes}
use Rattle.csvw_datatype_core.specs.declared.number_pattern.GroupRuns.{GroupRuns}
use Rattle.csvw_datatype_core.specs.declared.number_pattern.NumberPattern.{NumberPattern}
use Rattle.csvw_datatype_core.specs.declared.number_pattern.ExponentPattern.{ExponentPattern}
use Rattle.csvw_datatype_core.specs.declared.number_pattern.Left.{Left}
use Rattle.csvw_datatype_core.specs.declared.number_pattern.Left.TheVariants as lefts
use Rattle.csvw_datatype_core.specs.declared.number_pattern.PatternFault.{PatternFault}
use Rattle.csvw_datatype_core.specs.declared.number_pattern.PatternFault.TheVariants.{Bad, Unknown}
use Rattle.csvw_datatype_core.specs.Numbers.{mark_text}

-- the characters of the rules; without them "." and "," are those of patterns
abbrev pub point_of : NumberRules → ℕ
point_of rules = unwrap_or rules.decimal_char 46

abbrev pub group_of : NumberRules → ℕ
group_of rules = unwrap_or rules.group_char 44

-- a group character is in front of so many digits of the whole part
abbrev pub is_boundary : Option GroupSizes → ℕ → Bool
is_boundary None n = false
is_boundary (Some sizes) n =
    not (n == 0) && ((n == sizes.last) || (nat_lt sizes.last n && (not (sizes.other == 0) && ((n - sizes.last) % sizes.other == 0))))

-- "0" stands for a digit that is always written, and "#" for one that may be missing
abbrev pub symbol : ℕ → ℕ → ℕ
symbol place always = if nat_lt place always then 48 else 35

-- the last symbols of a whole part, with its group characters
abbrev pub whole_symbols : NumberRules → NumberPattern → ℕ → List ℕ
whole_symbols rules p zero = []
whole_symbols rules p (suc n) =
    symbol n p.least_whole ∷ (if is_boundary p.groups n then group_of rules ∷ whole_symbols rules p n else whole_symbols rules p n)

-- the last symbols of a fraction
abbrev pub fraction_symbols : NumberPattern → ℕ → List ℕ
fraction_symbols p zero = []
fraction_symbols p (suc n) = symbol (p.most_fraction - suc n) p.least_fraction ∷ fraction_symbols p n

abbrev pub after_whole : NumberRules → NumberPattern → List ℕ
after_whole rules p =
    if p.most_fraction == 0 then mark_text p.mark else point_of rules ∷ (fraction_symbols p p.most_fraction ++ mark_text p.mark)

-- a pattern, without a sign, whose whole part has so many symbols
abbrev pub symbols : NumberRules → NumberPattern → ℕ → List ℕ
symbols rules p n = whole_symbols rules p n ++ after_whole rules p

-- the same from a place on
abbrev pub left : NumberRules → NumberPattern → Left → List ℕ
left rules p (lefts.Whole n) = symbols rules p n
left rules p (lefts.Group n) = group_of rules ∷ symbols rules p n
left rules p (lefts.Fraction n) = fraction_symbols p n ++ mark_text p.mark
left rules p lefts.End = []

abbrev pub is_sign : ℕ → Bool
is_sign c = (c == 43) || (c == 45)

-- the text after its sign
abbrev pub unsigned : List ℕ → List ℕ
unsigned [] = []
unsigned (c ∷ cs) = if is_sign c then cs else c ∷ cs

abbrev pub has_sign : List ℕ → Bool
has_sign [] = false
has_sign (c ∷ cs) = is_sign c

-- each digit as "0"
abbrev pub as_symbol : ℕ → ℕ
as_symbol c = if is_ascii_digit c then 48 else c

-- the same characters
abbrev pub same : List ℕ → List ℕ → Bool
same [] [] = true
same (x ∷ xs) (y ∷ ys) = (x == y) && same xs ys
same _ _ = false

-- the characters are what is left, if there is a place
abbrev pub is_left : NumberRules → NumberPattern → Option Left → List ℕ → Bool
is_left rules p None cs = false
is_left rules p (Some l) cs = same cs (left rules p l)

-- the text, with each digit as "0", is the pattern with so many symbols in its whole part
abbrev pub has_symbols : NumberRules → NumberPattern → ℕ → List ℕ → Bool
has_symbols rules p n cs = same (map as_symbol (unsigned cs)) (symbols rules p n)

abbrev pub is_symbol : ℕ → Bool
is_symbol c = is_ascii_digit c || (c == 35)

-- how many digits and symbols a text has, and how many of them are in its whole part
abbrev pub count : (ℕ → Bool) → List ℕ → ℕ
count test cs = length (filter test cs)

abbrev pub whole_part : NumberRules → List ℕ → List ℕ
whole_part rules cs = take_while (λ c. not (c == point_of rules)) cs

abbrev pub whole_count : NumberRules → (ℕ → Bool) → List ℕ → ℕ
whole_count rules test cs = count test (whole_part rules cs)

abbrev pub fraction_count : NumberRules → (ℕ → Bool) → List ℕ → ℕ
fraction_count rules test cs = count test cs - whole_count rules test cs

-- the pattern with exactly so many digits
abbrev pub with_digits : NumberPattern → ℕ → ℕ → NumberPattern
with_digits p whole fraction = record p { least_whole = whole; least_fraction = fraction; most_fraction = fraction }

-- A number without an exponent fits a pattern if it has at least the digits that are always written and at most those that there are, and is the
-- pattern with just these digits. A whole part may have more digits than its pattern.
unfoldable pub mantissa_fits : NumberRules → NumberPattern → List ℕ → Bool
mantissa_fits rules p cs =
    (not p.needs_sign || has_sign cs)
    && nat_le p.least_whole (whole_count rules is_symbol cs)
    && nat_le p.least_fraction (fraction_count rules is_symbol cs)
    && nat_le (fraction_count rules is_symbol cs) p.most_fraction
    && has_symbols rules (with_digits p (whole_count rules is_symbol cs) (fraction_count rules is_symbol cs)) (whole_count rules is_symbol cs) cs

-- the text before the first "E" and the text after it, if there is one
abbrev pub at_first_e : List ℕ → Option (List ℕ × List ℕ)
at_first_e [] = None
at_first_e (c ∷ cs) = if c == 69 then Some ([], cs) else option_map (λ x. (c ∷ x.0, x.1)) (at_first_e cs)

-- the larger of two numbers
abbrev pub larger : ℕ → ℕ → ℕ
larger a b = if nat_lt a b then b else a

-- An exponent fits its pattern if it is digits after a sign, which may be missing unless the pattern needs it, and there are enough of them.
abbrev pub exponent_fits : ExponentPattern → List ℕ → Bool
exponent_fits e cs =
    (not e.needs_sign || has_sign cs) && nat_le (larger e.least 1) (length (unsigned cs)) && list_all is_ascii_digit (unsigned cs)

-- A number with an exponent fits if its mantissa and its exponent do, and the whole part of the mantissa has no more digits than its pattern.
abbrev pub parts_fit : NumberRules → NumberPattern → ExponentPattern → Option (List ℕ × List ℕ) → Bool
parts_fit rules p e None = false
parts_fit rules p e (Some x) =
    mantissa_fits rules p x.0 && nat_le (whole_count rules is_symbol x.0) e.most_whole && exponent_fits e x.1

abbrev pub fits_by : NumberRules → NumberPattern → Option ExponentPattern → List ℕ → Bool
fits_by rules p None cs = mantissa_fits rules p cs
fits_by rules p (Some e) cs = parts_fit rules p e (at_first_e cs)

-- a number is written as the pattern says
unfoldable pub fits : NumberRules → NumberPattern → List ℕ → Bool
fits rules p cs = fits_by rules p p.exponent cs

-- the symbols since the last group character, and the sizes of the groups so far
abbrev pub at_group : GroupRuns → GroupRuns
at_group r = record r { sizes = Some (record { last = 0; other = if is_some r.sizes then r.run else 0 }); run = 0 }

abbrev pub at_symbol : GroupRuns → GroupRuns
at_symbol r = record r { run = if nat_lt r.run 255 then suc r.run else r.run }

-- all after the point belongs to no group
abbrev pub after_character : NumberRules → GroupRuns → ℕ → GroupRuns
after_character rules r c =
    if r.is_over then r
    else (if c == point_of rules then record r { is_over = true }
    else (if c == group_of rules then at_group r
    else (if is_symbol c then at_symbol r else r)))

-- the runs of symbols that the group characters of a whole part separate
abbrev pub runs : NumberRules → GroupRuns → List ℕ → GroupRuns
runs rules r [] = r
runs rules r (c ∷ cs) = runs rules (after_character rules r c) cs

abbrev pub no_runs : GroupRuns
no_runs = record { sizes = None; run = 0; is_over = false }

-- the last group has the symbols after the last group character, and each other one those before it; of one group character both are the same
abbrev pub sizes_of : GroupRuns → Option GroupSizes
sizes_of r = option_map (λ s. record { last = r.run; other = if s.other == 0 then r.run else s.other }) r.sizes

abbrev pub mark_of : List ℕ → Mark
mark_of cs = if list_any (λ c. c == 37) cs then marks.Percent else (if list_any (λ c. c == 0x2030) cs then marks.PerMille else marks.Plain)

abbrev pub is_zero : ℕ → Bool
is_zero c = c == 48

-- the only pattern without an exponent that the text can be
abbrev pub candidate : NumberRules → List ℕ → NumberPattern
candidate rules cs = record {
  needs_sign = has_sign cs;
  least_whole = whole_count rules is_zero cs;
  groups = sizes_of (runs rules no_runs cs);
  least_fraction = fraction_count rules is_zero cs;
  most_fraction = fraction_count rules is_symbol cs;
  mark = mark_of cs;
  exponent = None;
}

-- a character that patterns of Lidgorge may have
abbrev pub is_pattern_character : NumberRules → ℕ → Bool
is_pattern_character rules c =
    (c == 48) || (c == 35) || (c == 43) || (c == 37) || (c == 0x2030) || (c == 69) || (c == point_of rules) || (c == group_of rules)

-- The text is a pattern without an exponent if it has a symbol, and is what the pattern with its numbers of symbols looks like.
abbrev pub is_pattern : NumberRules → List ℕ → Bool
is_pattern rules cs = nat_lt 0 (count is_symbol cs) && has_symbols rules (candidate rules cs) (whole_count rules is_symbol cs) cs

abbrev pub mantissa_pattern : NumberRules → List ℕ → Result NumberPattern PatternFault
mantissa_pattern rules cs = if is_pattern rules cs then Ok (candidate rules cs) else Err Bad

abbrev pub is_plain : Mark → Bool
is_plain marks.Plain = true
is_plain _ = false

-- the pattern can have an exponent: it has no group character and no mark
abbrev pub is_bare : NumberPattern → Bool
is_bare p = not (is_some p.groups) && is_plain p.mark

abbrev pub has_plus : List ℕ → Bool
has_plus [] = false
has_plus (c ∷ cs) = c == 43

-- the text after its "+"
abbrev pub after_plus : List ℕ → List ℕ
after_plus [] = []
after_plus (c ∷ cs) = if c == 43 then cs else c ∷ cs

-- the text is a pattern of exponents: one "0" or more, after a "+" if the exponent always has a sign
abbrev pub is_exponent : List ℕ → Bool
is_exponent cs = nat_lt 0 (count is_zero cs) && list_all is_zero (after_plus cs)

-- the only pattern of exponents that the text can be, after a whole part of so many symbols
abbrev pub exponent_of : ℕ → List ℕ → ExponentPattern
exponent_of whole cs = record { most_whole = whole; needs_sign = has_plus cs; least = count is_zero cs }

-- a pattern before the first "E" and a pattern of exponents after it
abbrev pub is_scientific : NumberRules → List ℕ × List ℕ → Bool
is_scientific rules x = is_pattern rules x.0 && is_bare (candidate rules x.0) && is_exponent x.1

abbrev pub scientific : NumberRules → List ℕ × List ℕ → NumberPattern
scientific rules x = record (candidate rules x.0) { exponent = Some (exponent_of (whole_count rules is_symbol x.0) x.1) }

abbrev pub scientific_pattern : NumberRules → List ℕ × List ℕ → Result NumberPattern PatternFault
scientific_pattern rules x = if is_scientific rules x then Ok (scientific rules x) else Err Bad

-- an "E" is before an exponent, unless it is the decimal or the group character
abbrev pub pattern_parts : NumberRules → List ℕ → Option (List ℕ × List ℕ)
pattern_parts rules cs = if (point_of rules == 69) || (group_of rules == 69) then None else at_first_e cs

abbrev pub pattern_by : NumberRules → List ℕ → Option (List ℕ × List ℕ) → Result NumberPattern PatternFault
pattern_by rules cs None = mantissa_pattern rules cs
pattern_by rules cs (Some x) = scientific_pattern rules x

-- the pattern that a text is, or why it is none
unfoldable pub pattern_of : NumberRules → List ℕ → Result NumberPattern PatternFault
pattern_of rules cs =
    if list_all (is_pattern_character rules) cs then pattern_by rules cs (pattern_parts rules cs) else Err Unknown

-- the least number of symbols of a whole part that shows the sizes of groups
abbrev pub shown_of : Option GroupSizes → ℕ
shown_of None = 0
shown_of (Some sizes) = if sizes.last == sizes.other then sizes.last + 1 else sizes.last + sizes.other + 1

-- the number of symbols of a whole part that shows how many digits are before an exponent at most
abbrev pub most_shown : Option ExponentPattern → ℕ
most_shown None = 0
most_shown (Some e) = e.most_whole

-- the least number of symbols of a whole part that shows a pattern, apart from its exponent
abbrev pub mantissa_shown : NumberPattern → ℕ
mantissa_shown p = larger p.least_whole (larger (shown_of p.groups) (if p.most_fraction == 0 then 1 else 0))

abbrev pub whole_shown : NumberPattern → ℕ
whole_shown p = larger (most_shown p.exponent) (mantissa_shown p)

-- a text that is the pattern without its exponent, with as few symbols as show it
abbrev pub mantissa_form : NumberRules → NumberPattern → List ℕ
mantissa_form rules p = if p.needs_sign then 43 ∷ symbols rules p (whole_shown p) else symbols rules p (whole_shown p)

abbrev pub zeros : ℕ → List ℕ
zeros zero = []
zeros (suc n) = 48 ∷ zeros n

-- the exponent of a pattern, with its "E"
abbrev pub exponent_form : Option ExponentPattern → List ℕ
exponent_form None = []
exponent_form (Some e) = 69 ∷ (if e.needs_sign then 43 ∷ zeros e.least else zeros e.least)

-- a text that is the pattern, with as few symbols as show it
abbrev pub pattern_form : NumberRules → NumberPattern → List ℕ
pattern_form rules p = mantissa_form rules p ++ exponent_form p.exponent
