-- Texts that are names: Name and NMTOKEN (XML 1.0, section 2.3; XML Schema 1.1 Part 2, sections 3.4.4 and 3.4.6).
use Rattle.std.specs.Prelude.{ℕ, ◌&&◌, ◌||◌, nat_le, Bool, true, false, List, [], ◌∷◌}
use Rattle.std.specs.List.{list_any, list_all}

-- the first and the last character of each range of NameStartChar
abbrev pub start_ranges : List (ℕ × ℕ)
start_ranges =
    (58, 58) ∷ (65, 90) ∷ (95, 95) ∷ (97, 122) ∷ (192, 214) ∷ (216, 246) ∷ (248, 767) ∷ (880, 893) ∷ (895, 8_191) ∷ (8_204, 8_205)
    ∷ (8_304, 8_591) ∷ (11_264, 12_271) ∷ (12_289, 55_295) ∷ (63_744, 64_975) ∷ (65_008, 65_533) ∷ (65_536, 983_039) ∷ []

-- those of NameChar that NameStartChar doesn't have
abbrev pub other_ranges : List (ℕ × ℕ)
other_ranges = (45, 46) ∷ (48, 57) ∷ (183, 183) ∷ (768, 879) ∷ (8_255, 8_256) ∷ []

abbrev pub is_in_range : ℕ → ℕ × ℕ → Bool
is_in_range c r = nat_le r.0 c && nat_le c r.1

unfoldable pub is_name_start : ℕ → Bool
is_name_start c = list_any (is_in_range c) start_ranges

unfoldable pub is_name_character : ℕ → Bool
is_name_character c = is_name_start c || list_any (is_in_range c) other_ranges

abbrev pub has_character : List ℕ → Bool
has_character [] = false
has_character (c ∷ cs) = true

abbrev pub begins_name : List ℕ → Bool
begins_name [] = false
begins_name (c ∷ cs) = is_name_start c

-- an NMTOKEN is one or more name characters
abbrev pub is_name_token : List ℕ → Bool
is_name_token cs = has_character cs && list_all is_name_character cs

-- a Name is an NMTOKEN that begins with a NameStartChar
abbrev pub is_name : List ℕ → Bool
is_name cs = begins_name cs && list_all is_name_character cs
