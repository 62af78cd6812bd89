-- The character classes of N-Triples (RDF 1.1 N-Triples, section 7), each as a test.
use Rattle.std.specs.Prelude.{ℕ, ◌==◌, ◌||◌, Bool, not, nat_lt, if◌then◌else◌, Option, Some, None}
use Rattle.csvw_text.specs.Class.{is_within, is_letter_char, is_digit_char}

-- CR or LF, at which a line ends
abbrev pub is_break : ℕ → Bool
is_break c = c == 13 || c == 10

-- a space or a tab
abbrev pub is_blank : ℕ → Bool
is_blank c = c == 32 || c == 9

-- a character that a STRING may have as it is: not `"`, `\`, LF or CR
abbrev pub is_raw_in_string : ℕ → Bool
is_raw_in_string c = not (c == 34 || (c == 92 || is_break c))

-- a character that an IRIREF may have as it is: not U+0000 to U+0020, `<`, `>`, `"`, `{`, `}`, `|`, `^`, `` ` `` or `\`
abbrev pub is_raw_in_iri : ℕ → Bool
is_raw_in_iri c = not (nat_lt c 33 || (c == 34 || (c == 60 || (c == 62 || (c == 92 || (c == 94 || (c == 96 || is_within 123 125 c)))))))

-- ECHAR: the character that the letter after a backslash means
abbrev pub escape_of : ℕ → Option ℕ
escape_of c =
    if c == 116 then Some 9 else (if c == 98 then Some 8 else (if c == 110 then Some 10 else (if c == 114 then Some 13
    else (if c == 102 then Some 12 else (if c == 34 || (c == 39 || c == 92) then Some c else None)))))

-- PN_CHARS_U of a label, with the colon
abbrev pub is_label_letter : ℕ → Bool
is_label_letter c =
    is_letter_char c || (c == 95 || (c == 58 || (is_within 0xC0 0xD6 c || (is_within 0xD8 0xF6 c || (is_within 0xF8 0x2FF c
    || (is_within 0x370 0x37D c || (is_within 0x37F 0x1FFF c || (is_within 0x200C 0x200D c || (is_within 0x2070 0x218F c
    || (is_within 0x2C00 0x2FEF c || (is_within 0x3001 0xD7FF c || (is_within 0xF900 0xFDCF c || (is_within 0xFDF0 0xFFFD c
    || is_within 0x10000 0xEFFFF c)))))))))))))

-- PN_CHARS of a label
abbrev pub is_label_char : ℕ → Bool
is_label_char c =
    is_label_letter c || (c == 45 || (is_digit_char c || (c == 0xB7 || (is_within 0x300 0x36F c || is_within 0x203F 0x2040 c))))

-- the first character of a label
abbrev pub is_label_start : ℕ → Bool
is_label_start c = is_label_letter c || is_digit_char c
