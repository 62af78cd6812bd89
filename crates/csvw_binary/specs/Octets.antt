-- How many octets a canonical text stands for.
use Rattle.std.specs.Prelude.{ℕ, ◌*◌, ◌-◌, ◌/◌, ◌==◌, List, length, codes, if◌then◌else◌}
use Rattle.std.specs.List.{ends_with}

-- two digits stand for an octet
abbrev pub hex_octets : List ℕ → ℕ
hex_octets text = length text / 2

-- how many `=` are at the end: 0, 1 or 2
abbrev pub padding_count : List ℕ → ℕ
padding_count text =
    if ends_with ◌==◌ text (codes "==") then 2 else if ends_with ◌==◌ text (codes "=") then 1 else 0

-- four characters stand for three octets, less one for each `=`
abbrev pub base64_octets : List ℕ → ℕ
base64_octets text = 3 * (length text / 4) - padding_count text
