-- The files of schemas and dialects that the words name by their URLs, each as `URL=FILE`: `resource_of`, `takes_resources`.
use Rattle.std.specs.Prelude.{◌&&◌, ◌||◌, ◌==◌, if◌then◌else◌, Bool, false, List, Option, None, Some, bytes_eq, codes, length, not, option_and_then}
use Rattle.std.specs.Borrow.{Bor}
use Rattle.std.specs.List.{list_all}
use Rattle.std.specs.Path.{rsplit_once}
use Rattle.clap.specs.Words.{Text}
use Rattle.csvw_command_core.specs.StandardInput.{is_standard}

-- the URL and the file, if neither is empty
abbrev pub unless_empty : Text × Text → Option (Text × Text)
unless_empty parts = if length parts.0 == 0 || length parts.1 == 0 then None else Some parts

-- The URL and the file of a word `URL=FILE`. The last equals sign is between them, as a URL may have others.
unfoldable pub resource_of : Text → Option (Text × Text)
resource_of word = option_and_then unless_empty (rsplit_once 61 word)

-- the file of a resource is there, and isn't standard input
abbrev pub has_file : Option (Text × Text) → Bool
has_file None = false
has_file (Some parts) = not (is_standard parts.1)

-- the word is a resource with a file
abbrev pub is_resource : Text → Bool
is_resource word = has_file (resource_of word)

-- the profile is the one that takes resources
abbrev pub is_w3c : Option (Bor Text) → Bool
is_w3c None = false
is_w3c (Some name) = bytes_eq name.now (codes "w3c")

-- all words are resources, which only the profile `w3c` takes
abbrev pub takes_resources : List Text → Option (Bor Text) → Bool
takes_resources words profile = (length words == 0 || is_w3c profile) && list_all is_resource words
