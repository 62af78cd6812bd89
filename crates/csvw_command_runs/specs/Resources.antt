-- The files of resources that words name, each as `URL=FILE`: `AreResources`.
use Rattle.std.specs.Prelude.{◌≡◌, List, flat_map, map, option_to_list}
use Rattle.clap.specs.Words.{Text}
use Rattle.csvw_command_core.specs.Resources.{resource_of}
use Rattle.csvw_files.specs.declared.resources.ResourceFile.{ResourceFile}

-- the URL and the path
abbrev pub pair_of : ResourceFile → Text × Text
pair_of f = (f.url.now, f.path.now)

-- those that a word names: one, or none
abbrev pub named : Text → List (Text × Text)
named word = option_to_list (resource_of word)

-- the resources that words name, in order
abbrev pub AreResources : List Text → List ResourceFile → Type 0
AreResources words files = map pair_of files ≡ flat_map named words
