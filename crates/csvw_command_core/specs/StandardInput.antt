-- How often a request names standard input: `inputs_of`.
use Rattle.std.specs.Prelude.{ℕ, ◌+◌, Bool, List, [], ◌∷◌, codes, bytes_eq, filter, length, map}
use Rattle.clap.specs.Words.{Text}
use Rattle.csvw_command_core.specs.declared.request.Request.{Request}
use Rattle.csvw_command_core.specs.declared.request.Request.TheVariants.{Check, Completions, Convert, Draft, Explain, Inspect, Keys, Manual, Plain, Report, Split, Validate}
use Rattle.csvw_command_core.specs.Asked.{paths_of}

-- this name stands for standard input
abbrev pub is_standard : Text → Bool
is_standard name = bytes_eq name (codes "-")

-- how often standard input is among a document and the files of its tables
abbrev pub standard_inputs : Text → List Text → ℕ
standard_inputs meta files = length (filter is_standard (meta ∷ files))

-- How often a request names standard input. The records of keys are always read from it.
abbrev pub inputs_of : Request → ℕ
inputs_of (Plain url file line_buffered explain progress) = length (filter is_standard (file.now ∷ []))
inputs_of (Validate group) = standard_inputs group.meta.now (paths_of group)
inputs_of (Convert group minimal line_buffered) = standard_inputs group.meta.now (paths_of group)
inputs_of (Explain code) = 0
inputs_of (Check asked) = standard_inputs asked.meta.now (map (λ file. file.now) asked.files.items)
inputs_of (Inspect asked) = length (filter is_standard (asked.meta.now ∷ []))
inputs_of (Draft asked) = standard_inputs [] (map (λ file. file.now) asked.files.items)
inputs_of (Split asked) = standard_inputs asked.meta.now (map (λ file. file.now) asked.files.items)
inputs_of (Keys asked) = 1 + length (filter is_standard (asked.meta.now ∷ []))
inputs_of (Report files) = standard_inputs [] (map (λ file. file.now) files.items)
inputs_of (Completions shell) = 0
inputs_of Manual = 0
