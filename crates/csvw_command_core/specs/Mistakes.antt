-- What clap accepts and the program doesn't: standard input for two files, and names that there are not: `IsSound`, `IsMistaken`.
use Rattle.std.specs.Prelude.{◌≡◌, ◌⊎◌, ◌<◌, ◌≤◌, ◌&&◌, ◌||◌, Bool, true, false, Option, None, Some, bytes_eq, codes, map, nat_lt}
use Rattle.std.specs.Borrow.{Bor}
use Rattle.clap.specs.Words.{Text}
use Rattle.csvw_command_core.specs.Resources.{takes_resources}
use Rattle.csvw_command_core.specs.StandardInput.{inputs_of}
use Rattle.csvw_command_core.specs.declared.request.Reporting.{Reporting}
use Rattle.csvw_command_core.specs.declared.request.Request.{Request}
use Rattle.csvw_command_core.specs.declared.request.Request.TheVariants.{Check, Completions, Convert, Draft, Explain, Inspect, Keys, Manual, Plain, Report, Split, Validate}

-- the forms of a report for people
abbrev pub is_shown_form : Text → Bool
is_shown_form name = bytes_eq name (codes "text") || (bytes_eq name (codes "html") || bytes_eq name (codes "json"))

-- when a text has colours
abbrev pub is_color : Text → Bool
is_color name = bytes_eq name (codes "auto") || (bytes_eq name (codes "always") || bytes_eq name (codes "never"))

-- the profiles of a document
abbrev pub is_profile : Text → Bool
is_profile name = bytes_eq name (codes "core") || bytes_eq name (codes "w3c")

-- the shells that there are completions for
abbrev pub is_shell : Text → Bool
is_shell name = bytes_eq name (codes "bash") || (bytes_eq name (codes "zsh") || bytes_eq name (codes "fish"))

-- the forms of the report of a run
abbrev pub is_report_form : Text → Bool
is_report_form name = bytes_eq name (codes "csv") || is_shown_form name

-- a form for people, if one is given
abbrev pub knows_shown_form : Option (Bor Text) → Bool
knows_shown_form None = true
knows_shown_form (Some name) = is_shown_form name.now

-- a form of the report of a run, if one is given
abbrev pub knows_report_form : Option (Bor Text) → Bool
knows_report_form None = true
knows_report_form (Some name) = is_report_form name.now

-- a colour, if one is given
abbrev pub knows_color : Option (Bor Text) → Bool
knows_color None = true
knows_color (Some name) = is_color name.now

-- a profile, if one is given
abbrev pub knows_profile : Option (Bor Text) → Bool
knows_profile None = true
knows_profile (Some name) = is_profile name.now

-- the form and the colour of a check are known
abbrev pub knows_shown : Reporting → Bool
knows_shown reporting = knows_shown_form reporting.form && knows_color reporting.color

-- the form and the colour of a run are known; its default form is `csv`
abbrev pub knows_report : Reporting → Bool
knows_report reporting = knows_report_form reporting.form && knows_color reporting.color

-- the form, the colour, the number of parts or the shell that a request has is known
abbrev pub knows_output : Request → Bool
knows_output (Plain url file line_buffered explain progress) = true
knows_output (Validate group) = knows_report group.reporting
knows_output (Convert group minimal line_buffered) = knows_report group.reporting
knows_output (Check asked) = knows_shown asked.reporting
knows_output (Explain code) = true
knows_output (Inspect asked) = true
knows_output (Draft asked) = true
knows_output (Split asked) = nat_lt 0 asked.parts
knows_output (Keys asked) = true
knows_output (Report files) = true
knows_output (Completions shell) = is_shell shell.now
knows_output Manual = true

-- the profile that a request has is known
abbrev pub has_known_profile : Request → Bool
has_known_profile (Plain url file line_buffered explain progress) = true
has_known_profile (Validate group) = knows_profile group.profile
has_known_profile (Convert group minimal line_buffered) = knows_profile group.profile
has_known_profile (Check asked) = knows_profile asked.profile
has_known_profile (Explain code) = true
has_known_profile (Inspect asked) = knows_profile asked.profile
has_known_profile (Draft asked) = knows_profile asked.profile
has_known_profile (Split asked) = knows_profile asked.profile
has_known_profile (Keys asked) = knows_profile asked.profile
has_known_profile (Report files) = true
has_known_profile (Completions shell) = true
has_known_profile Manual = true

-- the resources that a request has are `URL=FILE`, and its profile takes them
abbrev pub has_known_resources : Request → Bool
has_known_resources (Plain url file line_buffered explain progress) = true
has_known_resources (Validate group) = takes_resources (map (λ r. r.now) group.resources.items) group.profile
has_known_resources (Convert group minimal line_buffered) = takes_resources (map (λ r. r.now) group.resources.items) group.profile
has_known_resources (Check asked) = takes_resources (map (λ r. r.now) asked.resources.items) asked.profile
has_known_resources (Explain code) = true
has_known_resources (Inspect asked) = takes_resources (map (λ r. r.now) asked.resources.items) asked.profile
has_known_resources (Draft asked) = true
has_known_resources (Split asked) = takes_resources (map (λ r. r.now) asked.resources.items) asked.profile
has_known_resources (Keys asked) = takes_resources (map (λ r. r.now) asked.resources.items) asked.profile
has_known_resources (Report files) = true
has_known_resources (Completions shell) = true
has_known_resources Manual = true

-- the names that a request has are known
abbrev pub knows_names : Request → Bool
knows_names request = has_known_profile request && (has_known_resources request && knows_output request)

-- the program does what is asked for
pub record IsSound (request : Request) : Type 0 where
  pub once : inputs_of request ≤ 1
  pub known : knows_names request ≡ true

-- the request is a mistake of the command line
abbrev pub IsMistaken : Request → Type 0
IsMistaken request = (1 < inputs_of request) ⊎ (knows_names request ≡ false)
