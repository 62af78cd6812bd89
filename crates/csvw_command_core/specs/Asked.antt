-- The request that the words of a command line make, as the crate `clap` reads them: `Asks`, `program_app`.
use Rattle.std.specs.Prelude.{◌≡◌, ◌⊎◌, ◌<◌, ◌^◌, ℕ, Bool, List, [], Option, None, Some, codes, false, find, map, option_and_then, option_map, true}
use Rattle.std.specs.Str.{bytes_eq}
use Rattle.std.specs.Str.Parse.{IsNumeral, digits_value, without_leading_plus}
use Rattle.clap.specs.Words.{App, Row, Rule, Text, all_of, fault_of, first_of, new_app, new_rule, subcommand_of, with_rule, with_subcommand}
use Rattle.clap.specs.Simple.{new_shape}
use Rattle.clap.specs.Lexer.{usize_max}
use Rattle.clap.specs.declared.builder.action.ArgAction.TheVariants.{Append, SetTrue}
use Rattle.clap.specs.declared.parser.matches.ValueSource.{ValueSource}
use Rattle.clap.specs.declared.parser.matches.ValueSource.TheVariants.{CommandLine}
use Rattle.csvw_command_core.specs.declared.request.CheckedGroup.{CheckedGroup}
use Rattle.csvw_command_core.specs.declared.request.DraftedFiles.{DraftedFiles}
use Rattle.csvw_command_core.specs.declared.request.Group.{Group}
use Rattle.csvw_command_core.specs.declared.request.Inspected.{Inspected}
use Rattle.csvw_command_core.specs.declared.request.JudgedKeys.{JudgedKeys}
use Rattle.csvw_command_core.specs.declared.request.Reporting.{Reporting}
use Rattle.csvw_command_core.specs.declared.request.SplitFiles.{SplitFiles}
use Rattle.csvw_command_core.specs.declared.request.Request.{Request}
use Rattle.csvw_command_core.specs.declared.request.Request.TheVariants.{Check, Completions, Convert, Draft, Explain, Inspect, Keys, Manual, Plain, Report, Split, Validate}

-- a positional argument that must be there
abbrev pub required_rule : Text → Rule
required_rule id = record (new_rule id) { required = true }

-- a flag with a long name, its id
abbrev pub flag_rule : Text → Rule
flag_rule id = record (new_rule id) { long = Some id; action = Some SetTrue }

-- the option `--base URL`, which must be there
abbrev pub base_rule : Rule
base_rule = record (required_rule (codes "base")) { long = Some (codes "base"); value_names = 1 }

-- the option `--parts N`, which must be there
abbrev pub parts_rule : Rule
parts_rule = record (required_rule (codes "parts")) { long = Some (codes "parts"); value_names = 1 }

-- the positional argument of one or more files
abbrev pub files_rule : Rule
files_rule = record (required_rule (codes "FILE")) { range = Some (record { start_inclusive = 1; end_inclusive = usize_max }) }

-- an option with a long name, its id, that takes a value
abbrev pub option_rule : Text → Rule
option_rule id = record (new_rule id) { long = Some id; value_names = 1 }

-- the option `--resource URL=FILE`, which may be there several times
abbrev pub resource_rule : Rule
resource_rule = record (option_rule (codes "resource")) { action = Some Append }

-- the positional argument of files, of which there may be none
abbrev pub some_files_rule : Rule
some_files_rule = record (new_rule (codes "FILE")) { range = Some (record { start_inclusive = 1; end_inclusive = usize_max }) }

-- the options of a report: `[--report FORM] [--color WHEN] [--all] [--strict]`
abbrev pub with_reporting : App → App
with_reporting app =
    with_rule (with_rule (with_rule (with_rule app (option_rule (codes "report"))) (option_rule (codes "color"))) (flag_rule (codes "all")))
    (flag_rule (codes "strict"))

-- a subcommand `name --base URL META FILE.. [--turns]`
abbrev pub read_app : Text → App
read_app name = with_rule (with_rule (with_rule (with_rule (new_app name) base_rule) (required_rule (codes "META"))) files_rule) (flag_rule (codes "turns"))

-- the same, with `[--explain] [--progress] [--profile NAME] [--resource URL=FILE].. [--part K] [--plan PLAN]
-- [--keys KEYS]` and the options of a report
abbrev pub group_app : Text → App
group_app name =
    with_reporting (with_rule (with_rule (with_rule (with_rule (with_rule (with_rule (with_rule (read_app name) (flag_rule (codes "explain")))
    (flag_rule (codes "progress"))) (option_rule (codes "profile"))) resource_rule) (option_rule (codes "part"))) (option_rule (codes "plan")))
    (option_rule (codes "keys")))

-- the subcommand `validate`
abbrev pub validate_app : App
validate_app = group_app (codes "validate")

-- the subcommand `convert`, with `[--minimal] [--line-buffered]`
abbrev pub convert_app : App
convert_app = with_rule (with_rule (group_app (codes "convert")) (flag_rule (codes "minimal"))) (flag_rule (codes "line-buffered"))

-- the subcommand `plain [--line-buffered] [--explain] [--progress] URL FILE`
abbrev pub plain_app : App
plain_app =
    with_rule (with_rule (with_rule (with_rule (with_rule (new_app (codes "plain")) (required_rule (codes "URL"))) (required_rule (codes "FILE")))
    (flag_rule (codes "line-buffered"))) (flag_rule (codes "explain"))) (flag_rule (codes "progress"))

-- the subcommand `check [--base URL] META [FILE..] [--progress] [--profile NAME] [--resource URL=FILE]..`, with the options of a report
abbrev pub check_app : App
check_app =
    with_reporting (with_rule (with_rule (with_rule (with_rule (with_rule (with_rule (new_app (codes "check")) (option_rule (codes "base")))
    (required_rule (codes "META"))) some_files_rule) (flag_rule (codes "progress"))) (option_rule (codes "profile"))) resource_rule)

-- the subcommand `explain [CODE]`
abbrev pub explain_app : App
explain_app = with_rule (new_app (codes "explain")) (new_rule (codes "CODE"))

-- the subcommand `inspect [--base URL] [--json] [--explain] [--profile NAME] [--resource URL=FILE].. META`
abbrev pub inspect_app : App
inspect_app =
    with_rule (with_rule (with_rule (with_rule (with_rule (with_rule (new_app (codes "inspect")) (option_rule (codes "base"))) (required_rule (codes "META")))
    (flag_rule (codes "json"))) (flag_rule (codes "explain"))) (option_rule (codes "profile"))) resource_rule

-- the subcommand `draft [--base URL] FILE.. [--profile NAME]`
abbrev pub draft_app : App
draft_app =
    with_rule (with_rule (with_rule (new_app (codes "draft")) (option_rule (codes "base"))) files_rule) (option_rule (codes "profile"))

-- the subcommand `split --parts N --base URL META FILE.. [--profile NAME] [--resource URL=FILE]..`
abbrev pub split_app : App
split_app =
    with_rule (with_rule (with_rule (with_rule (with_rule (with_rule (new_app (codes "split")) parts_rule) base_rule) (required_rule (codes "META")))
    files_rule) (option_rule (codes "profile"))) resource_rule

-- the subcommand `keys --base URL META [--profile NAME] [--resource URL=FILE]..`
abbrev pub keys_app : App
keys_app =
    with_rule (with_rule (with_rule (with_rule (new_app (codes "keys")) base_rule) (required_rule (codes "META"))) (option_rule (codes "profile")))
    resource_rule

-- the subcommand `report FILE..`
abbrev pub report_app : App
report_app = with_rule (new_app (codes "report")) files_rule

-- the subcommand `completions SHELL`
abbrev pub completions_app : App
completions_app = with_rule (new_app (codes "completions")) (required_rule (codes "SHELL"))

-- the subcommand `manual`
abbrev pub manual_app : App
manual_app = new_app (codes "manual")

-- the program without its subcommands
abbrev pub bare_app : App
bare_app = record (new_app (codes "csvw")) {
  top = record (new_shape (codes "csvw")) { has_version = true; subcommand_required = true; arg_required_else_help = true };
}

-- the program's command line
unfoldable pub program_app : App
program_app =
    with_subcommand (with_subcommand (with_subcommand (with_subcommand (with_subcommand (with_subcommand (with_subcommand (with_subcommand
    (with_subcommand (with_subcommand (with_subcommand (with_subcommand bare_app validate_app.top) convert_app.top) plain_app.top) check_app.top)
    explain_app.top) inspect_app.top) draft_app.top) split_app.top) keys_app.top) report_app.top) completions_app.top) manual_app.top

abbrev pub is_from_words : Option ValueSource → Bool
is_from_words (Some CommandLine) = true
is_from_words _ = false

-- the words have this flag
abbrev pub flag_of : Text → List Row → Bool
flag_of id rows = is_from_words (option_and_then (λ r. r.source) (find (λ r. bytes_eq r.id id) rows))

-- how the words ask for a report to be shown
pub record IsReporting (rows : List Row) (reporting : Reporting) : Type 0 where
  pub form_is : first_of (codes "report") rows ≡ option_map (λ form. form.now) reporting.form
  pub color_is : first_of (codes "color") rows ≡ option_map (λ color. color.now) reporting.color
  pub all_is : reporting.all ≡ flag_of (codes "all") rows
  pub strict_is : reporting.strict ≡ flag_of (codes "strict") rows

-- the texts of an argument that may be missing
abbrev pub texts_of : Option (List Text) → List Text
texts_of None = []
texts_of (Some texts) = texts

-- the URL, the metadata, all the files, the profile and the resources that the words of a subcommand name, and how they are read and reported
pub record IsGroup (rows : List Row) (group : Group) : Type 0 where
  pub base_is : first_of (codes "base") rows ≡ Some group.base.now
  pub meta_is : first_of (codes "META") rows ≡ Some group.meta.now
  pub files_are : all_of (codes "FILE") rows ≡ Some (map (λ file. file.now) group.files.items)
  pub profile_is : first_of (codes "profile") rows ≡ option_map (λ profile. profile.now) group.profile
  pub resources_are : texts_of (all_of (codes "resource") rows) ≡ map (λ r. r.now) group.resources.items
  pub turns_is : group.turns ≡ flag_of (codes "turns") rows
  pub reporting_is : IsReporting rows group.reporting
  pub explain_is : group.explain ≡ flag_of (codes "explain") rows
  pub progress_is : group.progress ≡ flag_of (codes "progress") rows
  pub part_is : first_of (codes "part") rows ≡ option_map (λ part. part.now) group.part
  pub plan_is : first_of (codes "plan") rows ≡ option_map (λ plan. plan.now) group.plan
  pub keys_is : first_of (codes "keys") rows ≡ option_map (λ keys. keys.now) group.keys

pub record ReadsPlain (name : Text) (rows : List Row) (url file : Text) (line_buffered explain progress : Bool) : Type 0 where
  pub name_is : name ≡ codes "plain"
  pub url_is : first_of (codes "URL") rows ≡ Some url
  pub file_is : first_of (codes "FILE") rows ≡ Some file
  pub line_buffered_is : line_buffered ≡ flag_of (codes "line-buffered") rows
  pub explain_is : explain ≡ flag_of (codes "explain") rows
  pub progress_is : progress ≡ flag_of (codes "progress") rows

pub record ReadsValidate (name : Text) (rows : List Row) (group : Group) : Type 0 where
  pub name_is : name ≡ codes "validate"
  pub group_is : IsGroup rows group

pub record ReadsConvert (name : Text) (rows : List Row) (group : Group) (minimal line_buffered : Bool) : Type 0 where
  pub name_is : name ≡ codes "convert"
  pub group_is : IsGroup rows group
  pub minimal_is : minimal ≡ flag_of (codes "minimal") rows
  pub line_buffered_is : line_buffered ≡ flag_of (codes "line-buffered") rows

pub record ReadsCheck (name : Text) (rows : List Row) (asked : CheckedGroup) : Type 0 where
  pub name_is : name ≡ codes "check"
  pub base_is : first_of (codes "base") rows ≡ option_map (λ base. base.now) asked.base
  pub meta_is : first_of (codes "META") rows ≡ Some asked.meta.now
  pub files_are : texts_of (all_of (codes "FILE") rows) ≡ map (λ file. file.now) asked.files.items
  pub profile_is : first_of (codes "profile") rows ≡ option_map (λ profile. profile.now) asked.profile
  pub resources_are : texts_of (all_of (codes "resource") rows) ≡ map (λ r. r.now) asked.resources.items
  pub reporting_is : IsReporting rows asked.reporting
  pub progress_is : asked.progress ≡ flag_of (codes "progress") rows

pub record ReadsExplain (name : Text) (rows : List Row) (code : Option Text) : Type 0 where
  pub name_is : name ≡ codes "explain"
  pub code_is : first_of (codes "CODE") rows ≡ code

pub record ReadsInspect (name : Text) (rows : List Row) (asked : Inspected) : Type 0 where
  pub name_is : name ≡ codes "inspect"
  pub base_is : first_of (codes "base") rows ≡ option_map (λ base. base.now) asked.base
  pub meta_is : first_of (codes "META") rows ≡ Some asked.meta.now
  pub profile_is : first_of (codes "profile") rows ≡ option_map (λ profile. profile.now) asked.profile
  pub resources_are : texts_of (all_of (codes "resource") rows) ≡ map (λ r. r.now) asked.resources.items
  pub json_is : asked.json ≡ flag_of (codes "json") rows
  pub explain_is : asked.explain ≡ flag_of (codes "explain") rows

pub record ReadsDraft (name : Text) (rows : List Row) (asked : DraftedFiles) : Type 0 where
  pub name_is : name ≡ codes "draft"
  pub base_is : first_of (codes "base") rows ≡ option_map (λ base. base.now) asked.base
  pub files_are : texts_of (all_of (codes "FILE") rows) ≡ map (λ file. file.now) asked.files.items
  pub profile_is : first_of (codes "profile") rows ≡ option_map (λ profile. profile.now) asked.profile

-- the word writes a number that is a u32
abbrev pub IsCountWord : Text → Type 0
IsCountWord word = IsNumeral 10 (without_leading_plus word) × (digits_value 10 (without_leading_plus word) < 2 ^ 32)

-- the number that a word writes, or 0 if it writes none
abbrev pub IsCount : Text → ℕ → Type 0
IsCount word n = (IsCountWord word × (n ≡ digits_value 10 (without_leading_plus word))) ⊎ ((¬ IsCountWord word) × (n ≡ 0))

pub record ReadsSplit (name : Text) (rows : List Row) (asked : SplitFiles) : Type 0 where
  pub name_is : name ≡ codes "split"
  pub base_is : first_of (codes "base") rows ≡ Some asked.base.now
  pub meta_is : first_of (codes "META") rows ≡ Some asked.meta.now
  pub files_are : texts_of (all_of (codes "FILE") rows) ≡ map (λ file. file.now) asked.files.items
  pub profile_is : first_of (codes "profile") rows ≡ option_map (λ profile. profile.now) asked.profile
  pub resources_are : texts_of (all_of (codes "resource") rows) ≡ map (λ r. r.now) asked.resources.items
  pub word : Text
  pub word_is : first_of (codes "parts") rows ≡ Some word
  pub parts_are : IsCount word asked.parts

pub record ReadsKeys (name : Text) (rows : List Row) (asked : JudgedKeys) : Type 0 where
  pub name_is : name ≡ codes "keys"
  pub base_is : first_of (codes "base") rows ≡ Some asked.base.now
  pub meta_is : first_of (codes "META") rows ≡ Some asked.meta.now
  pub profile_is : first_of (codes "profile") rows ≡ option_map (λ profile. profile.now) asked.profile
  pub resources_are : texts_of (all_of (codes "resource") rows) ≡ map (λ r. r.now) asked.resources.items

pub record ReadsReport (name : Text) (rows : List Row) (files : List Text) : Type 0 where
  pub name_is : name ≡ codes "report"
  pub files_are : texts_of (all_of (codes "FILE") rows) ≡ files

pub record ReadsCompletions (name : Text) (rows : List Row) (shell : Text) : Type 0 where
  pub name_is : name ≡ codes "completions"
  pub shell_is : first_of (codes "SHELL") rows ≡ Some shell

-- a subcommand of this name with these rows makes this request
abbrev pub Reads : Text → List Row → Request → Type 0
Reads name rows (Plain url file line_buffered explain progress) = ReadsPlain name rows url.now file.now line_buffered explain progress
Reads name rows (Validate group) = ReadsValidate name rows group
Reads name rows (Convert group minimal line_buffered) = ReadsConvert name rows group minimal line_buffered
Reads name rows (Check asked) = ReadsCheck name rows asked
Reads name rows (Explain code) = ReadsExplain name rows (option_map (λ text. text.now) code)
Reads name rows (Inspect asked) = ReadsInspect name rows asked
Reads name rows (Draft asked) = ReadsDraft name rows asked
Reads name rows (Split asked) = ReadsSplit name rows asked
Reads name rows (Keys asked) = ReadsKeys name rows asked
Reads name rows (Report files) = ReadsReport name rows (map (λ file. file.now) files.items)
Reads name rows (Completions shell) = ReadsCompletions name rows shell.now
Reads name rows Manual = name ≡ codes "manual"

-- the words are correct, and name a subcommand that makes this request
pub record Asks (words : List Text) (request : Request) : Type 0 where
  pub no_fault : fault_of program_app words ≡ []
  pub name : Text
  pub rows : List Row
  pub subcommand : subcommand_of program_app words ≡ Some (name, rows)
  pub reads : Reads name rows request

-- the paths of the files of a group
abbrev pub paths_of : Group → List Text
paths_of group = map (λ file. file.now) group.files.items
