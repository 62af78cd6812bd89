-- The first line of a text that is wrong in a report: `IsRefused`.
use Rattle.std.specs.Prelude.{◌≡◌, ◌≢◌, ◌⊎◌, ℕ, ◌+◌, List, [], ◌++◌, length, flat_map}
use Rattle.std.specs.List.{All}
use Rattle.csvw_fault.specs.declared.fault.Fault.{Fault}
use Rattle.csvw_report.specs.Report.{heading, line}
use Rattle.csvw_reports.specs.Reading.{Fits}
use Rattle.csvw_reports.specs.declared.fault.ReportFault.{ReportFault}
use Rattle.csvw_reports.specs.declared.fault.ReportFault.TheVariants.{Memory, Line}

-- the text doesn't begin with the heading
abbrev pub HasNoHeading : List ℕ → Type 0
HasNoHeading text = (rest : List ℕ) → text ≡ heading ++ rest → ⊥

-- no fault has its line at the front of the text, which isn't empty
pub record HasNoFault (text : List ℕ) : Type 0 where
  pub some : text ≢ []
  pub none : (fault : Fault) (rest : List ℕ) → Fits fault → text ≡ line fault ++ rest → ⊥

-- after the heading and the lines of these faults no line of a fault follows
pub record IsWrongAfter (text : List ℕ) (at : ℕ) (before : List Fault) (rest : List ℕ) : Type 0 where
  pub is_text : text ≡ heading ++ flat_map line before ++ rest
  pub fit : All Fits before
  pub is_wrong : HasNoFault rest
  pub is_line : at ≡ length before + 2

-- the first line that is wrong, from 1
abbrev pub IsWrongAt : List ℕ → ℕ → Type 0
IsWrongAt text at = ((at ≡ 1) × HasNoHeading text) ⊎ ((before : List Fault) × (rest : List ℕ) × IsWrongAfter text at before rest)

-- of `Memory` nothing is said
abbrev pub IsRefused : List ℕ → ReportFault → Type 0
IsRefused text Memory = Unit {0}
IsRefused text (Line at) = IsWrongAt text at
