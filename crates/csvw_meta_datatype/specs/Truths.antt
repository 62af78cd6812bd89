-- The texts of booleans, with a vertical line between them (Model for Tabular Data, section 6.4.3).
use Rattle.std.specs.Prelude.{ℕ, ◌==◌, ◌&&◌, not, Bool, false, List, [], ◌∷◌, codes, bytes_eq, if◌then◌else◌, Option, Some, None}
use Rattle.serde_json.specs.Data.{Data}
use Rattle.serde_json.specs.Find.{as_str}
use Rattle.csvw_datatype.specs.Bars.{has_bar}
use Rattle.csvw_datatype.specs.declared.format.TruthFormat.{TruthFormat}
use Rattle.csvw_meta_core.specs.declared.fault.MetaCode.TheVariants.{BadDatatype}
use Rattle.csvw_meta_core.specs.Read.{Read, fine, faulty, on_kind}

-- the text before the first vertical line, and the text after it
abbrev pub before_bar : List ℕ → List ℕ
before_bar [] = []
before_bar (b ∷ bs) = if b == 124 then [] else b ∷ before_bar bs

abbrev pub behind_bar : List ℕ → Option (List ℕ)
behind_bar [] = None
behind_bar (b ∷ bs) = if b == 124 then Some bs else behind_bar bs

-- a text that is not empty and has no vertical line
abbrev pub is_truth_text : List ℕ → Bool
is_truth_text [] = false
is_truth_text (b ∷ bs) = not (has_bar (b ∷ bs))

abbrev pub are_truth_texts : List ℕ → List ℕ → Bool
are_truth_texts t f = is_truth_text t && (is_truth_text f && not (bytes_eq t f))

abbrev pub truth_texts : List ℕ → Option (List ℕ) → Option TruthFormat
truth_texts t None = None
truth_texts t (Some f) = if are_truth_texts t f then Some (record { if_true = t; if_false = f }) else None

abbrev pub truth_format_of : List ℕ → Option TruthFormat
truth_format_of s = truth_texts (before_bar s) (behind_bar s)

abbrev pub no_truths : TruthFormat
no_truths = record { if_true = codes "true"; if_false = codes "false" }

abbrev pub truths_found : List ℕ → Option TruthFormat → Read TruthFormat
truths_found at None = faulty BadDatatype at no_truths
truths_found at (Some f) = fine f

abbrev pub truth_format : List ℕ → Data → Read TruthFormat
truth_format at d = on_kind at d no_truths (as_str d) (λ s. truths_found at (truth_format_of s))
