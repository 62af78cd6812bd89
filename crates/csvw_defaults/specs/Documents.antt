-- The bytes of a document without the values that aren't permitted, with bounds as texts: `IsDefaulted` (Metadata Vocabulary for Tabular Data,
-- sections 4 and 5.1).
use Rattle.std.specs.Prelude.{◌≡◌, ℕ, List, [], ◌∷◌, ◌++◌, false, nat_lt, length, if◌then◌else◌, Option, Some, None, ⊤}
use Rattle.serde_json.specs.Data.{Data}
use Rattle.serde_json.specs.Written.{compact_text, has_float}
use Rattle.json.specs.Json.{Json}
use Rattle.csvw_meta.specs.Json.{json_of, without_bom}
use Rattle.csvw_meta.specs.declared.document.TheConstants.{MAX_DOCUMENT}
use Rattle.csvw_meta_core.specs.declared.fault.MetaFault.{MetaFault}
use Rattle.csvw_meta_core.specs.declared.profile.Profile.{Profile}
use Rattle.csvw_meta_core.specs.declared.profile.Profile.TheVariants.{Core, W3c}
use Rattle.csvw_meta_core.specs.Read.{Read, fine, under}
use Rattle.csvw_defaults.specs.Ignored.{document}
use Rattle.csvw_defaults.specs.Sources.{source_in}

-- bytes that are no JSON text have no such values
abbrev pub of_json : Option Json → Option Data → Read (Option Data)
of_json source None = fine None
of_json source (Some d) = under Some (document [] source d)

-- A document that is too long isn't read.
abbrev pub of_bytes : List ℕ → Read (Option Data)
of_bytes bytes = if nat_lt MAX_DOCUMENT (length bytes) then fine None else of_json (source_in (without_bom bytes)) (json_of (without_bom bytes))

-- The values that are ignored or read as texts, and the JSON value of what is left. In the profile core each of them is a fault.
abbrev pub defaults : Profile → List ℕ → Read (Option Data)
defaults Core bytes = fine None
defaults W3c bytes = of_bytes bytes

-- The bytes of a value: U+FEFF, which readers drop, and the value's text. If it has no number that isn't whole, the text is the compact one.
pub record AreBytesOf (value : Data) (bytes : List ℕ) : Type 0 where
  pub json : json_of (without_bom bytes) ≡ Some value
  pub text : has_float value ≡ false → bytes ≡ (239 ∷ 187 ∷ 191 ∷ []) ++ compact_text value

-- There are other bytes if something isn't as it was.
abbrev pub AreNew : List MetaFault → Data → Option (List ℕ) → Type 0
AreNew [] value None = ⊤
AreNew [] value (Some new) = ⊥
AreNew (f ∷ fs) value None = ⊥
AreNew (f ∷ fs) value (Some new) = AreBytesOf value new

-- If all is as it was, the bytes stay. Otherwise they are those of what is left.
abbrev pub AreBytes : List ℕ → List MetaFault → Option Data → List ℕ → Type 0
AreBytes old [] value new = new ≡ old
AreBytes old (f ∷ fs) None new = ⊥
AreBytes old (f ∷ fs) (Some value) new = AreBytesOf value new

-- other bytes for what is left, if something isn't as it was; and what that is
pub record IsLeftOf (left : Read Data) (bytes : Option (List ℕ)) (faults : List MetaFault) : Type 0 where
  pub faults_are : faults ≡ left.faults
  pub bytes_are : AreNew left.faults left.value bytes

-- the bytes of what is left, and what isn't as it was
pub record IsOf (left : Read (Option Data)) (old new : List ℕ) (changed : List MetaFault) : Type 0 where
  pub faults : changed ≡ left.faults
  pub bytes : AreBytes old left.faults left.value new

abbrev pub IsDefaulted : Profile → List ℕ → List ℕ → List MetaFault → Type 0
IsDefaulted profile old new changed = IsOf (defaults profile old) old new changed
