-- Two codes are the same by their tags exactly if the definition says so, which the search finds only code by code.
use denote.Enum.Bare.{sameb}
use Rattle.std.proofs.Common.{◌≡◌, refl, ◌∙◌}
use Rattle.csvw_meta_core.specs.contracts.fault.MetaCode.{the_type}
use Rattle.csvw_meta_core.specs.declared.fault.MetaCode.{MetaCode}
use Rattle.csvw_meta_core.specs.declared.fault.MetaCode.TheVariants.{Memory, TooLong, NotJson, BadContext, BadProperty, BadId, BadUrl, UrlTooLong}
use Rattle.csvw_meta_core.specs.declared.fault.MetaCode.TheVariants.{NotSupported, BadDialect, BadDatatype, BadTemplate, TemplateLevel, BadName}
use Rattle.csvw_meta_core.specs.declared.fault.MetaCode.TheVariants.{DuplicateName, VirtualOrder, DuplicateTable, BadReference, TooMany}
use Rattle.csvw_meta_datatype.specs.Whichever.{is_same_code}
use Rattle.csvw_meta_faults_parts.proofs.whichever.is_same_code.Goals as goal

same_codes : (a b : MetaCode) → sameb the_type a b ≡ is_same_code a b
unfolding is_same_code
same_codes Memory b = elim b as (λ c. sameb the_type Memory c ≡ is_same_code Memory c) [
  | Memory ↦ refl
  | TooLong ↦ refl
  | NotJson ↦ refl
  | BadContext ↦ refl
  | BadProperty ↦ refl
  | BadId ↦ refl
  | BadUrl ↦ refl
  | UrlTooLong ↦ refl
  | NotSupported ↦ refl
  | BadDialect ↦ refl
  | BadDatatype ↦ refl
  | BadTemplate ↦ refl
  | TemplateLevel ↦ refl
  | BadName ↦ refl
  | DuplicateName ↦ refl
  | VirtualOrder ↦ refl
  | DuplicateTable ↦ refl
  | BadReference ↦ refl
  | TooMany ↦ refl
]
same_codes TooLong b = elim b as (λ c. sameb the_type TooLong c ≡ is_same_code TooLong c) [
  | Memory ↦ refl
  | TooLong ↦ refl
  | NotJson ↦ refl
  | BadContext ↦ refl
  | BadProperty ↦ refl
  | BadId ↦ refl
  | BadUrl ↦ refl
  | UrlTooLong ↦ refl
  | NotSupported ↦ refl
  | BadDialect ↦ refl
  | BadDatatype ↦ refl
  | BadTemplate ↦ refl
  | TemplateLevel ↦ refl
  | BadName ↦ refl
  | DuplicateName ↦ refl
  | VirtualOrder ↦ refl
  | DuplicateTable ↦ refl
  | BadReference ↦ refl
  | TooMany ↦ refl
]
same_codes NotJson b = elim b as (λ c. sameb the_type NotJson c ≡ is_same_code NotJson c) [
  | Memory ↦ refl
  | TooLong ↦ refl
  | NotJson ↦ refl
  | BadContext ↦ refl
  | BadProperty ↦ refl
  | BadId ↦ refl
  | BadUrl ↦ refl
  | UrlTooLong ↦ refl
  | NotSupported ↦ refl
  | BadDialect ↦ refl
  | BadDatatype ↦ refl
  | BadTemplate ↦ refl
  | TemplateLevel ↦ refl
  | BadName ↦ refl
  | DuplicateName ↦ refl
  | VirtualOrder ↦ refl
  | DuplicateTable ↦ refl
  | BadReference ↦ refl
  | TooMany ↦ refl
]
same_codes BadContext b = elim b as (λ c. sameb the_type BadContext c ≡ is_same_code BadContext c) [
  | Memory ↦ refl
  | TooLong ↦ refl
  | NotJson ↦ refl
  | BadContext ↦ refl
  | BadProperty ↦ refl
  | BadId ↦ refl
  | BadUrl ↦ refl
  | UrlTooLong ↦ refl
  | NotSupported ↦ refl
  | BadDialect ↦ refl
  | BadDatatype ↦ refl
  | BadTemplate ↦ refl
  | TemplateLevel ↦ refl
  | BadName ↦ refl
  | DuplicateName ↦ refl
  | VirtualOrder ↦ refl
  | DuplicateTable ↦ refl
  | BadReference ↦ refl
  | TooMany ↦ refl
]
same_codes BadProperty b = elim b as (λ c. sameb the_type BadProperty c ≡ is_same_code BadProperty c) [
  | Memory ↦ refl
  | TooLong ↦ refl
  | NotJson ↦ refl
  | BadContext ↦ refl
  | BadProperty ↦ refl
  | BadId ↦ refl
  | BadUrl ↦ refl
  | UrlTooLong ↦ refl
  | NotSupported ↦ refl
  | BadDialect ↦ refl
  | BadDatatype ↦ refl
  | BadTemplate ↦ refl
  | TemplateLevel ↦ refl
  | BadName ↦ refl
  | DuplicateName ↦ refl
  | VirtualOrder ↦ refl
  | DuplicateTable ↦ refl
  | BadReference ↦ refl
  | TooMany ↦ refl
]
same_codes BadId b = elim b as (λ c. sameb the_type BadId c ≡ is_same_code BadId c) [
  | Memory ↦ refl
  | TooLong ↦ refl
  | NotJson ↦ refl
  | BadContext ↦ refl
  | BadProperty ↦ refl
  | BadId ↦ refl
  | BadUrl ↦ refl
  | UrlTooLong ↦ refl
  | NotSupported ↦ refl
  | BadDialect ↦ refl
  | BadDatatype ↦ refl
  | BadTemplate ↦ refl
  | TemplateLevel ↦ refl
  | BadName ↦ refl
  | DuplicateName ↦ refl
  | VirtualOrder ↦ refl
  | DuplicateTable ↦ refl
  | BadReference ↦ refl
  | TooMany ↦ refl
]
same_codes BadUrl b = elim b as (λ c. sameb the_type BadUrl c ≡ is_same_code BadUrl c) [
  | Memory ↦ refl
  | TooLong ↦ refl
  | NotJson ↦ refl
  | BadContext ↦ refl
  | BadProperty ↦ refl
  | BadId ↦ refl
  | BadUrl ↦ refl
  | UrlTooLong ↦ refl
  | NotSupported ↦ refl
  | BadDialect ↦ refl
  | BadDatatype ↦ refl
  | BadTemplate ↦ refl
  | TemplateLevel ↦ refl
  | BadName ↦ refl
  | DuplicateName ↦ refl
  | VirtualOrder ↦ refl
  | DuplicateTable ↦ refl
  | BadReference ↦ refl
  | TooMany ↦ refl
]
same_codes UrlTooLong b = elim b as (λ c. sameb the_type UrlTooLong c ≡ is_same_code UrlTooLong c) [
  | Memory ↦ refl
  | TooLong ↦ refl
  | NotJson ↦ refl
  | BadContext ↦ refl
  | BadProperty ↦ refl
  | BadId ↦ refl
  | BadUrl ↦ refl
  | UrlTooLong ↦ refl
  | NotSupported ↦ refl
  | BadDialect ↦ refl
  | BadDatatype ↦ refl
  | BadTemplate ↦ refl
  | TemplateLevel ↦ refl
  | BadName ↦ refl
  | DuplicateName ↦ refl
  | VirtualOrder ↦ refl
  | DuplicateTable ↦ refl
  | BadReference ↦ refl
  | TooMany ↦ refl
]
same_codes NotSupported b = elim b as (λ c. sameb the_type NotSupported c ≡ is_same_code NotSupported c) [
  | Memory ↦ refl
  | TooLong ↦ refl
  | NotJson ↦ refl
  | BadContext ↦ refl
  | BadProperty ↦ refl
  | BadId ↦ refl
  | BadUrl ↦ refl
  | UrlTooLong ↦ refl
  | NotSupported ↦ refl
  | BadDialect ↦ refl
  | BadDatatype ↦ refl
  | BadTemplate ↦ refl
  | TemplateLevel ↦ refl
  | BadName ↦ refl
  | DuplicateName ↦ refl
  | VirtualOrder ↦ refl
  | DuplicateTable ↦ refl
  | BadReference ↦ refl
  | TooMany ↦ refl
]
same_codes BadDialect b = elim b as (λ c. sameb the_type BadDialect c ≡ is_same_code BadDialect c) [
  | Memory ↦ refl
  | TooLong ↦ refl
  | NotJson ↦ refl
  | BadContext ↦ refl
  | BadProperty ↦ refl
  | BadId ↦ refl
  | BadUrl ↦ refl
  | UrlTooLong ↦ refl
  | NotSupported ↦ refl
  | BadDialect ↦ refl
  | BadDatatype ↦ refl
  | BadTemplate ↦ refl
  | TemplateLevel ↦ refl
  | BadName ↦ refl
  | DuplicateName ↦ refl
  | VirtualOrder ↦ refl
  | DuplicateTable ↦ refl
  | BadReference ↦ refl
  | TooMany ↦ refl
]
same_codes BadDatatype b = elim b as (λ c. sameb the_type BadDatatype c ≡ is_same_code BadDatatype c) [
  | Memory ↦ refl
  | TooLong ↦ refl
  | NotJson ↦ refl
  | BadContext ↦ refl
  | BadProperty ↦ refl
  | BadId ↦ refl
  | BadUrl ↦ refl
  | UrlTooLong ↦ refl
  | NotSupported ↦ refl
  | BadDialect ↦ refl
  | BadDatatype ↦ refl
  | BadTemplate ↦ refl
  | TemplateLevel ↦ refl
  | BadName ↦ refl
  | DuplicateName ↦ refl
  | VirtualOrder ↦ refl
  | DuplicateTable ↦ refl
  | BadReference ↦ refl
  | TooMany ↦ refl
]
same_codes BadTemplate b = elim b as (λ c. sameb the_type BadTemplate c ≡ is_same_code BadTemplate c) [
  | Memory ↦ refl
  | TooLong ↦ refl
  | NotJson ↦ refl
  | BadContext ↦ refl
  | BadProperty ↦ refl
  | BadId ↦ refl
  | BadUrl ↦ refl
  | UrlTooLong ↦ refl
  | NotSupported ↦ refl
  | BadDialect ↦ refl
  | BadDatatype ↦ refl
  | BadTemplate ↦ refl
  | TemplateLevel ↦ refl
  | BadName ↦ refl
  | DuplicateName ↦ refl
  | VirtualOrder ↦ refl
  | DuplicateTable ↦ refl
  | BadReference ↦ refl
  | TooMany ↦ refl
]
same_codes TemplateLevel b = elim b as (λ c. sameb the_type TemplateLevel c ≡ is_same_code TemplateLevel c) [
  | Memory ↦ refl
  | TooLong ↦ refl
  | NotJson ↦ refl
  | BadContext ↦ refl
  | BadProperty ↦ refl
  | BadId ↦ refl
  | BadUrl ↦ refl
  | UrlTooLong ↦ refl
  | NotSupported ↦ refl
  | BadDialect ↦ refl
  | BadDatatype ↦ refl
  | BadTemplate ↦ refl
  | TemplateLevel ↦ refl
  | BadName ↦ refl
  | DuplicateName ↦ refl
  | VirtualOrder ↦ refl
  | DuplicateTable ↦ refl
  | BadReference ↦ refl
  | TooMany ↦ refl
]
same_codes BadName b = elim b as (λ c. sameb the_type BadName c ≡ is_same_code BadName c) [
  | Memory ↦ refl
  | TooLong ↦ refl
  | NotJson ↦ refl
  | BadContext ↦ refl
  | BadProperty ↦ refl
  | BadId ↦ refl
  | BadUrl ↦ refl
  | UrlTooLong ↦ refl
  | NotSupported ↦ refl
  | BadDialect ↦ refl
  | BadDatatype ↦ refl
  | BadTemplate ↦ refl
  | TemplateLevel ↦ refl
  | BadName ↦ refl
  | DuplicateName ↦ refl
  | VirtualOrder ↦ refl
  | DuplicateTable ↦ refl
  | BadReference ↦ refl
  | TooMany ↦ refl
]
same_codes DuplicateName b = elim b as (λ c. sameb the_type DuplicateName c ≡ is_same_code DuplicateName c) [
  | Memory ↦ refl
  | TooLong ↦ refl
  | NotJson ↦ refl
  | BadContext ↦ refl
  | BadProperty ↦ refl
  | BadId ↦ refl
  | BadUrl ↦ refl
  | UrlTooLong ↦ refl
  | NotSupported ↦ refl
  | BadDialect ↦ refl
  | BadDatatype ↦ refl
  | BadTemplate ↦ refl
  | TemplateLevel ↦ refl
  | BadName ↦ refl
  | DuplicateName ↦ refl
  | VirtualOrder ↦ refl
  | DuplicateTable ↦ refl
  | BadReference ↦ refl
  | TooMany ↦ refl
]
same_codes VirtualOrder b = elim b as (λ c. sameb the_type VirtualOrder c ≡ is_same_code VirtualOrder c) [
  | Memory ↦ refl
  | TooLong ↦ refl
  | NotJson ↦ refl
  | BadContext ↦ refl
  | BadProperty ↦ refl
  | BadId ↦ refl
  | BadUrl ↦ refl
  | UrlTooLong ↦ refl
  | NotSupported ↦ refl
  | BadDialect ↦ refl
  | BadDatatype ↦ refl
  | BadTemplate ↦ refl
  | TemplateLevel ↦ refl
  | BadName ↦ refl
  | DuplicateName ↦ refl
  | VirtualOrder ↦ refl
  | DuplicateTable ↦ refl
  | BadReference ↦ refl
  | TooMany ↦ refl
]
same_codes DuplicateTable b = elim b as (λ c. sameb the_type DuplicateTable c ≡ is_same_code DuplicateTable c) [
  | Memory ↦ refl
  | TooLong ↦ refl
  | NotJson ↦ refl
  | BadContext ↦ refl
  | BadProperty ↦ refl
  | BadId ↦ refl
  | BadUrl ↦ refl
  | UrlTooLong ↦ refl
  | NotSupported ↦ refl
  | BadDialect ↦ refl
  | BadDatatype ↦ refl
  | BadTemplate ↦ refl
  | TemplateLevel ↦ refl
  | BadName ↦ refl
  | DuplicateName ↦ refl
  | VirtualOrder ↦ refl
  | DuplicateTable ↦ refl
  | BadReference ↦ refl
  | TooMany ↦ refl
]
same_codes BadReference b = elim b as (λ c. sameb the_type BadReference c ≡ is_same_code BadReference c) [
  | Memory ↦ refl
  | TooLong ↦ refl
  | NotJson ↦ refl
  | BadContext ↦ refl
  | BadProperty ↦ refl
  | BadId ↦ refl
  | BadUrl ↦ refl
  | UrlTooLong ↦ refl
  | NotSupported ↦ refl
  | BadDialect ↦ refl
  | BadDatatype ↦ refl
  | BadTemplate ↦ refl
  | TemplateLevel ↦ refl
  | BadName ↦ refl
  | DuplicateName ↦ refl
  | VirtualOrder ↦ refl
  | DuplicateTable ↦ refl
  | BadReference ↦ refl
  | TooMany ↦ refl
]
same_codes TooMany b = elim b as (λ c. sameb the_type TooMany c ≡ is_same_code TooMany c) [
  | Memory ↦ refl
  | TooLong ↦ refl
  | NotJson ↦ refl
  | BadContext ↦ refl
  | BadProperty ↦ refl
  | BadId ↦ refl
  | BadUrl ↦ refl
  | UrlTooLong ↦ refl
  | NotSupported ↦ refl
  | BadDialect ↦ refl
  | BadDatatype ↦ refl
  | BadTemplate ↦ refl
  | TemplateLevel ↦ refl
  | BadName ↦ refl
  | DuplicateName ↦ refl
  | VirtualOrder ↦ refl
  | DuplicateTable ↦ refl
  | BadReference ↦ refl
  | TooMany ↦ refl
]

pub returns : goal.returns
returns c = c.eq.ensures ∙ same_codes c.args.code c.args.other
