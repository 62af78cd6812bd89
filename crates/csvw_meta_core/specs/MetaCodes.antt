-- The names of the faults of metadata documents, as the program's lines spell them.
use Rattle.std.specs.Prelude.{ℕ, List, codes}
use Rattle.csvw_meta_core.specs.declared.fault.MetaCode.{MetaCode}
use Rattle.csvw_meta_core.specs.declared.fault.MetaCode.TheVariants.{Memory, TooLong, NotJson, BadContext, BadProperty, BadId, BadUrl, UrlTooLong}
use Rattle.csvw_meta_core.specs.declared.fault.MetaCode.TheVariants.{NotSupported, BadDialect, BadDatatype, BadTemplate, TemplateLevel, BadName}
use Rattle.csvw_meta_core.specs.declared.fault.MetaCode.TheVariants.{DuplicateName, VirtualOrder, DuplicateTable, BadReference, TooMany}

-- the name of the variant
abbrev pub name_of : MetaCode → List ℕ
name_of Memory = codes "Memory"
name_of TooLong = codes "TooLong"
name_of NotJson = codes "NotJson"
name_of BadContext = codes "BadContext"
name_of BadProperty = codes "BadProperty"
name_of BadId = codes "BadId"
name_of BadUrl = codes "BadUrl"
name_of UrlTooLong = codes "UrlTooLong"
name_of NotSupported = codes "NotSupported"
name_of BadDialect = codes "BadDialect"
name_of BadDatatype = codes "BadDatatype"
name_of BadTemplate = codes "BadTemplate"
name_of TemplateLevel = codes "TemplateLevel"
name_of BadName = codes "BadName"
name_of DuplicateName = codes "DuplicateName"
name_of VirtualOrder = codes "VirtualOrder"
name_of DuplicateTable = codes "DuplicateTable"
name_of BadReference = codes "BadReference"
name_of TooMany = codes "TooMany"
