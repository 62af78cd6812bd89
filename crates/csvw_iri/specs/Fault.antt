-- The refusal of a link that each fault means.
use Rattle.std.specs.Prelude.{Option, Some, None}
use Rattle.csvw_iri.specs.declared.fault.IriFault.{IriFault}
use Rattle.csvw_iri.specs.declared.fault.IriFault.TheVariants.{Memory, UrlTooLong, BadUrl}
use Rattle.csvw_iri.specs.Link.{Refusal, too_long, bad}

-- `Memory` means no refusal
abbrev pub refusal : IriFault → Option Refusal
refusal Memory = None
refusal UrlTooLong = Some too_long
refusal BadUrl = Some bad
