use Rattle.csvw_meta_datatype.proofs.FormatSoundLemmas.{format_sound}
use Rattle.csvw_meta_datatype.proofs.format_laws.formats_fit.Goals as goal

pub returns : goal.returns
returns c = format_sound
