-- The declared columns, or those of the header.
use Rattle.csvw_columns.proofs.SoundLemmas.{sound_columns_of}
use Rattle.csvw_columns.proofs.laws.columns_of_ready_tables_are_sound.Goals as goal

pub returns : goal.returns
returns c = sound_columns_of
