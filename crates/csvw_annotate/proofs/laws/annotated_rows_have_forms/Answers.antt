-- By the forms of the values that texts are.
use Rattle.csvw_annotate.proofs.FormsLemmas.{row_forms}
use Rattle.csvw_annotate.proofs.laws.annotated_rows_have_forms.Goals as goal

pub returns : goal.returns
returns c = row_forms c.values_of_texts.ensures.writable
