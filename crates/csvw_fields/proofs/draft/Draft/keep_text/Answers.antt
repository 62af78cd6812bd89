use Rattle.csvw_fields.proofs.DraftLemmas.{both_kept}
use Rattle.csvw_fields.proofs.draft.Draft.keep_text.Goals as goal

pub returns-clause-keeps : goal.returns-clause-keeps
returns-clause-keeps c = both_kept c.args.rules.now.dialect c.args.self.now c.keep_clean.new.self c.keep_quotes.new.self c.args.rest.now c.in_ok-left.left.now
    c.keep_quotes.result c.in_ok-left.ensures.keeps c.keep_quotes.ensures.keeps
