-- The automaton matches the tree, and then the end of the text.
use Rattle.std.proofs.Common.{◌≡◌, ap, ◌∙◌, is_some, map, List}
use Rattle.regex_hir.specs.Re.{Re, cat, look, empty, accept, attempt}
use Rattle.regex_hir.specs.Meaning.{meaning, cat_all}
use Rattle.regex_hir.specs.declared.hir.Hir.{Hir, Concat}
use Rattle.regex_hir.specs.declared.look.Look.TheVariants.{End}
use Rattle.regex_hir.proofs.MeaningLemmas.{meaning-Concat, meaning-Look}
use Rattle.csvw_regex.proofs.WholeLemmas.{whole}
use Rattle.csvw_regex.proofs.automaton.compiled.Goals as goal

pub returns-in-Ok-compile : goal.returns-in-Ok-compile
returns-in-Ok-compile c = λ text.
    let re = meaning c.args.parsed.hir in
    let tree : meaning (Concat c.in_ok-vec.field-0) ≡ cat re (cat (look End) empty) =
    meaning-Concat c.in_ok-vec.field-0 ∙ ap (λ (items : List Hir). cat_all (map meaning items)) c.in_ok-vec.ensures.items
    ∙ ap (λ (a : Re). cat re (cat a empty)) (meaning-Look End) in
    ap is_some (c.in-Ok-compile.ensures.matches text 0) ∙ ap (λ (a : Re). is_some (attempt text a accept 0)) tree ∙ whole text re
