-- The request, or the error, is the one that clap's account of the words has.
use Rattle.std.proofs.Common.{rules, ap, map, option_map, string_bytes, subst, sym, ◌≡◌, ◌∙◌, Some, Err}
use Rattle.std.proofs.lemmas.Result.{err_from_is_err_and}
use Rattle.clap.specs.Words.{FailsBy, app_of, fault_of, found_of, rows_of, subcommand_name_of, subcommand_rows_of}
use Rattle.csvw_command_core.specs.Asked.{Reads, program_app}
use Rattle.csvw_command_core.proofs.Asking.{asks_this, known_kinds, known_rows}
use Rattle.csvw_command_core.proofs.request.requested.Goals as goal

pub returns-in_err-matches-clause-kinds : goal.returns-in_err-matches-clause-kinds
returns-in_err-matches-clause-kinds c =
    let words = map string_bytes c.args.words.now in
    let kinds = known_kinds (app_of c.in_ok-command_line.field-0) words c.try_get_matches_from.result c.in_ok-command_line.ensures
    c.try_get_matches_from.ensures.kinds in
    let p = err_from_is_err_and c.from_residual-in_err-matches.result c.from_residual-in_err-matches.ensures.1 in
    let given = subst (λ r. FailsBy (fault_of program_app words) r) c.in_err-matches.was kinds in
    subst (λ r. FailsBy (fault_of program_app words) r) (sym (p.1 ∙ ap Err p.2)) given

pub returns-in-Some-2-clause-kinds : goal.returns-in-Some-2-clause-kinds
returns-in-Some-2-clause-kinds c =
    let words = map string_bytes c.args.words.now in
    let kinds = known_kinds (app_of c.in_ok-command_line.field-0) words c.try_get_matches_from.result c.in_ok-command_line.ensures
    c.try_get_matches_from.ensures.kinds in
    subst (λ r. FailsBy (fault_of program_app words) r) c.in_ok-matches.was kinds

pub returns-in-Some-2-clause-asks : goal.returns-in-Some-2-clause-asks
returns-in-Some-2-clause-asks c =
    let words = map string_bytes c.args.words.now in
    let entered = known_rows (app_of c.in_ok-command_line.field-0) words c.in_ok-matches.matches c.in_ok-command_line.ensures c.in_ok-matches.ensures.matches in
    let rows = rows_of (found_of c.in-Some.inner.now) in
    let name_is : subcommand_name_of c.in_ok-matches.matches ≡ Some c.in-Some.name.now = sym c.in-Some.ensures.name in
    let rows_are : option_map (λ p. p.1) (subcommand_rows_of c.in_ok-matches.matches) ≡ Some rows = sym c.in-Some.ensures.rows in
    let reads : Reads c.in-Some.name.now rows c.in-Some-2.request = search rules in
    asks_this words c.in_ok-matches.matches c.in-Some.name.now rows c.in-Some-2.request (returns-in-Some-2-clause-kinds c) entered name_is rows_are reads
