-- The words of one table.
use Rattle.std.proofs.Common.{rules, codes, refl, sym, ◌≡◌, ◌∙◌, Some}
use Rattle.clap.specs.Words.{first_value, found_of}
use Rattle.clap.proofs.WalkLemmas.{first_value-rows}
use Rattle.csvw_command_core.proofs.matches.plain_in.Goals as goal

pub returns : goal.returns
returns c =
    let found = found_of c.args.matches.now in
    let url : first_value found (codes "URL") ≡ Some c.in_ok-url.url.now = search rules in
    let file : first_value found (codes "FILE") ≡ Some c.in_ok-file.file.now = search rules in
    record {
      name_is = refl;
      url_is = sym (first_value-rows found (codes "URL")) ∙ url;
      file_is = sym (first_value-rows found (codes "FILE")) ∙ file;
      line_buffered_is = c.has_flag.ensures;
      explain_is = c.has_flag-2.ensures;
      progress_is = c.has_flag-3.ensures;
    }
