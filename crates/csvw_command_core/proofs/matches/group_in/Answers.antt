-- The words of a group.
use Rattle.std.proofs.Common.{rules, ap, codes, map, sym, ◌≡◌, ◌∙◌, Bor, List, Some, ℕ}
use Rattle.clap.specs.Words.{found_of}
use Rattle.clap.proofs.WalkLemmas.{first_value-rows, raw_values-rows}
use Rattle.csvw_command_core.proofs.matches.group_in.Goals as goal

pub returns-in-Some-get_strs : goal.returns-in-Some-get_strs
returns-in-Some-get_strs c =
    let found = found_of c.args.matches.now in
    let copied : c.in_ok-files.files.items ≡ c.in-Some-get_strs.given.now = search rules in
    record {
      base_is = sym (first_value-rows found (codes "base")) ∙ sym c.in-Some.ensures;
      meta_is = sym (first_value-rows found (codes "META")) ∙ sym c.in-Some-get_str.ensures;
      files_are = sym (raw_values-rows found (codes "FILE")) ∙ sym c.in-Some-get_strs.ensures
          ∙ ap (λ (files : List (Bor (List ℕ))). Some (map (λ file. file.now) files)) (sym copied);
      profile_is = sym (first_value-rows found (codes "profile")) ∙ sym c.get_str-in-Some-get_strs.ensures;
      resources_are = c.in_ok-resources.ensures;
      turns_is = c.has_flag.ensures;
      reporting_is = c.reporting_in.ensures;
      explain_is = c.has_flag-in-Some-get_strs.ensures;
      progress_is = c.has_flag-in-Some-get_strs-2.ensures;
      part_is = sym (first_value-rows found (codes "part")) ∙ sym c.get_str-in-Some-get_strs-2.ensures;
      plan_is = sym (first_value-rows found (codes "plan")) ∙ sym c.get_str-in-Some-get_strs-3.ensures;
      keys_is = sym (first_value-rows found (codes "keys")) ∙ sym c.get_str-in-Some-get_strs-4.ensures;
    }
