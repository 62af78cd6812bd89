use Rattle.std.proofs.Common.{subst, ℕ, List, OnOk, ◌≡◌, ◌++◌}
use Rattle.csvw_datatype_core.proofs.LexicalDateLemmas.{time_appended}
use Rattle.csvw_datatype_core.proofs.lexical_date.push_time.Goals as goal

pub returns : goal.returns
returns c =
    let P : List ℕ → Type 0 = λ bytes. OnOk c.push_ascii.result (c.push_ascii.new.out ≡ c.args.out.now ++ bytes) in
    time_appended c.push_ascii.result _ _ c.args.second c.requires (subst P c.time_bytes-time.ensures.text c.push_ascii.ensures)
