-- The texts of an argument, if there are any.
use Rattle.std.proofs.Common.{ap, map, sym, ◌≡◌, ◌∙◌, Bor, List, None, Some, ℕ}
use Rattle.std.proofs.lemmas.Result.{IfOk-weaker}
use Rattle.clap.specs.Words.{all_of, found_of, rows_of}
use Rattle.clap.proofs.WalkLemmas.{raw_values-rows}
use Rattle.csvw_command_core.specs.Asked.{texts_of}
use Rattle.csvw_command_core.proofs.matches.texts_in.Goals as goal

pub returns-in-Some : goal.returns-in-Some
returns-in-Some c =
    let found = found_of c.args.matches.now in
    let given : all_of c.args.id.now (rows_of found) ≡ Some (map (λ text. text.now) c.in-Some.given.now) =
    sym (raw_values-rows found c.args.id.now) ∙ sym c.in-Some.ensures in
    IfOk-weaker c.from_slice.result _ _
    (λ texts h. ap texts_of given ∙ ap (λ (all : List (Bor (List ℕ))). map (λ text. text.now) all) (sym h)) c.from_slice.ensures.items

pub returns-in-None : goal.returns-in-None
returns-in-None c =
    let found = found_of c.args.matches.now in
    let none : all_of c.args.id.now (rows_of found) ≡ None = sym (raw_values-rows found c.args.id.now) ∙ sym c.in-None.ensures in
    ap texts_of none ∙ sym (ap (λ (all : List (Bor (List ℕ))). map (λ text. text.now) all) c.new.ensures.items)
