use Rattle.std.proofs.Common.{◌∙◌, ◌++◌, ◌∷◌, [], ap, sym, position, set, bytes_eq, List, ℕ}
use Rattle.csvw_template.specs.declared.vars.Var.{Var}
use Rattle.csvw_template.specs.Variables.{Variables, put, lookup}
use Rattle.csvw_template.proofs.VariablesLemmas.{put_at, put_end, lookup-put}
use Rattle.csvw_template.proofs.vars.Vars.set.Goals as goal

pub returns-in-Some-clause-ok : goal.returns-in-Some-clause-ok
returns-in-Some-clause-ok c =
    let ps : Variables = c.self.inside.pairs.items in
    let name = c.args.name.now in
    let test : List ℕ × Var → _ = λ p. bytes_eq p.0 name in
    ap (λ (p : List ℕ × Var). set ps c.in-Some.i (p.0, c.args.value)) c.index_mut.ensures.value
    ∙ sym (put_at ps name c.args.value c.in-Some.i (c.in-Some.ensures ∙ ap (position test) (sym c.self.view_is)) c.index_mut.result.now)
    ∙ ap (λ q. put q name c.args.value) c.self.view_is

pub returns-in-Some-clause-found : goal.returns-in-Some-clause-found
returns-in-Some-clause-found c = λ other.
    ap (λ q. lookup q other) (returns-in-Some-clause-ok c) ∙ lookup-put c.args.self.now c.args.name.now c.args.value other

pub returns-in_ok-push-in-None-clause-ok : goal.returns-in_ok-push-in-None-clause-ok
returns-in_ok-push-in-None-clause-ok c =
    let ps : Variables = c.self.inside.pairs.items in
    let name = c.args.name.now in
    let test : List ℕ × Var → _ = λ p. bytes_eq p.0 name in
    c.in_ok-push-in-None.ensures.items
    ∙ ap (λ n. ps ++ (n, c.args.value) ∷ []) c.in_ok-name-in-None.ensures
    ∙ sym (put_end ps name c.args.value (c.in-None.ensures ∙ ap (position test) (sym c.self.view_is)))
    ∙ ap (λ q. put q name c.args.value) c.self.view_is

pub returns-in_ok-push-in-None-clause-found : goal.returns-in_ok-push-in-None-clause-found
returns-in_ok-push-in-None-clause-found c = λ other.
    ap (λ q. lookup q other) (returns-in_ok-push-in-None-clause-ok c) ∙ lookup-put c.args.self.now c.args.name.now c.args.value other
