-- What the parser reads and refuses.
use Rattle.std.proofs.Common.{rules, ◌≢◌, map, option_map, string_bytes, subst}
use Rattle.regex_syntax.specs.Verdict.{Reads, Refuses}
use Rattle.regex_syntax.specs.declared.Config.{Config}
use Rattle.regex_syntax.specs.declared.error.ErrorKind.TheVariants.{OutOfMemory}
use Rattle.csvw_regex.proofs.WholeLemmas.{stands_for, refused}
use Rattle.csvw_regex.proofs.automaton.parsed.Goals as goal

pub returns-in-Ok : goal.returns-in-Ok
returns-in-Ok c =
    let names = map (option_map string_bytes) c.in-Ok.parsed.names.items in
    let P : Config → Type 0 = λ f. Reads f c.args.expression.now c.in-Ok.parsed.hir names in
    stands_for c.args.expression.now c.in-Ok.parsed.hir names (subst P c.default.ensures c.in-Ok.ensures.ok)

pub returns-else-eq : goal.returns-else-eq
returns-else-eq c =
    let P : Config → Type 0 = λ f. Refuses f c.args.expression.now c.in-Err.error.kind in
    let other : c.in-Err.error.kind ≢ OutOfMemory = search rules in
    refused c.args.expression.now c.in-Err.error.kind other (subst P c.default.ensures c.in-Err.ensures.err)
