-- The backtracker finds a match at the start of the text exactly if the automaton accepts the text.
use Rattle.std.proofs.Common.{◌<◌, ◌∙◌}
use Rattle.std.proofs.lemmas.List.Elements.{All-from_get_or}
use Rattle.csvw_regex.specs.Automata.{AreBytes}
use Rattle.csvw_regex.proofs.WholeLemmas.{found}
use Rattle.csvw_regex.proofs.automaton.Automaton.accepts.Goals as goal

pub returns-in-Ok : goal.returns-in-Ok
returns-in-Ok c =
    let text = c.args.text.now in
    let bytes : AreBytes text = All-from_get_or (λ b. b < 256) text 0 (λ i below. (c.type_inv.text i).fits) in
    let span = rw c.as_bytes.ensures.value at c.in-Ok.ensures.span in
    c.is_some.ensures ∙ found c.args.self.now.nfa text c.in-Ok.found span ∙ c.args.self.now.decides text bytes
