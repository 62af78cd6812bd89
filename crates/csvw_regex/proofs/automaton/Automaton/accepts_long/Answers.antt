-- The machine finds a match at the start of the text exactly if the automaton accepts the text.
use Rattle.std.proofs.Common.{◌<◌, ◌∙◌}
use Rattle.std.proofs.lemmas.List.Elements.{All-from_get_or}
use Rattle.csvw_regex.specs.Automata.{AreBytes}
use Rattle.csvw_regex.proofs.WholeLemmas.{accepted}
use Rattle.csvw_regex.proofs.automaton.Automaton.accepts_long.Goals as goal

pub returns : goal.returns
returns c =
    let text = c.args.text.now in
    let bytes : AreBytes text = All-from_get_or (λ b. b < 256) text 0 (λ i below. (c.type_inv.text i).fits) in
    let seen = rw c.as_bytes.ensures.value at c.is_match-found.ensures.found in
    seen ∙ accepted c.args.self.now.nfa text ∙ c.args.self.now.decides text bytes
