use Rattle.std.proofs.Common.{rules, ◌≡◌, ◌+◌, ℕ, List, length, true, ◌∙◌, drop, sym, ap, subst}
use Rattle.std.specs.Prelude.{IfSome}
use Rattle.std.specs.Str.{is_utf8}
use Rattle.std.proofs.lemmas.List.{drop-drop}
use Rattle.csvw_fields.specs.declared.bound.Bound.{Bound}
use Rattle.csvw_fields.specs.Cuts.{IsBehind, IsCut, IsUnescaped}
use Rattle.csvw_fields.proofs.CutLemmas.{some_gives}
use Rattle.csvw_fields.proofs.Escapes.{left_some, left_first, inside_text, escaped_cut}
use Rattle.csvw_fields.proofs.cutter.Cutter.cut_escaped.Goals as goal

pub unescape-requires-clause-text : goal.unescape-requires-clause-text
unescape-requires-clause-text c =
    let q = c.requires in
    let text : List ℕ = c.args.self.text.now in
    let start = c.args.start in
    let quote = c.args.self.symbols.quote in
    ap is_utf8 (sym (drop-drop 1 start text))
    ∙ inside_text (drop start text) quote q.text (left_some text start q.within) (left_first text start quote q.quote) c.args.self.same_symbols.quote_ascii

pub returns-clause-cut : goal.returns-clause-cut
returns-clause-cut c =
    let q = c.requires in
    let d = c.args.self.dialect.now in
    let s = c.args.self.symbols in
    let text : List ℕ = c.args.self.text.now in
    let start = c.args.start in
    let r : List ℕ = drop start text in
    let m = c.in-Some.close in
    let old : List ℕ = c.args.spare.now.items in
    let new : List ℕ = c.unescape.new.spare.items in
    let from : c.len-from.result ≡ length old = search rules in
    let to : c.len-to.result ≡ length new = search rules in
    let bound : Bound = record { from = c.len-from.result; to = c.len-to.result; apart = true } in
    let k = rw c.in-Some.is at c.in_ok-close.ensures.value in
    let h = subst (λ (l : List ℕ). IsUnescaped s.quote l old new m) (sym (drop-drop 1 start text)) k in
    let behind = subst (λ (l : List ℕ). IfSome c.behind.result (IsBehind d s l bound (m + 2))) c.split_at.ensures.back c.behind.ensures in
    some_gives (IsBehind d s r bound (m + 2)) (IsCut d r new) c.behind.result
    (λ cut b. escaped_cut d s r old new m c.len-from.result c.len-to.result cut c.args.self.same_symbols q.text (left_some text start q.within) q.quoted
    (left_first text start s.quote q.quote) h from to b) behind
