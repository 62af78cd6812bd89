use Rattle.std.proofs.Common.{◌≡◌, ◌<◌, ◌≤◌, ◌+◌, ◌-◌, ◌++◌, ℕ, List, length, take, drop, sym, ◌∙◌, arith, ap, subst, append-nil, length-drop}
use Rattle.std.specs.Prelude.{slice_index}
use Rattle.std.specs.Str.{is_utf8}
use Rattle.std.proofs.lemmas.List.{drop-drop, get_or-drop}
use Rattle.std.proofs.lemmas.Str.{is_utf8-from_IsUtf8, IsUtf8-nil}
use Rattle.csvw_fields.specs.Cuts.{Unescapes, IsUnescaped}
use Rattle.csvw_fields.specs.Marked.{is_quote, StandsAhead}
use Rattle.csvw_fields.proofs.Escapes.{quote_ahead, none_written, part_last, doubled_within, doubled_front, doubled_back, part_doubled}
use Rattle.csvw_fields.proofs.cutter.Cutter.unescape.Goals as goal
use Rattle.csvw_fields.proofs.cutter.Cutter.unescape.Goals.{then-len-gt0+in_ok-extend_from_slice-2, else-len-gt0}

pub loop-spare-init : goal.loop-spare-init
loop-spare-init c =
    let q = c.args.self.symbols.quote in
    let text : List ℕ = c.args.self.text.now in
    let start = c.args.start in
    let inside : List ℕ = drop start text in
    let old : List ℕ = c.args.spare.now.items in
    let none : 0 ≡ start - start = omega arith in
    record {
      behind = omega arith;
      within = c.requires.within;
      front = ap (λ n. is_utf8 (take n inside)) (sym none) ∙ is_utf8-from_IsUtf8 _ IsUtf8-nil;
      back = ap (λ n. is_utf8 (drop n inside)) (sym none) ∙ c.requires.text;
      marks = c.requires.marks;
      ahead = c.requires.first;
      written = subst (λ (n : ℕ). Unescapes q (take n inside) old old) none (none_written q inside old);
    }

pub loop-spare-preserved : goal.loop-spare-preserved
loop-spare-preserved c =
    let i = c.loop-spare.invariant in
    let s = c.args.self.symbols in
    let q = s.quote in
    let text : List ℕ = c.args.self.text.now in
    let start = c.args.start in
    let inside : List ℕ = drop start text in
    let at = c.loop-spare.at in
    let len = c.loop-spare.len in
    let old : List ℕ = c.args.spare.now.items in
    let n = at - start in
    let low = c.args.self.same_symbols.quote_ascii in
    let behind = i.behind in
    let from = i.within in
    let here : at ≡ start + n = omega (arith, behind) in
    let within : n ≤ length inside = omega (arith, from, here, length-drop start text) in
    let rest : drop n inside ≡ drop at text = drop-drop n start text ∙ ap (λ k. drop k text) (sym here) in
    let a = quote_ahead s text start n len (omega (arith, from, here)) (subst (λ (k : ℕ). StandsAhead (is_quote s) text k (length text) len) here i.ahead) in
    let doubled = c.has_quote.ensures.stands c.loop-spare-test.true in
    let long = doubled.0 in
    let more : len + 1 < length (drop n inside) = omega (arith, long, here, length-drop n inside, length-drop start text) in
    let again : slice_index (drop n inside) (len + 1) ≡ q =
    ap (λ l. slice_index l (len + 1)) rest ∙ get_or-drop at text (len + 1) 0
    ∙ ap (slice_index text) (let e : at + (len + 1) ≡ at + len + 1 = omega arith in e) ∙ doubled.1 in
    let chunk : take (at + len + 1 - at) (drop at text) ≡ take (len + 1) (drop n inside) =
    ap (λ k. take k (drop at text)) (let e : at + len + 1 - at ≡ len + 1 = omega arith in e) ∙ ap (take (len + 1)) (sym rest) in
    let grown : c.extend_from_slice.new.self.items ≡ c.loop-spare.spare.items ++ take (len + 1) (drop n inside) =
    c.in_ok-extend_from_slice.ensures.items ∙ ap (λ l. c.loop-spare.spare.items ++ l) chunk in
    let next : n + (len + 2) ≡ at + (len + 2) - start = omega (arith, behind) in
    let ends = doubled_within q inside n len low within i.front i.back a.0 a.1 a.2 more again in
    record {
      behind = omega (arith, behind);
      within = omega (arith, ends, here, from, length-drop start text);
      front = ap (λ k. is_utf8 (take k inside)) (sym next) ∙ doubled_front q inside n len low within i.front i.back a.0 a.1 a.2 more again;
      back = ap (λ k. is_utf8 (drop k inside)) (sym next) ∙ doubled_back q inside n len low within i.front i.back a.0 a.1 a.2 more again;
      marks = c.in-Some.ensures.marks;
      ahead = c.in-Some.ensures.ahead;
      written = subst (λ (k : ℕ). Unescapes q (take k inside) old c.extend_from_slice.new.self.items) next
          (subst (λ (l : List ℕ). Unescapes q (take (n + (len + 2)) inside) old l) (sym grown)
          (part_doubled q inside n len low within i.front i.back a.0 a.1 a.2 more again old c.loop-spare.spare.items i.written));
    }

pub returns-clause-value : goal.returns-clause-value
returns-clause-value c =
    let i = c.loop-spare.invariant in
    let s = c.args.self.symbols in
    let q = s.quote in
    let text : List ℕ = c.args.self.text.now in
    let start = c.args.start in
    let inside : List ℕ = drop start text in
    let at = c.loop-spare.at in
    let len = c.loop-spare.len in
    let old : List ℕ = c.args.spare.now.items in
    let n = at - start in
    let behind = i.behind in
    let from = i.within in
    let here : at ≡ start + n = omega (arith, behind) in
    let within : n ≤ length inside = omega (arith, from, here, length-drop start text) in
    let rest : drop n inside ≡ drop at text = drop-drop n start text ∙ ap (λ k. drop k text) (sym here) in
    let a = quote_ahead s text start n len (omega (arith, from, here)) (subst (λ (k : ℕ). StandsAhead (is_quote s) text k (length text) len) here i.ahead) in
    let chunk : take (at + len - at) (drop at text) ≡ take len (drop n inside) =
    ap (λ k. take k (drop at text)) (let e : at + len - at ≡ len = omega arith in e) ∙ ap (take len) (sym rest) in
    let grown : c.if-len-gt0.spare.items ≡ c.loop-spare.spare.items ++ take len (drop n inside) =
    elim c.if-len-gt0.branch [
      | then-len-gt0+in_ok-extend_from_slice-2 w ↦ ap (λ v. v.items) w.spare-is ∙ w.in_ok-extend_from_slice-2.ensures.items
          ∙ ap (λ l. c.loop-spare.spare.items ++ l) chunk
      | else-len-gt0 w ↦ ap (λ v. v.items) w.spare-is ∙ sym (append-nil c.loop-spare.spare.items)
          ∙ ap (λ k. c.loop-spare.spare.items ++ take k (drop n inside)) (let h = w.if-len-gt0.false in let e : 0 ≡ len = omega (arith, h) in e)
    ] in
    let place : n + len ≡ at + len - start = omega (arith, behind) in
    subst (λ (k : ℕ). IsUnescaped q inside old c.if-len-gt0.spare.items k) place (subst (λ (l : List ℕ). IsUnescaped q inside old l (n + len)) (sym grown)
    (part_last q inside n len c.args.self.same_symbols.quote_ascii within i.front i.back a.0 a.1 a.2 old c.loop-spare.spare.items i.written))

pub returns-clause-grows : goal.returns-clause-grows
returns-clause-grows c =
    let p = (returns-clause-value c).front in
    (p.text, p.written)
