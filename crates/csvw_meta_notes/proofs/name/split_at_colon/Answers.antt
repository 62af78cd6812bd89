use Rattle.std.proofs.Common.{lit<, ◌≡◌, ◌<◌, Option, Some, None, MatchOption, length, arith}
use Rattle.std.specs.List.{position_or_len}
use Rattle.std.proofs.lemmas.Bool.Decides.{nat_tests}
use Rattle.std.proofs.lemmas.Str.Pattern.{split_once_first}
use Rattle.csvw_iri.specs.Prefix.{is_colon}
use Rattle.csvw_meta_notes.proofs.name.split_at_colon.Goals as goal

weaker : {A : Type 0} {P P' : Type 0} {Q Q' : A → Type 0} (r : Option A) → (P → P') → ((x : A) → Q x → Q' x)
    → MatchOption r P Q → MatchOption r P' Q'
weaker None f g h = f h
weaker (Some x) f g h = g x h

pub returns : goal.returns
returns c =
    let n = position_or_len is_colon c.args.text.now in
    let m = length c.args.text.now in
    weaker c.split_once.result (λ (e : n ≡ m). grind (arith, nat_tests)) (λ x q. let lt : n < m = q.0 in (grind (arith, nat_tests), q.1, q.2))
    (split_once_first 58 c.args.text.now c.split_once.result c.split_once.ensures.cases (lit< tt))
