use Rattle.std.proofs.Common.{lit<, ◌≡◌, ◌<◌, Option, Some, None, MatchOption, length, arith, false, true, List, ℕ}
use Rattle.std.specs.List.{position_or_len, list_any}
use Rattle.std.proofs.lemmas.List.Folds.{list_any_none, list_any_at}
use Rattle.std.proofs.lemmas.List.Sums.{fails_before_first, passes_at_first}
use Rattle.std.proofs.lemmas.Str.Pattern.{split_once_first}
use Rattle.csvw_template.specs.Grammar.{is_close}
use Rattle.csvw_template.proofs.read.split_at_close.Goals as goal

weaker : {A : Type 0} {P P' : Type 0} {Q Q' : A → Type 0} (r : Option A) → (P → P') → ((x : A) → Q x → Q' x) → MatchOption r P Q → MatchOption r P' Q'
weaker None f g h = f h
weaker (Some x) f g h = g x h

none : (text : List ℕ) → position_or_len is_close text ≡ length text → list_any is_close text ≡ false
none text e = list_any_none is_close text (λ k d l. fails_before_first is_close text k d (omega (arith, e, l)))

some : (text : List ℕ) → position_or_len is_close text < length text → list_any is_close text ≡ true
some text l = list_any_at is_close text (position_or_len is_close text) 0 l (passes_at_first is_close text 0 l)

pub returns : goal.returns
returns c =
    weaker c.split_once.result (none c.args.text.now) (λ x q. (some c.args.text.now q.0, q.1, q.2))
    (split_once_first 125 c.args.text.now c.split_once.result c.split_once.ensures.cases (lit< tt))
