-- What was written of an expansion is no longer than the whole, and encoding never shortens a text.
use Rattle.std.proofs.Common.{◌≡◌, ℕ, ◌<◌, ◌≤◌, ◌+◌, List, [], ◌∷◌, ◌++◌, Bool, Option, Some, None, take, drop, get_or, length, flat_map, map, ap, sym, ◌∙◌}
use Rattle.std.proofs.Common.{append-nil, arith, length-append, take-append-drop}
use Rattle.std.specs.Prelude.{if◌then◌else◌}
use Rattle.std.specs.List.{cons_option, filter_map}
use Rattle.std.proofs.lemmas.Bool.{cond_both}
use Rattle.std.proofs.lemmas.Grind.{flat_map-append}
use Rattle.std.proofs.lemmas.List.{take_more}
use Rattle.std.proofs.lemmas.List.Elements.{filter_map-append}
use Rattle.percent_encoding.specs.Percent.{percent_encode_byte}
use Rattle.csvw_text.specs.Class.{is_unreserved_char}
use Rattle.csvw_iri.specs.Encoded.{encoded_byte, percent_encoded}
use Rattle.csvw_template.specs.declared.part.Operator.{Operator}
use Rattle.csvw_template.specs.declared.part.Operator.TheVariants.{Simple, Reserved, Fragment}
use Rattle.csvw_template.specs.declared.vars.Var.{Var}
use Rattle.csvw_template.specs.declared.vars.Var.TheVariants.{Undefined, One, Many}
use Rattle.csvw_template.specs.Name.{after_comma}
use Rattle.csvw_template.specs.Expand.{begins_triplet, encoded, is_plain, kept, kept_byte, lead, sign, signed, value}
use Rattle.csvw_template.specs.Within.{plain_len}
use Rattle.csvw_template.proofs.SignedLemmas.{Wrote, is_none, more, next}

-- a bound of two texts
either : (b : Bool) (n : ℕ) (x y : List ℕ) → n ≤ length x → n ≤ length y → n ≤ length (if b then x else y)
either b n x y h k = cond_both b x y (λ (t : List ℕ). n ≤ length t) (λ _. h) (λ _. k)

triplet_len : (b : ℕ) → 1 ≤ length (percent_encode_byte b)
unfolding percent_encode_byte
triplet_len b = omega arith

percent_no_shorter : (text : List ℕ) → length text ≤ length (percent_encoded text)
percent_no_shorter [] = omega arith
percent_no_shorter (b ∷ bs) =
    let first = either (is_unreserved_char b) 1 (b ∷ []) (percent_encode_byte b) (omega arith) (triplet_len b) in
    let others = percent_no_shorter bs in
    let both = length-append (encoded_byte b) (percent_encoded bs) in
    omega arith

byte_no_shorter : (b : ℕ) (n : ℕ) (text : List ℕ) → n ≤ length text → 1 + n ≤ length (kept_byte b ++ text)
byte_no_shorter b n text h =
    let first = either (is_plain b) 1 (b ∷ []) (percent_encode_byte b) (omega arith) (triplet_len b) in
    let both = length-append (kept_byte b) text in
    omega arith

kept_no_shorter : (text : List ℕ) → length text ≤ length (kept text)
unfolding kept
kept_no_shorter [] = omega arith
kept_no_shorter (b ∷ []) = let one = byte_no_shorter b 0 [] (omega arith) in omega arith
kept_no_shorter (b ∷ c ∷ []) = let one = byte_no_shorter b 1 (kept (c ∷ [])) (kept_no_shorter (c ∷ [])) in omega arith
kept_no_shorter (b ∷ c ∷ d ∷ rest) =
    let whole = kept_no_shorter rest in
    let one = byte_no_shorter b (length (c ∷ d ∷ rest)) (kept (c ∷ d ∷ rest)) (kept_no_shorter (c ∷ d ∷ rest)) in
    either (begins_triplet (b ∷ c ∷ d ∷ rest)) (length (b ∷ c ∷ d ∷ rest)) (b ∷ c ∷ d ∷ kept rest) (kept_byte b ++ kept (c ∷ d ∷ rest))
    (omega arith) (omega arith)

encoded_no_shorter : (operator : Operator) (text : List ℕ) → length text ≤ length (encoded operator text)
encoded_no_shorter Simple text = percent_no_shorter text
encoded_no_shorter Reserved text = kept_no_shorter text
encoded_no_shorter Fragment text = kept_no_shorter text

listed_no_shorter : (operator : Operator) (items : List (List ℕ))
    → length (flat_map after_comma items) ≤ length (flat_map after_comma (map (encoded operator) items))
listed_no_shorter operator [] = omega arith
listed_no_shorter operator (item ∷ items) =
    let plain = length-append item (flat_map after_comma items) in
    let all = length-append (encoded operator item) (flat_map after_comma (map (encoded operator) items)) in
    let first = encoded_no_shorter operator item in
    let others = listed_no_shorter operator items in
    omega arith

-- the length of a value; nothing has none
abbrev pub value_len : Option (List ℕ) → ℕ
value_len None = 0
value_len (Some text) = length text

-- encoding never shortens a value
pub plain_no_longer : (operator : Operator) (var : Var) → plain_len var ≤ value_len (value operator var)
plain_no_longer operator Undefined = omega arith
plain_no_longer operator (One text) = encoded_no_shorter operator text
plain_no_longer operator (Many []) = omega arith
plain_no_longer operator (Many (item ∷ items)) =
    let plain = length-append item (flat_map after_comma items) in
    let all = length-append (encoded operator item) (flat_map after_comma (map (encoded operator) items)) in
    let first = encoded_no_shorter operator item in
    let others = listed_no_shorter operator items in
    omega arith

signed_grows : (operator : Operator) (vs ws : List (List ℕ)) → length (signed operator vs) ≤ length (signed operator (vs ++ ws))
signed_grows operator [] ws = omega arith
signed_grows operator (v ∷ vs) ws =
    let commas = λ (texts : List (List ℕ)). flat_map after_comma texts in
    let split = ap (λ (x : List ℕ). length x) (flat_map-append after_comma vs ws) in
    let more_commas = length-append (commas vs) (commas ws) in
    let front = length-append (sign operator) (v ++ commas vs) in
    let whole = length-append (sign operator) (v ++ commas (vs ++ ws)) in
    let front_texts = length-append v (commas vs) in
    let texts = length-append v (commas (vs ++ ws)) in
    omega arith

signed_one : (operator : Operator) (vs : List (List ℕ)) (v : Option (List ℕ))
    → length (signed operator vs) + value_len v ≤ length (signed operator (vs ++ cons_option v []))
signed_one operator vs None =
    let same = ap (λ (x : List (List ℕ)). length (signed operator x)) (append-nil vs) in
    omega arith
signed_one operator vs (Some text) =
    let same = ap (λ (x : List ℕ). length x) (more operator vs text) in
    let both = length-append (signed operator vs) (lead operator (is_none vs) ++ text) in
    let last = length-append (lead operator (is_none vs)) text in
    omega arith

-- what was written of an expression, and one more value
pub value_within : {A : Type 0} (operator : Operator) (gives : A → Option (List ℕ)) (xs : List A) (i : ℕ) (x : A) → i < length xs → x ≡ get_or xs i x
    → (start : List ℕ) (b : Bool) (old : List ℕ) → Wrote operator start (filter_map gives (take i xs)) b old
    → length old + value_len (gives x) ≤ length (start ++ signed operator (filter_map gives xs))
value_within operator gives xs i x lt is start b old w =
    let done = filter_map gives (take i xs) in
    let size = λ (vs : List (List ℕ)). length (signed operator vs) in
    let one = signed_one operator done (gives x) in
    let on = ap size (next operator gives xs i x lt is start b old old w) in
    let grows = signed_grows operator (filter_map gives (take (i + 1) xs)) (filter_map gives (drop (i + 1) xs)) in
    let whole = ap size (sym (filter_map-append gives (take (i + 1) xs) (drop (i + 1) xs)) ∙ ap (filter_map gives) (take-append-drop (i + 1) xs)) in
    let written = ap (λ (t : List ℕ). length t) w.written ∙ length-append start (signed operator done) in
    let all = length-append start (signed operator (filter_map gives xs)) in
    omega arith

-- what was written of a template, and one more part
pub part_within : {A : Type 0} (f : A → List ℕ) (xs : List A) (i : ℕ) (x : A) → i < length xs → x ≡ get_or xs i x
    → (start out : List ℕ) → out ≡ start ++ flat_map f (take i xs) → length (out ++ f x) ≤ length (start ++ flat_map f xs)
part_within f xs i x lt is start out written =
    let done = flat_map f (take i xs) in
    let size = λ (t : List ℕ). length t in
    let next_is = take_more xs i x lt ∙ ap (λ y. take i xs ++ y ∷ []) (sym is) in
    let next = ap (λ ys. size (flat_map f ys)) next_is ∙ ap size (flat_map-append f (take i xs) (x ∷ [])) ∙ length-append done (f x ++ []) in
    let one = length-append (f x) [] in
    let whole = ap (λ ys. size (flat_map f ys)) (sym (take-append-drop (i + 1) xs)) ∙ ap size (flat_map-append f (take (i + 1) xs) (drop (i + 1) xs))
    ∙ length-append (flat_map f (take (i + 1) xs)) (flat_map f (drop (i + 1) xs)) in
    let so_far = ap size written ∙ length-append start done in
    let more = length-append out (f x) in
    let all = length-append start (flat_map f xs) in
    omega arith
