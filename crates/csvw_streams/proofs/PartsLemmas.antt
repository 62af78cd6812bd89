-- What follows from the parts of a line that were sent.
use Rattle.std.proofs.Common.{◌≡◌, ◌∙◌, ◌<◌, ◌+◌, ℕ, suc, List, [], ◌∷◌, ◌++◌, take, drop, get_or, length, map, refl, sym, ap, append_assoc, append-nil}
use Rattle.std.proofs.Common.{take-append-drop, add-one, Option, Result, Ok, Err, OnErr, OnOk, flat_map, is_ok, true, false}
use Rattle.std.proofs.KnownBytes.{Appends-nil, Appends-trans}
use Rattle.std.proofs.Math.Seq.{drop-cons, take-suc}
use Rattle.std.proofs.lemmas.List.{map-append}
use Rattle.std.proofs.lemmas.List.Concat.{flat_map-append}
use Rattle.std.proofs.lemmas.List.Folds.{concat-append}
use Rattle.std.specs.List.{concat}
use Rattle.csvw_streams.specs.Count.{one_more}
use Rattle.csvw_streams.specs.Lines.{SendsOn, shown}
use Rattle.csvw_streams.specs.Streams.{Stream, IsCut, Sends}

-- the same stream, up to and from a moment between
abbrev pub stream : Option (List ℕ) → Option (List ℕ) → ℕ → ℕ → Stream
stream held holds failures failed = record { held = held; holds = holds; failures = failures; failed = failed }

-- nothing was sent: the bytes are kept
pub kept : (a : Option (List ℕ)) (n : ℕ) (before bytes after : List ℕ) → after ≡ before ++ bytes → SendsOn (stream a a n n) before bytes after
kept a n before bytes after same = record {
  sent = [];
  sends = (Appends-nil a, refl);
  parts = sym same;
}

-- what was kept was sent, and then the bytes
pub sent_both : (a b c : Option (List ℕ)) (n m k : ℕ) (before bytes after : List ℕ) → Sends (stream a b n m) before → Sends (stream b c m k) bytes
    → after ≡ [] → SendsOn (stream a c n k) before bytes after
sent_both a b c n m k before bytes after p q none = record {
  sent = before ++ bytes;
  sends = (Appends-trans a b c before bytes p.0 q.0, q.1 ∙ p.1);
  parts = sym (ap (λ xs. (before ++ bytes) ++ xs) none ∙ append-nil (before ++ bytes));
}

-- what more was to be sent changes nothing
pub cut_first : (s : Stream) (xs ys : List ℕ) → IsCut s xs → IsCut s (xs ++ ys)
cut_first s xs ys q = record {
  front = q.front;
  rest = q.rest ++ ys;
  parts = ap (λ zs. zs ++ ys) q.parts ∙ append_assoc q.front q.rest ys;
  appended = q.appended;
  failed = q.failed;
}

-- some bytes were sent, and then a write was cut
pub cut_second : (a b c : Option (List ℕ)) (n m k : ℕ) (xs ys : List ℕ) → Sends (stream a b n m) xs → IsCut (stream b c m k) ys
    → IsCut (stream a c n k) (xs ++ ys)
cut_second a b c n m k xs ys p q = record {
  front = xs ++ q.front;
  rest = q.rest;
  parts = ap (λ zs. xs ++ zs) q.parts ∙ sym (append_assoc xs q.front q.rest);
  appended = Appends-trans a b c xs q.front p.0 q.appended;
  failed = q.failed ∙ ap one_more p.1;
}

-- parts of a line, one after the other
pub sends_then : (a b c : Option (List ℕ)) (n m k : ℕ) (x p y q z : List ℕ) → SendsOn (stream a b n m) x p y → SendsOn (stream b c m k) y q z
    → SendsOn (stream a c n k) x (p ++ q) z
sends_then a b c n m k x p y q z one two = record {
  sent = one.sent ++ two.sent;
  sends = (Appends-trans a b c one.sent two.sent one.sends.0 two.sends.0, two.sends.1 ∙ one.sends.1);
  parts = sym (append_assoc x p q) ∙ (ap (λ xs. xs ++ q) one.parts ∙ (append_assoc one.sent y q ∙ (ap (λ xs. one.sent ++ xs) two.parts
      ∙ sym (append_assoc one.sent two.sent z))));
}

-- the second part was cut
pub cut_then : (a b c : Option (List ℕ)) (n m k : ℕ) (x p y q : List ℕ) → SendsOn (stream a b n m) x p y → IsCut (stream b c m k) (y ++ q)
    → IsCut (stream a c n k) (x ++ (p ++ q))
cut_then a b c n m k x p y q one two =
    let same : x ++ (p ++ q) ≡ one.sent ++ (y ++ q) = sym (append_assoc x p q) ∙ (ap (λ xs. xs ++ q) one.parts ∙ append_assoc one.sent y q) in
    rw same (cut_second a b c n m k one.sent (y ++ q) one.sends two)

module _ {A : Type 0} (f : A → List ℕ) (xs : List A) (i : ℕ) (d : A) (below : i < length xs) where
  -- the texts of the first items and one more
  pub concat_next : concat (map f (take (i + 1) xs)) ≡ concat (map f (take i xs)) ++ f (get_or xs i d)
  concat_next = rw add-one (ap (λ ys. concat (map f ys)) (take-suc xs i d below) ∙ (ap concat (map-append f (take i xs) (get_or xs i d ∷ []))
      ∙ (concat-append (map f (take i xs)) (f (get_or xs i d) ∷ []) ∙ ap (λ ys. concat (map f (take i xs)) ++ ys) (append-nil (f (get_or xs i d))))))

  -- the texts of all items, by those before an item, that item and those after it
  pub concat_parts : concat (map f xs) ≡ concat (map f (take i xs)) ++ (f (get_or xs i d) ++ concat (map f (drop (suc i) xs)))
  concat_parts = ap (λ ys. concat (map f ys)) (sym (take-append-drop i xs)) ∙ (ap concat (map-append f (take i xs) (drop i xs))
      ∙ (concat-append (map f (take i xs)) (map f (drop i xs)) ∙ ap (λ ys. concat (map f (take i xs)) ++ concat (map f ys)) (drop-cons xs i d below)))

module _ {U E : Type 0} (r : Result U E) (a b c : Option (List ℕ)) (n m k : ℕ) (before bytes : List ℕ) (first : Sends (stream a b n m) before) where
  -- what was kept was sent; then the bytes are sent
  pub push_ok : (after : List ℕ) → OnOk r (Sends (stream b c m k) bytes) → after ≡ [] → OnOk r (SendsOn (stream a c n k) before bytes after)
  push_ok after last none = both r last
    where
      both : (x : Result U E) → OnOk x (Sends (stream b c m k) bytes) → OnOk x (SendsOn (stream a c n k) before bytes after)
      both (Ok u) last = sent_both a b c n m k before bytes after first last none
      both (Err e) last = tt

  -- or a write of them is cut
  pub push_cut : OnErr r (IsCut (stream b c m k) bytes) → OnErr r (IsCut (stream a c n k) (before ++ bytes))
  push_cut last = both r last
    where
      both : (x : Result U E) → OnErr x (IsCut (stream b c m k) bytes) → OnErr x (IsCut (stream a c n k) (before ++ bytes))
      both (Ok u) last = tt
      both (Err e) last = cut_second a b c n m k before bytes first last

module _ {A : Type 0} (f : A → List ℕ) (xs : List A) (i : ℕ) (d : A) (below : i < length xs) (bytes : List ℕ) (is : bytes ≡ f (get_or xs i d))
    (a b c : Option (List ℕ)) (n m k : ℕ) (before room : List ℕ) (done : SendsOn (stream a b n m) before (concat (map f (take i xs))) room) where
  -- one text more is added
  pub parts_more : (after : List ℕ) → SendsOn (stream b c m k) room bytes after → SendsOn (stream a c n k) before (concat (map f (take (i + 1) xs))) after
  parts_more after one =
      let next : concat (map f (take (i + 1) xs)) ≡ concat (map f (take i xs)) ++ bytes =
      concat_next f xs i d below ∙ ap (λ ys. concat (map f (take i xs)) ++ ys) (sym is) in
      rw next (sends_then a b c n m k before (concat (map f (take i xs))) room bytes after done one)

  -- a write of it is cut
  pub parts_cut : IsCut (stream b c m k) (room ++ bytes) → IsCut (stream a c n k) (before ++ concat (map f xs))
  parts_cut one =
      let rest = concat (map f (drop (suc i) xs)) in
      let whole : concat (map f xs) ≡ concat (map f (take i xs)) ++ (bytes ++ rest) =
      concat_parts f xs i d below ∙ ap (λ ys. concat (map f (take i xs)) ++ (ys ++ rest)) (sym is) in
      let more : IsCut (stream b c m k) (room ++ (bytes ++ rest)) =
      rw (sym (append_assoc room bytes rest)) (cut_first (stream b c m k) (room ++ bytes) rest one) in
      rw whole (cut_then a b c n m k before (concat (map f (take i xs))) room (bytes ++ rest) done more)

-- one character more
shown_next : (ys : List ℕ) (c : ℕ) → flat_map shown (ys ++ (c ∷ [])) ≡ flat_map shown ys ++ shown c
shown_next ys c = flat_map-append shown ys (c ∷ []) ∙ ap (λ xs. flat_map shown ys ++ xs) (append-nil (shown c))

module _ {U E : Type 0} (a b c : Option (List ℕ)) (n m k : ℕ) (before room after ys : List ℕ) (x : ℕ) where
  -- a character is added where those before it were
  pub char_ok : (r s : Result U E) → is_ok r ≡ true → OnOk r (SendsOn (stream a b n m) before (flat_map shown ys) room)
      → OnOk s (SendsOn (stream b c m k) room (shown x) after) → OnOk s (SendsOn (stream a c n k) before (flat_map shown (ys ++ (x ∷ []))) after)
  char_ok (Err e) s ok done one = cc
  char_ok (Ok u) (Err e) ok done one = tt
  char_ok (Ok u) (Ok v) ok done one = rw (shown_next ys x) (sends_then a b c n m k before (flat_map shown ys) room (shown x) after done one)

  -- a write of it is cut
  pub char_cut : (r s : Result U E) → is_ok r ≡ true → OnOk r (SendsOn (stream a b n m) before (flat_map shown ys) room)
      → OnErr s (IsCut (stream b c m k) (room ++ shown x)) → OnErr s (IsCut (stream a c n k) (before ++ flat_map shown (ys ++ (x ∷ []))))
  char_cut (Err e) s ok done one = cc
  char_cut (Ok u) (Ok v) ok done one = tt
  char_cut (Ok u) (Err e) ok done one = rw (shown_next ys x) (cut_then a b c n m k before (flat_map shown ys) room (shown x) done one)

-- after a write that was cut no character is added
pub none_ok : {U E : Type 0} (r : Result U E) (P Q : Type 0) → is_ok r ≡ false → OnOk r P → OnOk r Q
none_ok (Ok u) P Q failed p = cc
none_ok (Err e) P Q failed p = tt

pub stays_cut : {U E : Type 0} (r : Result U E) (s : Stream) (before ys : List ℕ) (x : ℕ) → OnErr r (IsCut s (before ++ flat_map shown ys))
    → OnErr r (IsCut s (before ++ flat_map shown (ys ++ (x ∷ []))))
stays_cut (Ok u) s before ys x p = tt
stays_cut (Err e) s before ys x p =
    rw (shown_next ys x) (rw (sym (append_assoc before (flat_map shown ys) (shown x))) (cut_first s (before ++ flat_map shown ys) (shown x) p))
