-- What follows from the parts of a text that were sent.
use Rattle.std.proofs.Common.{◌≡◌, ◌∙◌, ℕ, List, [], ◌++◌, take, drop, sym, ap, append_assoc, append-nil, take-append-drop, Option, Result, Ok, Err}
use Rattle.std.proofs.Common.{is_ok, Bool, true, false, refl, inl, inr, OnErr, OnOk}
use Rattle.std.proofs.KnownBytes.{Appends-kept, Appends-trans}
use Rattle.std.specs.Io.KnownBytes.{Appends, Keeps}
use Rattle.csvw_streams.specs.Count.{after_call, one_more}
use Rattle.csvw_streams.specs.Lines.{SendsOn}
use Rattle.csvw_streams.specs.Streams.{Stream, IsCut, Sends, Tells}

-- the same stream, up to and from a moment between
abbrev pub stream : Option (List ℕ) → Option (List ℕ) → ℕ → ℕ → Stream
stream held holds failures failed = record { held = held; holds = holds; failures = failures; failed = failed }

-- a write was cut
pub cut_write : (a b : Option (List ℕ)) (n m : ℕ) (text : List ℕ) (k : ℕ) → Appends a b (take k text) → m ≡ one_more n → IsCut (stream a b n m) text
cut_write a b n m text k p failed = record {
  front = take k text;
  rest = drop k text;
  parts = sym (take-append-drop k text);
  appended = p;
  failed = failed;
}

-- the whole was written, and the flush failed
pub cut_flush : (a b c : Option (List ℕ)) (n m k : ℕ) (text : List ℕ) → Appends a b text → Keeps b c → m ≡ n → k ≡ one_more m → IsCut (stream a c n k) text
cut_flush a b c n m k text p q same failed = record {
  front = text;
  rest = [];
  parts = sym (append-nil text);
  appended = Appends-kept a b c text p q;
  failed = failed ∙ ap one_more same;
}

-- the whole was written and flushed
pub sent_flush : (a b c : Option (List ℕ)) (n m k : ℕ) (text : List ℕ) → Appends a b text → Keeps b c → m ≡ n → k ≡ m → Sends (stream a c n k) text
sent_flush a b c n m k text p q same still = (Appends-kept a b c text p q, still ∙ same)

-- what a flush leaves of a text that was written
pub flush_sent : {X E : Type 0} (r : Result X E) (a b c : Option (List ℕ)) (n m k : ℕ) (text : List ℕ) → Appends a b text → Keeps b c → m ≡ n
    → k ≡ after_call r m → is_ok r ≡ true → Sends (stream a c n k) text
flush_sent (Ok x) a b c n m k text p q same count done = sent_flush a b c n m k text p q same count
flush_sent (Err e) a b c n m k text p q same count done = cc

pub flush_cut : {X E : Type 0} (r : Result X E) (a b c : Option (List ℕ)) (n m k : ℕ) (text : List ℕ) → Appends a b text → Keeps b c → m ≡ n
    → k ≡ after_call r m → is_ok r ≡ false → IsCut (stream a c n k) text
flush_cut (Ok x) a b c n m k text p q same count not_done = cc
flush_cut (Err e) a b c n m k text p q same count not_done = cut_flush a b c n m k text p q same count

-- two texts went out
pub sends_both : (a b c : Option (List ℕ)) (n m k : ℕ) (xs ys : List ℕ) → Sends (stream a b n m) xs → Sends (stream b c m k) ys
    → Sends (stream a c n k) (xs ++ ys)
sends_both a b c n m k xs ys p q = (Appends-trans a b c xs ys p.0 q.0, q.1 ∙ p.1)

-- the second of two texts was cut
pub cut_second : (a b c : Option (List ℕ)) (n m k : ℕ) (xs ys : List ℕ) → Sends (stream a b n m) xs → IsCut (stream b c m k) ys
    → IsCut (stream a c n k) (xs ++ ys)
cut_second a b c n m k xs ys p q = record {
  front = xs ++ q.front;
  rest = q.rest;
  parts = ap (λ zs. xs ++ zs) q.parts ∙ sym (append_assoc xs q.front q.rest);
  appended = Appends-trans a b c xs q.front p.0 q.appended;
  failed = q.failed ∙ ap one_more p.1;
}

-- the first of two texts was cut
pub cut_first : (s : Stream) (xs ys : List ℕ) → IsCut s xs → IsCut s (xs ++ ys)
cut_first s xs ys q = record {
  front = q.front;
  rest = q.rest ++ ys;
  parts = ap (λ zs. zs ++ ys) q.parts ∙ append_assoc q.front q.rest ys;
  appended = q.appended;
  failed = q.failed;
}

-- of two texts the first went out
pub tells_second : (a b c : Option (List ℕ)) (n m k : ℕ) (xs ys : List ℕ) (sent : Bool) → Sends (stream a b n m) xs
    → (sent ≡ true → Sends (stream b c m k) ys) → (sent ≡ false → IsCut (stream b c m k) ys) → Tells (stream a c n k) (xs ++ ys)
tells_second a b c n m k xs ys true p sends cut = inl (sends_both a b c n m k xs ys p (sends refl))
tells_second a b c n m k xs ys false p sends cut = inr (cut_second a b c n m k xs ys p (cut refl))

-- of one text
pub tells : (s : Stream) (xs : List ℕ) (sent : Bool) → (sent ≡ true → Sends s xs) → (sent ≡ false → IsCut s xs) → Tells s xs
tells s xs true sends cut = inl (sends refl)
tells s xs false sends cut = inr (cut refl)

-- parts of a line, one after the other
pub sends_then : (a b c : Option (List ℕ)) (n m k : ℕ) (x p y q z : List ℕ) → SendsOn (stream a b n m) x p y → SendsOn (stream b c m k) y q z
    → SendsOn (stream a c n k) x (p ++ q) z
sends_then a b c n m k x p y q z one two = record {
  sent = one.sent ++ two.sent;
  sends = sends_both a b c n m k one.sent two.sent one.sends two.sends;
  parts = sym (append_assoc x p q) ∙ (ap (λ xs. xs ++ q) one.parts ∙ (append_assoc one.sent y q ∙ (ap (λ xs. one.sent ++ xs) two.parts
      ∙ sym (append_assoc one.sent two.sent z))));
}

-- the second part was cut
pub cut_then : (a b c : Option (List ℕ)) (n m k : ℕ) (x p y q : List ℕ) → SendsOn (stream a b n m) x p y → IsCut (stream b c m k) (y ++ q)
    → IsCut (stream a c n k) (x ++ (p ++ q))
cut_then a b c n m k x p y q one two =
    let same : x ++ (p ++ q) ≡ one.sent ++ (y ++ q) = sym (append_assoc x p q) ∙ (ap (λ xs. xs ++ q) one.parts ∙ append_assoc one.sent y q) in
    rw same (cut_second a b c n m k one.sent (y ++ q) one.sends two)

-- more was to be sent behind a part that was cut
pub cut_more : (s : Stream) (x p q : List ℕ) → IsCut s (x ++ p) → IsCut s (x ++ (p ++ q))
cut_more s x p q cut = rw (sym (append_assoc x p q)) (cut_first s (x ++ p) q cut)

module _ {U E : Type 0} (r : Result U E) (a b c : Option (List ℕ)) (n m k : ℕ) (x p y q z : List ℕ) (one : SendsOn (stream a b n m) x p y) where
  -- the last part was added, or cut
  pub last_ok : OnOk r (SendsOn (stream b c m k) y q z) → OnOk r (SendsOn (stream a c n k) x (p ++ q) z)
  last_ok two = on r two
    where
      on : (r : Result U E) → OnOk r (SendsOn (stream b c m k) y q z) → OnOk r (SendsOn (stream a c n k) x (p ++ q) z)
      on (Ok u) two = sends_then a b c n m k x p y q z one two
      on (Err e) two = tt

  pub last_cut : OnErr r (IsCut (stream b c m k) (y ++ q)) → OnErr r (IsCut (stream a c n k) (x ++ (p ++ q)))
  last_cut two = on r two
    where
      on : (r : Result U E) → OnErr r (IsCut (stream b c m k) (y ++ q)) → OnErr r (IsCut (stream a c n k) (x ++ (p ++ q)))
      on (Ok u) two = tt
      on (Err e) two = cut_then a b c n m k x p y q one two

-- the line was made, and what the room has of it is sent
pub tells_line : (a b c : Option (List ℕ)) (n m k : ℕ) (line after : List ℕ) (sent : Bool) → SendsOn (stream a b n m) [] line after
    → (sent ≡ true → Sends (stream b c m k) after) → (sent ≡ false → IsCut (stream b c m k) after) → Tells (stream a c n k) line
tells_line a b c n m k line after sent one sends cut =
    let tells = tells_second a b c n m k one.sent after sent one.sends sends cut in
    rw one.parts tells

-- what holds of a call that was Ok
pub of_ok : {U E : Type 0} (r : Result U E) (P : Type 0) → is_ok r ≡ true → OnOk r P → P
of_ok (Ok u) P ok p = p
of_ok (Err e) P ok p = cc
