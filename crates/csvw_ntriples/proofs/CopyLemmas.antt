-- Bytes that are copied into a room, some after the others.
use Rattle.std.proofs.Common.{◌≡◌, ℕ, ◌+◌, ◌≤◌, List, ◌++◌, length, take, drop, sym, ap, subst, ◌∙◌, arith, length-append, length-drop}
use Rattle.std.proofs.Math.Seq.{take-add, take-append-add, take-append_seam}
use Rattle.std.proofs.lemmas.List.{length-take-le, take-append-drop, take-append-le}
use Rattle.csvw_ntriples.specs.PlainCopy.{IsCopied}

-- a room that has, after `front`, the bytes that were found and then what was there before
module _ (bytes room front behind found new : List ℕ) (at n : ℕ) (within : at + n ≤ length bytes) (copied : IsCopied bytes room at)
    (front_is : front ≡ take at room) (behind_is : behind ≡ drop at room) (found_is : found ≡ take n (drop at bytes))
    (new_is : new ≡ found ++ drop n behind) where
  ahead : length front ≡ at
  ahead = ap length front_is ∙ length-take-le at room (omega (arith, copied.0, within))

  some : length found ≡ n
  some = ap length found_is ∙ length-take-le n (drop at bytes) (omega (arith, length-drop at bytes, within))

  long : length (front ++ new) ≡ length bytes
  long =
      let whole : length new ≡ length found + length (drop n behind) = ap length new_is ∙ length-append found (drop n behind) in
      let left : length behind ≡ length (drop at room) = ap length behind_is in
      length-append front new ∙ omega (arith, ahead, some, whole, left, length-drop n behind, length-drop at room, copied.0, within)

  begins : take n new ≡ take n (drop at bytes)
  begins =
      ap (take n) new_is
      ∙ subst (λ k. take k (found ++ drop n behind) ≡ found) some (take-append_seam found (drop n behind))
      ∙ found_is

  same : take (at + n) (front ++ new) ≡ take (at + n) bytes
  same =
      subst (λ k. take (k + n) (front ++ new) ≡ front ++ take n new) ahead (take-append-add front new n)
      ∙ ap (λ z. front ++ z) begins
      ∙ ap (λ z. z ++ take n (drop at bytes)) (front_is ∙ copied.1)
      ∙ sym (take-add at n bytes)

  -- More bytes are copied after those before.
  pub copied_on : IsCopied bytes (front ++ new) (at + n)
  copied_on = (long, same)

first_of_first : (k n : ℕ) (xs : List ℕ) → k ≤ n → n ≤ length xs → take k xs ≡ take k (take n xs)
first_of_first k n xs le within =
    ap (take k) (sym (take-append-drop n xs)) ∙ take-append-le k (take n xs) (drop n xs) (omega (arith, length-take-le n xs within, le))

-- Fewer bytes are copied too.
pub copied_less : (bytes room : List ℕ) (k n : ℕ) → k ≤ n → n ≤ length bytes → IsCopied bytes room n → IsCopied bytes room k
copied_less bytes room k n le within copied = (
  copied.0,
  first_of_first k n room le (omega (arith, copied.0, within))
      ∙ ap (take k) copied.1
      ∙ sym (first_of_first k n bytes le within),
)
