-- The front of a line stays when more is added to it.
use Rattle.std.proofs.Common.{◌≡◌, ◌∙◌, ◌++◌, ℕ, List, length, take, drop, sym, ap}
use Rattle.std.proofs.Math.Seq.{take-append_seam}
use Rattle.std.proofs.lemmas.List.{take-append-drop, append_assoc}

pub front_stays : (n : ℕ) (front xs ys : List ℕ) → take n xs ≡ front → n ≡ length front → take n (xs ++ ys) ≡ front
front_stays n front xs ys begins long =
    let whole = sym (take-append-drop n xs) ∙ ap (λ l. l ++ drop n xs) begins in
    ap (λ l. take n (l ++ ys)) whole ∙ ap (take n) (append_assoc front (drop n xs) ys) ∙ ap (λ k. take k (front ++ (drop n xs ++ ys))) long
    ∙ take-append_seam front (drop n xs ++ ys)
