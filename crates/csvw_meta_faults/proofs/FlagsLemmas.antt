-- Flags of the items of a list, made one after another as a loop does.
use Rattle.std.proofs.Common.{◌≡◌, ℕ, ◌+◌, ◌<◌, List, [], ◌∷◌, ◌++◌, get_or, Bool, false, refl, sym, ap, subst, ◌∙◌, arith}
use Rattle.std.proofs.Common.{length-append, ◌⊎◌, inl, inr}
use Rattle.std.proofs.Math.ListN.{get_or-append}
use Rattle.std.proofs.Math.Seq.{get_or-append_seam}
use Rattle.csvw_meta_faults.specs.Flags.{AreFlags}

pub no_flags : (test : ℕ → Bool) → AreFlags test 0 []
no_flags test = record { size = refl; each = λ i lt. absurd (omega arith) }

last_or_before : (i n : ℕ) → i < n + 1 → (i < n) ⊎ (i ≡ n)
last_or_before i n lt = grind arith

pub flags_more : (test : ℕ → Bool) (n : ℕ) (flags : List Bool) (b : Bool) → AreFlags test n flags → b ≡ test n → AreFlags test (n + 1) (flags ++ b ∷ [])
flags_more test n flags b so_far is = record {
  size = length-append flags (b ∷ []) ∙ ap (λ k. k + 1) so_far.size;
  each = λ i lt. elim (last_or_before i n lt) [
    | inl before ↦ get_or-append flags (b ∷ []) false i (subst (λ k. i < k) (sym so_far.size) before) ∙ so_far.each i before
    | inr last ↦ subst (λ k. get_or (flags ++ b ∷ []) k false ≡ test k) (so_far.size ∙ sym last)
        (get_or-append_seam flags b [] false ∙ (is ∙ ap test (sym so_far.size)))
  ];
}
