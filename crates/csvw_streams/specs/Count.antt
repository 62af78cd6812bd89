-- The count of failures, or of reads that report the end, after one more call. It stays at the greatest u64.
use Rattle.std.specs.Prelude.{ℕ, ◌+◌, ◌-◌, ◌^◌, min, Bool, true, false, List, [], ◌∷◌, Result, Ok, Err, suc, zero}

-- one more
abbrev pub one_more : ℕ → ℕ
one_more n = min (n + 1) (2 ^ 64 - 1)

-- the count after a call, which fails if it returns an error
abbrev pub after_call : {X E : Type 0} → Result X E → ℕ → ℕ
after_call (Err e) n = one_more n
after_call (Ok x) n = n

-- the count after a write, which also fails if it takes none of some bytes
abbrev pub after_write : {E : Type 0} → Result ℕ E → List ℕ → ℕ → ℕ
after_write (Err e) bytes n = one_more n
after_write (Ok k) [] n = n
after_write (Ok zero) (b ∷ bytes) n = one_more n
after_write (Ok (suc k)) (b ∷ bytes) n = n

-- the count of ends after a read: one more if it returned 0 bytes although the buffer has room
abbrev pub after_read : {E : Type 0} → Result ℕ E → List ℕ → ℕ → ℕ
after_read (Err e) buf n = n
after_read (Ok k) [] n = n
after_read (Ok zero) (b ∷ buf) n = one_more n
after_read (Ok (suc k)) (b ∷ buf) n = n

-- the count of ends of a reader that reported its end once or not at all
abbrev pub after_end : Bool → ℕ → ℕ
after_end true n = one_more n
after_end false n = n
