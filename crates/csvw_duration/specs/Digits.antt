-- The digits at the start of a text, and the text after them.
use Rattle.std.specs.Prelude.{ℕ, ◌≤◌, ◌&&◌, ◌==◌, nat_lt, Bool, Option, Some, None, if◌then◌else◌, List, [], ◌∷◌, length, drop}
use Rattle.std.specs.List.{take_while}
use Rattle.std.specs.Char.{is_ascii_digit}
use Rattle.std.specs.Str.Parse.{AllDigits, digits_value}

abbrev pub option_view : {A B : Type 0} → (A → B) → Option A → Option B
option_view f None = None
option_view f (Some x) = Some (f x)

infixl 10 ◌>>=◌
abbrev pub ◌>>=◌ : {A B : Type 0} → Option A → (A → Option B) → Option B
(Some x) >>= f = f x
None >>= f = None

-- the digits that a text begins with
abbrev pub first_digits : List ℕ → List ℕ
first_digits bs = take_while is_ascii_digit bs

-- a number has 1 to 9 digits, and so has a fraction
abbrev pub is_short : ℕ → Bool
is_short n = nat_lt 0 n && nat_lt n 10

-- the digits that a text begins with, 1 to 9 of them, and the text after them
abbrev pub digits_at : List ℕ → Option (List ℕ × List ℕ)
digits_at bs = if is_short (length (first_digits bs)) then Some (first_digits bs, drop (length (first_digits bs)) bs) else None

-- the number of those digits
abbrev pub number_at : List ℕ → Option (ℕ × List ℕ)
number_at bs = option_view (λ (x : List ℕ × List ℕ). (digits_value 10 x.0, x.1)) (digits_at bs)

-- the text after a byte, if it begins with it
abbrev pub after_byte : ℕ → List ℕ → Option (List ℕ)
after_byte by [] = None
after_byte by (b ∷ bs) = if b == by then Some bs else None

abbrev pub at_end : List ℕ → Option (Unit {0})
at_end [] = Some tt
at_end (b ∷ bs) = None

-- the digits after a point, 1 to 9 of them; without a point there is no digit
abbrev pub fraction_at : List ℕ → Option (List ℕ × List ℕ)
fraction_at [] = Some ([], [])
fraction_at (b ∷ bs) = if b == 46 then digits_at bs else Some ([], b ∷ bs)

-- digits, at most nine of them
abbrev pub IsFraction : List ℕ → Type 0
IsFraction ds = AllDigits 10 ds × (length ds ≤ 9)

-- digits without the zeros at their end
abbrev pub with_first : ℕ → List ℕ → List ℕ
with_first d [] = if d == 48 then [] else d ∷ []
with_first d (e ∷ es) = d ∷ e ∷ es

abbrev pub trimmed : List ℕ → List ℕ
trimmed [] = []
trimmed (d ∷ ds) = with_first d (trimmed ds)
