-- The result of a call that may fail, compared with the expected one. All layers use this relation.
use Rattle.std.specs.Prelude.{◌≡◌, Option, Some, None, Result, Ok, Err}

-- an error that was expected; nothing is said of an error that cannot be expected, such as that memory ran out
abbrev pub Expected : {B F : Type 0} → Option F → Result B F → Type 0
Expected None expected = Unit {0}
Expected (Some f) expected = expected ≡ Err f

-- The result is the expected one: a value that is seen as the expected value, or an error that means the expected error.
abbrev pub Gives : {A B E F : Type 0} → (A → B) → (E → Option F) → Result A E → Result B F → Type 0
Gives view told (Ok a) expected = expected ≡ Ok (view a)
Gives view told (Err e) expected = Expected (told e) expected
