-- What a call answers that reads a value.
use Rattle.std.specs.Prelude.{◌≡◌, ◌↔◌, Option, Some}

-- the result is a value exactly where the fact holds of that value, and None where it holds of none
abbrev pub Reads : {X : Type 0} → Option X → (X → Type 0) → Type 0
Reads {X} result P = (x : X) → (result ≡ Some x) ↔ P x
