-- The access that a line made, as a test sees it.
use Rattle.std.specs.Prelude.{List, [], ◌∷◌, Option, None, Some}
use Rattle.iom_inflight.specs.declared.made.MadeAt.{MadeAt}
use Rattle.iom_litmus_test.specs.declared.observable.Touch.{Touch}

abbrev pub touches_of : Option MadeAt → List Touch
touches_of None = []
touches_of (Some made) = record { device = made.device; kind = made.kind; frame = made.frame } ∷ []
