-- What a proposition says of an outcome.
use Rattle.std.specs.Prelude.{◌≡◌, ℕ, IsTrue, List, [], ◌∷◌, Option, Some, None, slice_get, MatchOption, ◌⊎◌}
use Rattle.iom_litmus_test.specs.declared.glob.Glob.{Glob}
use Rattle.iom_litmus_test.specs.declared.observable.Value.{Value}
use Rattle.iom_litmus_test.specs.declared.observable.Value.TheVariants.{Text, Truth}
use Rattle.iom_litmus_test.specs.declared.proposition.Atom.{Atom}
use Rattle.iom_litmus_test.specs.declared.proposition.Proposition.{Proposition}
use Rattle.iom_litmus_test.specs.declared.proposition.Proposition.TheVariants.{Seen, Not', And', Or'}
use Rattle.iom_litmus_test.specs.Globs.{Matches}

-- a text is like the glob that is wanted, or not empty where none is; a truth is true, and is no text
abbrev pub HoldsOf : Option Glob → Value → Type 0
HoldsOf (Some glob) (Text text) = Matches glob.parts text
HoldsOf (Some glob) (Truth truth) = ⊥
HoldsOf None (Text text) = ¬ (text ≡ [])
HoldsOf None (Truth truth) = IsTrue truth

-- of the value at the atom's place
abbrev pub HoldsAt : Atom → List Value → Type 0
HoldsAt atom outcome = MatchOption (slice_get outcome atom.place) ⊥ (HoldsOf atom.wanted)

-- the connectives are those of logic
abbrev pub HoldsOfOutcome : Proposition → List Value → Type 0
HoldsOfOutcome (Seen atom) outcome = HoldsAt atom outcome
HoldsOfOutcome (Not' _ inner) outcome = ¬ HoldsOfOutcome inner outcome
HoldsOfOutcome (And' _ left _ right) outcome = HoldsOfOutcome left outcome × HoldsOfOutcome right outcome
HoldsOfOutcome (Or' _ left _ right) outcome = HoldsOfOutcome left outcome ⊎ HoldsOfOutcome right outcome
