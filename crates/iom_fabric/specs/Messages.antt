-- What repeating a message answers, and what it leaves of the messages under way.
use Rattle.std.specs.Prelude.{nat_lt, List, [], ◌∷◌, ◌++◌, length, Option, Some, None, if◌then◌else◌}
use Rattle.iom_fabric.specs.declared.fabric.OnLink.{OnLink}
use Rattle.iom_fabric.specs.declared.fabric.Repeat.{Repeat}
use Rattle.iom_fabric.specs.declared.fabric.Repeat.TheVariants as repeat

-- a copy of the message goes last, if there is one and fewer than 64 are under way
abbrev pub repeated : List OnLink → Option OnLink → List OnLink
repeated messages None = messages
repeated messages (Some message) = if nat_lt (length messages) 64 then messages ++ message ∷ [] else messages

abbrev pub repeat_answer : List OnLink → Option OnLink → Repeat
repeat_answer messages None = repeat.Nothing
repeat_answer messages (Some message) = if nat_lt (length messages) 64 then repeat.Repeated else repeat.Lost
