-- How much the machine of a trace allows at a time, and the word that says so.
use Rattle.std.specs.Prelude.{◌≡◌, ℕ, ◌-◌, ◌^◌, ◌≤◌, List, [], Some, false, codes}
use Rattle.iom_machine.specs.PowerOn.{model_limits}
use Rattle.iom_machine.specs.declared.state.Limits.{Limits}
use Rattle.iom_script.specs.Grammar.{IsWorldLine}
use Rattle.iom_script.specs.Words.{◌␣◌, IsNumber}
use Rattle.iom_script.specs.declared.script.WorldSize.{WorldSize}
use Rattle.iom_trace_lines.specs.declared.trace.WorldLimits.{WorldLimits}
use Rattle.iom_trace_lines.specs.declared.trace.WorldLimits.TheVariants.{OfModel, Unlimited}

-- limits that no trace comes to: as much as can be counted, as many pages as an address of 64 bits can name, and tickets in any order
abbrev pub largest_limits : Limits
largest_limits = record { pending = 2 ^ 64 - 1; in_flight = 2 ^ 64 - 1; devices = 2 ^ 64 - 1; pages = Some (2 ^ 52); in_order = false }

-- the limits of the machine
abbrev pub limits_of : WorldLimits → Limits
limits_of OfModel = model_limits
limits_of Unlimited = largest_limits

-- what stands behind the size of the world: nothing, or the word
abbrev pub limits_text : WorldLimits → List ℕ
limits_text OfModel = []
limits_text Unlimited = codes " unlimited"

-- how large a world may be that has no limits
abbrev pub IsLargeSize : WorldSize → Type 0
IsLargeSize size = (64 ≤ size.frames) × (size.frames ≤ 2 ^ 40) × (1 ≤ size.levels) × (size.levels ≤ 3)

-- the line, without what stands behind the size, says how large such a world is
abbrev pub IsLargeWorldLine : List ℕ → WorldSize → Type 0
IsLargeWorldLine line size =
    (f l : List ℕ) × IsNumber f size.frames × IsNumber l size.levels × IsLargeSize size × (line ≡ codes "world" ␣ f ␣ l)

-- the same of a world with these limits: one of the model's is as large as that of a script
abbrev pub SaysSize : WorldLimits → List ℕ → WorldSize → Type 0
SaysSize OfModel line size = IsWorldLine line size
SaysSize Unlimited line size = IsLargeWorldLine line size
