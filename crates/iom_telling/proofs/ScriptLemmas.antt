-- What becomes of a script: a run of its lines, in a world of its size, tells it.
use Rattle.std.proofs.Common.{◌≡◌, ◌⊎◌, inl, inr, ℕ, Bool, List, Option, MatchOption, Some, Result, Ok, Err, OnOk, OnErr, refl, sym, ap, ◌∙◌, subst}
use Rattle.std.specs.Io.KnownBytes.{Keeps}
use Rattle.std.proofs.KnownBytes.{Keeps-refl}
use Rattle.iom_script.specs.declared.script.Script.{Script}
use Rattle.iom_script.specs.declared.script.ScriptLine.{ScriptLine}
use Rattle.iom_script.specs.declared.script.WorldSize.{WorldSize}
use Rattle.iom_virtio_blk.specs.DiskStates.{DiskState}
use Rattle.iom_world.specs.PowerOn.{BeginsAt}
use Rattle.iom_world.specs.Shown.{Shown}
use Rattle.iom_telling.specs.declared.fault.TellingFault.{TellingFault}
use Rattle.iom_telling.specs.declared.fault.TellingFault.TheVariants.{Memory}
use Rattle.iom_telling.specs.Scripts.{BeginsTold, TellsScript, WritesTold, world_text}
use Rattle.iom_telling.specs.Tellers.{BeginsRun, WritesRun}

-- the text is written
written : (disks : List DiskState) (explains : Bool) (size : WorldSize) (lines : List ScriptLine) (old new : Option (List ℕ)) (first : Shown) → BeginsAt size.frames size.levels disks first
    → WritesRun first explains (world_text size) lines old new → WritesTold disks explains size lines old new
written disks explains size lines old new first begins (last, tells, wrote) =
    (last.text, (record { now = first; text = world_text size; explains = explains }, last, begins, refl, refl, tells, refl), wrote)

-- or a beginning of it
begun : (disks : List DiskState) (explains : Bool) (size : WorldSize) (lines : List ScriptLine) (old new : Option (List ℕ)) (first : Shown) → BeginsAt size.frames size.levels disks first
    → BeginsRun first explains (world_text size) lines old new → BeginsTold disks explains size lines old new
begun disks explains size lines old new first begins (count, last, tells, front) =
    (count, last.text, (record { now = first; text = world_text size; explains = explains }, last, begins, refl, refl, tells, refl), front)

-- A RUN of the script's lines tells it
pub told_script : (disks : List DiskState) (explains : Bool) (script : Script) (size : WorldSize) (lines : List ScriptLine) (result : Result (Unit {0}) TellingFault) (old new : Option (List ℕ)) (first : Shown)
    → script.world ≡ Some size → lines ≡ script.lines → BeginsAt size.frames size.levels disks first → OnOk result (WritesRun first explains (world_text size) lines old new)
    → OnErr result (BeginsRun first explains (world_text size) lines old new) → TellsScript disks explains script result old new
told_script disks explains script size lines (Ok done) old new first is same begins told front =
    subst (λ (w : Option WorldSize). MatchOption w (Keeps old new) (λ s. WritesTold disks explains s script.lines old new)) (sym is)
    (subst (λ (l : List ScriptLine). WritesTold disks explains size l old new) same (written disks explains size lines old new first begins told))
told_script disks explains script size lines (Err fault) old new first is same begins told front =
    subst (λ (w : Option WorldSize). MatchOption w ⊥ (λ s. ((fault ≡ Memory) × Keeps old new) ⊎ BeginsTold disks explains s script.lines old new)) (sym is)
    (inr (subst (λ (l : List ScriptLine). BeginsTold disks explains size l old new) same (begun disks explains size lines old new first begins front)))

-- nothing is written where memory failed
pub untold : (disks : List DiskState) (explains : Bool) (script : Script) (size : WorldSize) (known : Option (List ℕ)) (result : Result (Unit {0}) TellingFault) (fault : TellingFault) → script.world ≡ Some size
    → result ≡ Err fault → fault ≡ Memory → TellsScript disks explains script result known known
untold disks explains script size known result fault there is memory =
    subst (λ (r : Result (Unit {0}) TellingFault). TellsScript disks explains script r known known) (sym (is ∙ ap (λ f. Err f) memory))
    (subst (λ (w : Option WorldSize). MatchOption w ⊥ (λ s. ((Memory ≡ Memory) × Keeps known known) ⊎ BeginsTold disks explains s script.lines known known)) (sym there) (inl (refl, Keeps-refl known)))
