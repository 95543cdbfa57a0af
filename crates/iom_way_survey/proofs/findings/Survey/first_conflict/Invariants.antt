use Rattle.std.proofs.Common.{◌≡◌, ◌<◌, ℕ, false, slice_get, Some}
use Rattle.iom_table_survey.specs.Rows.{StandInBoth}
use Rattle.iom_way_survey.specs.declared.findings.DeviceReach.{DeviceReach}
use Rattle.iom_way_survey.proofs.findings.Survey.first_conflict.Given as goal

-- no device before this one writes what hardware reads
abbrev pub invariant-loop-place : goal.invariant-loop-place
invariant-loop-place l = (k : ℕ) → k < l.place → (row : DeviceReach) → slice_get l.self.devices.items k ≡ Some row → row.is_trusted ≡ false → (frame : ℕ) → ¬ StandInBoth l.self.read row.reach.writable frame
