-- Where nobody writes what hardware reads, a scene that is surveyed is safe.
use Rattle.std.proofs.Common.{◌≡◌, ◌∙◌, inl, inr, ℕ, suc, Bool, true, false, List, [], ◌∷◌, slice_get, Option, None, Some, subst, refl, sym, ap}
use Rattle.std.specs.Prelude.{IfSome, IfNone, is_some, not}
use Rattle.std.proofs.lemmas.Bool.{false≢true}
use Rattle.std.proofs.lemmas.Bool.Decides.{eqb_tells}
use Rattle.iom_base.specs.declared.access.AccessKind.{AccessKind}
use Rattle.iom_base.specs.declared.access.AccessKind.TheVariants.{Write}
use Rattle.iom_reach.specs.Safe.{IsSafe}
use Rattle.iom_reach.specs.Scene.{HardwareScene}
use Rattle.iom_table_survey.specs.Reaches.{frames_by}
use Rattle.iom_table_survey.specs.Rows.{row_has}
use Rattle.iom_way_survey.specs.Surveys.{reaches_in_rows, Surveys, InventsNone, IsSurveyOf, IsReachedAs, IsClash, WritesCommon, IsConflictFree, IsConflict}
use Rattle.iom_way_survey.specs.declared.findings.Conflict.{Conflict}
use Rattle.iom_way_survey.specs.declared.findings.DeviceReach.{DeviceReach}
use Rattle.iom_way_survey.specs.declared.findings.Survey.{Survey}

-- what is reached, is reached by a row
row_of : (rows : List DeviceReach) (id : ℕ) (kind : AccessKind) (frame : ℕ) → reaches_in_rows rows id kind frame ≡ true
    → (k : ℕ) × (row : DeviceReach) × (slice_get rows k ≡ Some row) × ((row.id ≡ id) × (row_has (frames_by row.reach kind) frame ≡ true))
row_of [] id kind frame is = absurd (false≢true is)
row_of (row ∷ rows) id kind frame is = elim (eqb_tells row.id id) [
  | inl e ↦ (0, row, refl, (e.1, rw e.0 at is))
  | inr ne ↦ let (k, own, at, found) = row_of rows id kind frame (rw ne.0 at is) in (suc k, own, at, found)
]

pub apart_is_safe : (survey : Survey) (scene : HardwareScene) → IsConflictFree survey → Surveys survey scene → IsSafe scene
apart_is_safe survey scene apart surveys frame is_read (inl (device, untrusted, way)) =
    let (k, row, at, (same, reached)) = row_of survey.devices.items device Write frame (surveys.reached device frame Write way) in
    let no_trust : row.is_trusted ≡ false = surveys.trusted k row at ∙ ap scene.is_trusted same ∙ untrusted in
    apart.devices k row at no_trust frame (surveys.read frame is_read, reached)
apart_is_safe survey scene apart surveys frame is_read (inr stored) = apart.iommu frame (surveys.read frame is_read, surveys.stored frame stored)

-- where no conflict was found, and where one was
pub none_is_safe : (survey : Survey) (found : Option Conflict) (none : Bool) → IfNone found (IsConflictFree survey) → is_some found ≡ not none
    → none ≡ true → (scene : HardwareScene) → Surveys survey scene → IsSafe scene
none_is_safe survey None none apart is safe scene surveys = apart_is_safe survey scene apart surveys
none_is_safe survey (Some one) true apart is safe scene surveys = absurd (false≢true (sym is))
none_is_safe survey (Some one) false apart is safe scene surveys = absurd (false≢true safe)

pub some_conflicts : (survey : Survey) (found : Option Conflict) (none : Bool) → IfSome found (IsConflict survey) → is_some found ≡ not none
    → none ≡ false → (one : Conflict) × IsConflict survey one
some_conflicts survey (Some one) none conflict is found = (one, conflict)
some_conflicts survey None true conflict is found = absurd (false≢true (sym found))
some_conflicts survey None false conflict is found = absurd (false≢true is)

-- where one was, and the survey has what is there, somebody who isn't software writes what hardware reads
clash_by : (survey : Survey) (scene : HardwareScene) (by_whom : Option ℕ) (frame : ℕ) → IsSurveyOf survey scene → WritesCommon survey by_whom frame → IsClash scene
clash_by survey scene None frame (surveys, invents) (read, stored) =
    let (other, is, same) = invents.stored frame stored in (frame, invents.read frame read, (other, inr is, same))
clash_by survey scene (Some id) frame (surveys, invents) (k, row, at, (named, (untrusted, (read, reached)))) =
    let (other, way, same) = invents.reached k row frame Write at reached in
    (frame, invents.read frame read, (other, inl (row.id, sym (surveys.trusted k row at) ∙ untrusted, way), same))

pub some_clash : (survey : Survey) (found : Option Conflict) (none : Bool) → IfSome found (IsConflict survey) → is_some found ≡ not none
    → none ≡ false → (scene : HardwareScene) → IsSurveyOf survey scene → IsClash scene
some_clash survey found none conflict is no_one scene of =
    let (one, is_one) = some_conflicts survey found none conflict is no_one in clash_by survey scene one.device one.frame of is_one

-- what the survey has of a device is one of its ways
pub reached_is_way : (survey : Survey) (scene : HardwareScene) (id frame : ℕ) (kind : AccessKind) → InventsNone survey scene → reaches_in_rows survey.devices.items id kind frame ≡ true
    → IsReachedAs scene id frame kind
reached_is_way survey scene id frame kind invents is =
    let (k, row, at, (same, reached)) = row_of survey.devices.items id kind frame is in
    subst (λ (n : ℕ). IsReachedAs scene n frame kind) same (invents.reached k row frame kind at reached)
