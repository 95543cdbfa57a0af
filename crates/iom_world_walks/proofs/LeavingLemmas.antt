-- What a call or an event leaves of tables, by the little that it changes.
use Rattle.std.proofs.Common.{◌≡◌, ℕ, ◌⊎◌, inl, inr, ◌∙◌, Bool, true, false, List, ◌++◌, ◌∷◌, [], ◌==◌, is_some, length, map, Option, Some, None, refl, sym, ap, subst, if◌then◌else◌}
use Rattle.std.specs.Option.{option_map_or}
use Rattle.std.proofs.lemmas.Bool.{false≢true}
use Rattle.std.proofs.lemmas.Bool.Decides.{eqb_tells}
use Rattle.iom_base.specs.declared.mode.Mode.{Mode}
use Rattle.iom_base.specs.declared.mode.Mode.TheVariants.{First, Second, Both}
use Rattle.iom_driver.specs.declared.device.Attachment.{Attachment}
use Rattle.iom_driver.specs.declared.device.Device.{Device}
use Rattle.iom_driver.specs.declared.device.Stages.{Stages}
use Rattle.iom_driver.specs.declared.device.Attachment.TheVariants.{Detached, Attached, Quarantined, Leaving}
use Rattle.iom_driver.specs.Confirmed.{driven_once_confirmed, has_left_until}
use Rattle.iom_driver.specs.Devices.{attachment_by_id, attached_stages, device_by_id, has_device, owned_stages, owned_stages_of, with_attachment}
use Rattle.iom_driver.specs.Standing.{KeepsTablesIn, LeavesStanding}
use Rattle.iom_driver.specs.State.{DriverState}
use Rattle.iom_world_effects.proofs.DeviceLemmas.{after, attachment_set, attachment_other, attachment_confirmed}
use Rattle.iom_world_walks.specs.Leaving.{KeepsStages, LeavesTables}

-- STAGES

-- the same devices have the same
pub stages_same : (old new : DriverState) → new.devices ≡ old.devices → KeepsStages old new
stages_same old new same id stage owned = inl (ap (λ ds. owned_stages_of ds id) same ∙ owned)

-- a device that has tables is plugged in
owner_plugged : (devices : List Device) (id : ℕ) (stage : Stages) → owned_stages_of devices id ≡ Some stage → has_device devices id ≡ true
owner_plugged devices id stage owned = by (device_by_id devices id) refl owned
  where
    by : (found : Option Device) → device_by_id devices id ≡ found → owned_stages_of devices id ≡ Some stage → has_device devices id ≡ true
    by None is own = let none : owned_stages_of devices id ≡ None = rw is refl in cc
    by (Some device) is own = rw is refl

-- one device is attached otherwise, and has the stages that it had
pub stages_set : (old new : DriverState) (id : ℕ) (attachment : Attachment) → new.devices ≡ with_attachment old.devices id attachment
    → ((stage : Stages) → owned_stages_of old.devices id ≡ Some stage → owned_stages attachment ≡ Some stage) → KeepsStages old new
stages_set old new id attachment set own other stage owned = elim (eqb_tells other id) [
  | inl e ↦
      let mine : owned_stages_of old.devices id ≡ Some stage = ap (owned_stages_of old.devices) (sym e.1) ∙ owned in
      inl (ap (λ ds. owned_stages_of ds other) set ∙ ap (owned_stages_of (with_attachment old.devices id attachment)) e.1
      ∙ ap owned_stages (attachment_set old.devices id attachment (owner_plugged old.devices id stage mine)) ∙ own stage mine)
  | inr ne ↦ inl (ap (λ ds. owned_stages_of ds other) set ∙ ap owned_stages (attachment_other old.devices id other attachment ne.1) ∙ owned)
]

-- a device more, which is attached to nothing
owned_pushed : (devices : List Device) (device : Device) (other : ℕ) → device.attachment ≡ Detached → owned_stages_of (devices ++ device ∷ []) other ≡ owned_stages_of devices other
owned_pushed [] device other is = by (device.id == other)
  where
    by : (b : Bool) → owned_stages (option_map_or (λ (d : Device). d.attachment) (if b then Some device else None) Detached) ≡ None
    by true = ap owned_stages is
    by false = refl
owned_pushed (first ∷ others) device other is = by (first.id == other) (owned_pushed others device other is)
  where
    by : (b : Bool) → owned_stages_of (others ++ device ∷ []) other ≡ owned_stages_of others other → owned_stages (option_map_or (λ (d : Device). d.attachment) (if b then Some first else device_by_id (others ++ device ∷ []) other) Detached)
        ≡ owned_stages (option_map_or (λ (d : Device). d.attachment) (if b then Some first else device_by_id others other) Detached)
    by true rest = refl
    by false rest = rest

pub stages_plugged : (old new : DriverState) (device : Device) → new.devices ≡ old.devices ++ device ∷ [] → device.attachment ≡ Detached → KeepsStages old new
stages_plugged old new device same is id stage owned = inl (ap (λ ds. owned_stages_of ds id) same ∙ owned_pushed old.devices device id is ∙ owned)

-- those that leave under a ticket that is confirmed are detached
pub stages_confirmed : (old new : DriverState) (done : ℕ) → new.devices ≡ map (driven_once_confirmed done) old.devices → KeepsStages old new
stages_confirmed old new done same id stage owned = by (has_left_until done (attachment_by_id old.devices id)) refl
  where
    now : owned_stages_of new.devices id ≡ owned_stages (after done (attachment_by_id old.devices id))
    now = ap (λ ds. owned_stages_of ds id) same ∙ ap owned_stages (attachment_confirmed done old.devices id)

    by : (gone : Bool) → has_left_until done (attachment_by_id old.devices id) ≡ gone → (owned_stages_of new.devices id ≡ Some stage) ⊎ (owned_stages_of new.devices id ≡ None)
    by true is = inr (now ∙ ap (λ b. owned_stages (if b then Detached else attachment_by_id old.devices id)) is)
    by false is = inl (now ∙ ap (λ b. owned_stages (if b then Detached else attachment_by_id old.devices id)) is ∙ owned)

-- who is attached has these stages
pub attached_owned : (a : Attachment) (stage own : Stages) → attached_stages a ≡ Some stage → owned_stages a ≡ Some own → ◌≡◌ {A = Option Stages} (Some stage) (Some own)
attached_owned Detached stage own attached owned = cc
attached_owned (Attached stages) stage own attached owned = sym attached ∙ owned
attached_owned (Quarantined ticket stages) stage own attached owned = cc
attached_owned (Leaving ticket stages) stage own attached owned = cc

-- who has none has not these
pub none_owned : (stages : Option Stages) (stage : Stages) → is_some stages ≡ false → stages ≡ Some stage → ⊥
none_owned stages stage none some = false≢true (sym none ∙ ap is_some some)

-- TABLES

-- where memory is the same
tables_same : (mode : Mode) (memory : List (List ℕ)) (root : ℕ) → KeepsTablesIn mode memory memory root
tables_same (First size) memory root = λ prefix table shape at. at
tables_same (Second size) memory root = λ prefix table shape at. at
tables_same (Both size) memory root = λ prefix table shape at. at

standing_same : (old new : DriverState) (memory : List (List ℕ)) → LeavesStanding old memory new memory
standing_same old new memory = record {
  tables = λ id stage before after. tables_same stage.mode memory stage.root;
  pages = λ started level id page below at. at;
}

-- memory is the same, and each device has the stages that it had
pub leaves_memory : (old new : DriverState) (memory memory' : List (List ℕ)) → memory' ≡ memory → new.levels ≡ old.levels → KeepsStages old new → LeavesTables old memory new memory'
leaves_memory old new memory memory' same levels stages = subst (LeavesTables old memory new) (sym same) (record {
  size = refl;
  levels = levels;
  stages = stages;
  standing = standing_same old new memory;
})

-- memory and driver are the same
pub leaves_all : (old new : DriverState) (memory memory' : List (List ℕ)) → new ≡ old → memory' ≡ memory → LeavesTables old memory new memory'
leaves_all old new memory memory' driver same =
    leaves_memory old new memory memory' same (ap (λ (d : DriverState). d.levels) driver) (stages_same old new (ap (λ (d : DriverState). d.devices) driver))

-- the driver is the same, and says what is left
pub leaves_said : (old new : DriverState) (memory memory' : List (List ℕ)) → new ≡ old → length memory' ≡ length memory → LeavesStanding old memory old memory' → LeavesTables old memory new memory'
leaves_said old new memory memory' driver size standing = record {
  size = size;
  levels = ap (λ (d : DriverState). d.levels) driver;
  stages = stages_same old new (ap (λ (d : DriverState). d.devices) driver);
  standing = subst (λ (d : DriverState). LeavesStanding old memory d memory') (sym driver) standing;
}
