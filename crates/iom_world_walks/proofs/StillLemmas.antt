-- Requests that stand in tables and in the directory stand there still, where these are left so.
use Rattle.std.proofs.Common.{◌≡◌, ℕ, ◌/◌, ◌⊎◌, inl, inr, ◌∙◌, true, List, length, None, Result, Contains, refl, sym, ap, subst}
use Rattle.std.proofs.Math.Logic.{∥∥₁_elim}
use Rattle.iom_base.specs.Sizes.{levels_of, page_size}
use Rattle.iom_base.specs.declared.size.Size.{Size}
use Rattle.iom_base.specs.declared.mode.Mode.{Mode}
use Rattle.iom_base.specs.declared.mode.Mode.TheVariants.{First, Second, Both}
use Rattle.iom_base.specs.declared.cause.Cause.{Cause}
use Rattle.iom_coherence.specs.Scene.{Scene}
use Rattle.iom_device_dir.specs.declared.context.Context.{Context}
use Rattle.iom_driver.specs.declared.device.Attachment.{Attachment}
use Rattle.iom_driver.specs.declared.device.Attachment.TheVariants as attached
use Rattle.iom_driver.specs.Devices.{attachment_by_id, owned_stages, owned_stages_of}
use Rattle.iom_driver.specs.Standing.{KeepsTablesIn}
use Rattle.iom_driver.specs.State.{DriverState}
use Rattle.iom_machine.specs.declared.state.Attachment.TheVariants.{Detached}
use Rattle.iom_stage_walk.specs.Both.{entry_address, guest_address}
use Rattle.iom_stage_walk.specs.Entries.{slot}
use Rattle.iom_standing_walks.specs.Driven.{DrivenWalksStand}
use Rattle.iom_standing_walks.specs.Judged.{IsOnItsWay}
use Rattle.iom_standing_walks.specs.Positions.{Position, ToEntry, AtEntry, ToPage, rest_of}
use Rattle.iom_stepped_requests.specs.Serving.{Remaining, Serves, Locates, Translates}
use Rattle.iom_stepped_requests.specs.Standing.{still_serving}
use Rattle.iom_stepped_requests.specs.declared.request.Request.{Request}
use Rattle.iom_stepped_walk.specs.Steps.{TableAnswer}
use Rattle.iom_stepped_walk.specs.declared.tables.Asked.{Asked}
use Rattle.iom_tlb.specs.declared.space.Space.{Space}
use Rattle.iom_walk_coherence.specs.Faithful.{MayStand, TablesStay}
use Rattle.iom_walk_coherence.specs.Walks.{Walk as UnderWayWalk, Standing, InTables, InGuestTable, walk_at}
use Rattle.iom_walk_loads.specs.Loads.{Walk}
use Rattle.iom_walk_loads.specs.Tables.{first_rest, second_rest}
use Rattle.iom_walks.specs.Walks.{WalkRow}
use Rattle.iom_world_effects.specs.Devices.{shown_attachment}
use Rattle.iom_world_effects.specs.Invariant.{InvariantWith}
use Rattle.iom_world_effects.specs.Parts.{Parts}
use Rattle.iom_world_effects.specs.Read.{values_of}
use Rattle.iom_world_effects.specs.Scenes.{IsSceneOf, FactsHold}
use Rattle.iom_world_walks.specs.Leaving.{LeavesTables}
use Rattle.iom_world_walks.specs.Standing.{StandsInDirectory, StandsAt, StandsInMode, StandsInTables, StandsAs, RowsStand}

-- IN THE DIRECTORY

directory_still : (driver new_driver : DriverState) (memory new_memory : List (List ℕ)) (id : ℕ) (rest : Walk (Result Context Cause)) → driver.started ≡ true
    → LeavesTables driver memory new_driver new_memory → StandsInDirectory driver memory id rest → StandsInDirectory new_driver new_memory id rest
directory_still driver new_driver memory new_memory id rest started leaves stands = record {
  level = stands.level;
  page = stands.page;
  fits = rw leaves.levels stands.fits;
  remains = stands.remains;
  is_there = rw (leaves.levels, leaves.size) (leaves.standing.pages started stands.level id stands.page stands.fits stands.is_there);
}

-- IN TABLES

module _ (driven : DrivenWalksStand) (old new : List (List ℕ)) (size : length new ≡ length old) where
  way_still : (table_size : Size) (root address table : ℕ) (done left : List ℕ) → KeepsTablesIn (Both table_size) old new root → IsOnItsWay table_size old root address table done left
      → IsOnItsWay table_size new root address table done left
  way_still table_size root address table done left keeps (physical, path, at) = (physical, path, driven (Both table_size) old new root (address / page_size) table done left keeps path at)

  position_still : (table_size : Size) (root : ℕ) (asked : Asked) (position : Position) (standing : Standing) → KeepsTablesIn (Both table_size) old new root
      → StandsAt table_size old root asked position standing → StandsAt table_size new root asked position standing
  position_still table_size root asked (ToEntry loaded guest i below table left) standing keeps (is, done, way) =
      (is, done, way_still table_size root (entry_address (slot guest i)) table done left keeps way)
  position_still table_size root asked (AtEntry loaded guest i below frame) standing keeps (is, inside) = (is, rw size inside)
  position_still table_size root asked (ToPage loaded page given level table left) standing keeps (is, allowed, done, way) =
      (is, allowed, done, way_still table_size root (guest_address page asked.address) table done left keeps way)

  mode_still : (mode : Mode) (root : ℕ) (asked : Asked) (rest : Walk TableAnswer) (standing : Standing) → KeepsTablesIn mode old new root
      → StandsInMode mode old root asked rest standing → StandsInMode mode new root asked rest standing
  mode_still (First table_size) root asked rest standing keeps stands = record {
    table = stands.table;
    left = stands.left;
    in_tables = stands.in_tables;
    canonical = stands.canonical;
    on_path = record {
      done = stands.on_path.done;
      path_is = stands.on_path.path_is;
      table_is = driven (First table_size) old new root (asked.address / page_size) stands.table stands.on_path.done stands.left keeps stands.on_path.path_is stands.on_path.table_is;
    };
    remains = stands.remains ∙ ap (λ n. first_rest n asked.kind stands.table stands.left) (sym size);
  }
  mode_still (Second table_size) root asked rest standing keeps stands = record {
    table = stands.table;
    left = stands.left;
    in_tables = stands.in_tables;
    physical = stands.physical;
    on_path = record {
      done = stands.on_path.done;
      path_is = stands.on_path.path_is;
      table_is = driven (Second table_size) old new root (asked.address / page_size) stands.table stands.on_path.done stands.left keeps stands.on_path.path_is stands.on_path.table_is;
    };
    remains = stands.remains ∙ ap (λ n. second_rest n asked.kind asked.address stands.table stands.left) (sym size);
  }
  mode_still (Both table_size) root asked rest standing keeps stands = record {
    position = stands.position;
    stands = position_still table_size root asked stands.position standing keeps stands.stands;
    remains = stands.remains
        ∙ ap (λ n. rest_of (record { frames = n; levels' = levels_of table_size; second = root; address = asked.address; kind = asked.kind }) stands.position) (sym size);
  }

-- A WALK IN TABLES is of no detached device

-- it stands in a table of the driver's, or at an entry of a guest's
abbrev pub IsOfTables : Standing → Type 0
IsOfTables standing = (standing ≡ InTables) ⊎ ((frame : ℕ) × (standing ≡ InGuestTable frame))

at_position : (size : Size) (memory : List (List ℕ)) (root : ℕ) (asked : Asked) (position : Position) (standing : Standing) → StandsAt size memory root asked position standing → IsOfTables standing
at_position size memory root asked (ToEntry loaded guest i below table left) standing stands = inl stands.0
at_position size memory root asked (AtEntry loaded guest i below frame) standing stands = inr (frame, stands.0)
at_position size memory root asked (ToPage loaded page given level table left) standing stands = inl stands.0

pub at_standing : (mode : Mode) (memory : List (List ℕ)) (root : ℕ) (asked : Asked) (rest : Walk TableAnswer) (standing : Standing) → StandsInMode mode memory root asked rest standing → IsOfTables standing
at_standing (First size) memory root asked rest standing stands = inl stands.in_tables
at_standing (Second size) memory root asked rest standing stands = inl stands.in_tables
at_standing (Both size) memory root asked rest standing stands = at_position size memory root asked stands.position standing stands.stands

tables_stay : (scene : Scene) (id : ℕ) (standing : Standing) → IsOfTables standing → MayStand scene id standing → TablesStay scene (scene.attachment_of id)
tables_stay scene id standing (inl is) may = subst (MayStand scene id) is may
tables_stay scene id standing (inr (frame, is)) may = (subst (MayStand scene id) is may).0

-- a device without tables is detached
without_tables : (attachment : Attachment) → owned_stages attachment ≡ None → shown_attachment attachment ≡ Detached
without_tables attached.Detached none = refl
without_tables (attached.Attached stage) none = cc
without_tables (attached.Quarantined ticket stage) none = cc
without_tables (attached.Leaving ticket stage) none = cc

never_without : {under_way : List UnderWayWalk} (parts : Parts) (events id : ℕ) (standing : Standing) → InvariantWith under_way parts events → Contains under_way (walk_at id standing) → IsOfTables standing
    → owned_stages_of parts.driver.devices id ≡ None → ⊥
never_without {under_way = under_way} parts events id standing invariants there tables none =
    ∥∥₁_elim invariants.copies (λ x y. absurd x) (λ (scene, shows, facts). by scene shows facts)
  where
    by : (scene : Scene) → IsSceneOf (values_of parts) scene → FactsHold scene under_way → ⊥
    by scene shows facts =
        subst (TablesStay scene) (shows.attachments id ∙ without_tables (attachment_by_id parts.driver.devices id) none)
        (tables_stay scene id standing tables (facts.standing (walk_at id standing) there))

-- EACH REQUEST

module _ (driven : DrivenWalksStand) (old new : Parts) (events : ℕ) (under_way : List UnderWayWalk) (started : old.driver.started ≡ true)
    (leaves : LeavesTables old.driver old.memory new.driver new.memory) (invariants : InvariantWith under_way new events) where
  tables_still : (request : Request) (context : Context) (translated : Space) (rest : Walk TableAnswer) (standing : Standing) → Contains under_way (walk_at request.device standing)
      → StandsInTables old.driver old.memory request context translated rest standing → StandsInTables new.driver new.memory request context translated rest standing
  tables_still request context translated rest standing there stands = elim (leaves.stages request.device stands.stage stands.owned) [
    | inl owned ↦ record {
      stage = stands.stage;
      owned = owned;
      context_is = stands.context_is;
      space_is = stands.space_is;
      stands = mode_still driven old.memory new.memory leaves.size stands.stage.mode stands.stage.root request.asked rest standing
          (leaves.standing.tables request.device stands.stage stands.owned owned) stands.stands;
    }
    | inr none ↦ absurd (never_without new events request.device standing invariants there
        (at_standing stands.stage.mode old.memory stands.stage.root request.asked rest standing stands.stands) none)
  ]

  remaining_still : (own : Request) (remaining : Remaining) → StandsAs old.driver old.memory under_way own remaining → StandsAs new.driver new.memory under_way own remaining
  remaining_still own (Serves answer) (wide, is) = (rw leaves.levels wide, is)
  remaining_still own (Locates request anew rest) (same, there, stands) = (same, there, directory_still old.driver new.driver old.memory new.memory own.device rest started leaves stands)
  remaining_still own (Translates request context translated rest) (same, standing, there, stands) = (same, standing, there, tables_still own context translated rest standing there stands)

  pub rows_still : (rows : List WalkRow) → RowsStand old.driver old.memory under_way rows → RowsStand new.driver new.memory under_way rows
  rows_still rows stand row own there is =
      let before = stand row own there is in (
        before.0,
        subst (λ n. StandsAs new.driver new.memory under_way own.request (still_serving n own.serving)) (sym leaves.size)
            (remaining_still own.request (still_serving (length old.memory) own.serving) before.1),
      )
