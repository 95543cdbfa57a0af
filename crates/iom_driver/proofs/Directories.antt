-- The device directory of a driver: at its start, while other frames change, and when a context is written or cleared.
use Rattle.std.proofs.Common.{zero, suc, ◌≡◌, ◌≢◌, ◌<◌, ◌≤◌, ◌∙◌, ◌⊎◌, ◌^◌, ◌==◌, if◌then◌else◌, inl, inr, ℕ, Bool, true, false, List, length, Contains, Option, Some, None, Ok, Err, slice_get, refl, sym, ap, subst, arith}
use Rattle.std.proofs.lemmas.Bool.Decides.{eqb_tells}
use Rattle.iom_base.specs.declared.cause.Cause.TheVariants.{DirectoryEntryNotValid}
use Rattle.iom_base.specs.declared.owner.Owner.{Owner}
use Rattle.iom_device_dir.specs.Located.{path_end_from}
use Rattle.iom_device_dir.specs.Paths.{ids_below}
use Rattle.iom_directory_build.specs.Changes.{KeepsOthers}
use Rattle.iom_directory_build.specs.Laws.{SameDirectory}
use Rattle.iom_directory_build.specs.Pages.{IsDirectory, HasPage, HasWholePath, root_level}
use Rattle.iom_directory_build.proofs.Unchanged.{unchanged}
use Rattle.iom_directory_build.proofs.Zeroed.{zeroed_root}
use Rattle.iom_phys_mem.specs.Words.{zeroed}
use Rattle.iom_driver.specs.declared.device.Device.{Device}
use Rattle.iom_driver.specs.declared.device.Stages.{Stages}
use Rattle.iom_driver.specs.declared.device.Attachment.TheVariants.{Detached, Attached}
use Rattle.iom_driver.specs.Devices.{attachment_by_id, attached_stages, owned_stages, stages_of, owned_stages_of}
use Rattle.iom_driver.specs.Directory.{context_for, located_for, IsDirectoryFrame, DirectoryStands}
use Rattle.iom_driver.specs.Layout.{IsLevels, AreFixed, directory_frame}
use Rattle.iom_base.specs.DeviceIds.{id_limit}

-- the directory stands, in a memory of so many frames
pub record DirectoryIn (frames : ℕ) (memory : List (List ℕ)) (owners : List (Option Owner)) (devices : List Device) (levels : ℕ) : Type 0 where
  pub tree : IsDirectory memory (root_level levels) (directory_frame frames)
  pub own : (page : ℕ) → HasPage memory (root_level levels) (directory_frame frames) page → IsDirectoryFrame owners frames page
  pub contexts : (id : ℕ) → id < ids_below (root_level levels) → path_end_from memory (root_level levels) (directory_frame frames) id ≡ located_for (stages_of devices id)
  pub places : (id : ℕ) (stage : Stages) → owned_stages_of devices id ≡ Some stage → id < ids_below (root_level levels) → HasWholePath memory (root_level levels) (directory_frame frames) id

pub stands_in : (frames : ℕ) (memory : List (List ℕ)) (owners : List (Option Owner)) (devices : List Device) (levels : ℕ) → length memory ≡ frames → DirectoryIn frames memory owners devices levels
    → DirectoryStands memory owners devices levels
stands_in frames memory owners devices levels size stands =
    let here = subst (λ n. DirectoryIn n memory owners devices levels) (sym size) stands in record { tree = here.tree; own = here.own; contexts = here.contexts; places = here.places }

pub in_stands : (frames : ℕ) (memory : List (List ℕ)) (owners : List (Option Owner)) (devices : List Device) (levels : ℕ) → length memory ≡ frames → DirectoryStands memory owners devices levels
    → DirectoryIn frames memory owners devices levels
in_stands frames memory owners devices levels size stands =
    subst (λ n. DirectoryIn n memory owners devices levels) size record { tree = stands.tree; own = stands.own; contexts = stands.contexts; places = stands.places }

pub low_levels : (levels : ℕ) → IsLevels levels → root_level levels ≤ 2
low_levels levels range = let high : levels ≤ 3 = range.1 in omega (arith, high)

-- the ids that the directory has room for
pub room_for_ids : (levels : ℕ) → IsLevels levels → id_limit levels ≡ ids_below (root_level levels)
room_for_ids levels range = by levels range.0 range.1
  where
    by : (n : ℕ) → 1 ≤ n → n ≤ 3 → id_limit n ≡ ids_below (root_level n)
    by zero low high = absurd (omega arith)
    by (suc zero) low high = refl
    by (suc (suc zero)) low high = refl
    by (suc (suc (suc zero))) low high = refl
    by (suc (suc (suc (suc n)))) low high = absurd (omega arith)

-- such an id has 24 bits
pub low_id : (levels id : ℕ) → id < id_limit levels → id < 16777216
low_id levels id = by (levels == 1) (levels == 2)
  where
    by : (one two : Bool) → id < (if one then 2 ^ 7 else if two then 2 ^ 16 else 2 ^ 24) → id < 16777216
    by true two lt = omega (arith, lt)
    by false true lt = omega (arith, lt)
    by false false lt = omega (arith, lt)

-- a directory frame stays one while its owner does
frame_stays : (owners owners' : List (Option Owner)) (frames page : ℕ) → slice_get owners' page ≡ slice_get owners page → IsDirectoryFrame owners frames page → IsDirectoryFrame owners' frames page
frame_stays owners owners' frames page same own = record { system = same ∙ own.system; no_command = own.no_command; no_fault = own.no_fault; no_completion = own.no_completion }

-- while its own frames stay as they are, bytes and owners, the same devices are attached, and none owns what it didn't
pub directory_stay : (frames : ℕ) (memory memory' : List (List ℕ)) (owners owners' : List (Option Owner)) (devices devices' : List Device) (levels : ℕ) → IsLevels levels → length memory' ≡ length memory
    → ((n : ℕ) → IsDirectoryFrame owners frames n → (slice_get memory' n ≡ slice_get memory n) × (slice_get owners' n ≡ slice_get owners n))
    → ((id : ℕ) → stages_of devices' id ≡ stages_of devices id) → ((id : ℕ) (stage : Stages) → owned_stages_of devices' id ≡ Some stage → owned_stages_of devices id ≡ Some stage)
    → DirectoryIn frames memory owners devices levels → DirectoryIn frames memory' owners' devices' levels
directory_stay frames memory memory' owners owners' devices devices' levels range size kept attached owned stands =
    let same : SameDirectory memory memory' (root_level levels) (directory_frame frames) =
    unchanged memory memory' (root_level levels) (directory_frame frames) (low_levels levels range) stands.tree size (λ f at. (kept f (stands.own f at)).0) in
    record {
      tree = same.directory;
      own = λ page at. let was = stands.own page ((same.pages page).0 at) in frame_stays owners owners' frames page (kept page was).1 was;
      contexts = λ id low. same.ends id low ∙ stands.contexts id low ∙ ap located_for (sym (attached id));
      places = λ id stage at low. same.paths id low (stands.places id stage (owned id stage at) low);
    }

-- an empty one, of a zeroed root
pub directory_starts : (frames : ℕ) (memory : List (List ℕ)) (owners : List (Option Owner)) (devices : List Device) (levels : ℕ) → IsLevels levels → 64 ≤ frames → AreFixed owners frames
    → slice_get memory (directory_frame frames) ≡ Some zeroed → ((id : ℕ) → attachment_by_id devices id ≡ Detached) → DirectoryIn frames memory owners devices levels
directory_starts frames memory owners devices levels range many fixed cleared none =
    let new = zeroed_root memory (root_level levels) (directory_frame frames) (low_levels levels range) cleared in
    record {
      tree = new.0;
      own = λ page at. let same = (new.1 page).0 at in subst (λ p. IsDirectoryFrame owners frames p) (sym same) record {
        system = fixed.directory;
        no_command = λ e. absurd (omega (arith, many, e));
        no_fault = λ e. absurd (omega (arith, many, e));
        no_completion = λ e. absurd (omega (arith, many, e));
      };
      contexts = λ id low. new.2 id low ∙ ap located_for (sym (ap attached_stages (none id)));
      places = λ id stage at low. absurd (none_some stage (sym (ap owned_stages (none id)) ∙ at));
    }
  where
    none_some : (stage : Stages) → ◌≡◌ {A = Option Stages} None (Some stage) → ⊥
    none_some stage same = cc

-- a device's context is cleared, and the device attached no more, but it owns what it did; no frame but the directory's changes
pub directory_cleared : (frames : ℕ) (memory memory' : List (List ℕ)) (owners : List (Option Owner)) (devices devices' : List Device) (levels id : ℕ)
    → DirectoryIn frames memory owners devices levels → IsDirectory memory' (root_level levels) (directory_frame frames)
    → ((f : ℕ) → HasPage memory' (root_level levels) (directory_frame frames) f → HasPage memory (root_level levels) (directory_frame frames) f)
    → path_end_from memory' (root_level levels) (directory_frame frames) id ≡ Err DirectoryEntryNotValid → KeepsOthers memory memory' (root_level levels) (directory_frame frames) id
    → ((other : ℕ) → other < ids_below (root_level levels) → HasWholePath memory (root_level levels) (directory_frame frames) other → HasWholePath memory' (root_level levels) (directory_frame frames) other)
    → stages_of devices' id ≡ None → ((other : ℕ) → other ≢ id → stages_of devices' other ≡ stages_of devices other)
    → ((other : ℕ) → owned_stages_of devices' other ≡ owned_stages_of devices other) → DirectoryIn frames memory' owners devices' levels
directory_cleared frames memory memory' owners devices devices' levels id stands tree pages here others paths none same owned = record {
  tree = tree;
  own = λ page at. stands.own page (pages page at);
  contexts = λ other low. elim (eqb_tells other id) [
    | inl e ↦ ap (λ i. path_end_from memory' (root_level levels) (directory_frame frames) i) e.1 ∙ here ∙ ap located_for (sym (ap (λ i. stages_of devices' i) e.1 ∙ none))
    | inr ne ↦ others other low ne.1 ∙ stands.contexts other low ∙ ap located_for (sym (same other ne.1))
  ];
  places = λ other stage at low. paths other low (stands.places other stage (sym (owned other) ∙ at) low);
}

-- a device's context is written, in the directory's pages and some more, and the device attached
pub directory_put : (frames : ℕ) (memory memory' : List (List ℕ)) (owners : List (Option Owner)) (devices devices' : List Device) (levels id : ℕ) (stage : Stages) (pages : List ℕ)
    → DirectoryIn frames memory owners devices levels → IsDirectory memory' (root_level levels) (directory_frame frames)
    → ((f : ℕ) → HasPage memory' (root_level levels) (directory_frame frames) f → HasPage memory (root_level levels) (directory_frame frames) f ⊎ Contains pages f)
    → ((f : ℕ) → Contains pages f → IsDirectoryFrame owners frames f)
    → path_end_from memory' (root_level levels) (directory_frame frames) id ≡ Ok (context_for stage) → KeepsOthers memory memory' (root_level levels) (directory_frame frames) id
    → HasWholePath memory' (root_level levels) (directory_frame frames) id
    → ((other : ℕ) → other < ids_below (root_level levels) → HasWholePath memory (root_level levels) (directory_frame frames) other → HasWholePath memory' (root_level levels) (directory_frame frames) other)
    → attachment_by_id devices' id ≡ Attached stage → ((other : ℕ) → other ≢ id → attachment_by_id devices' other ≡ attachment_by_id devices other) → DirectoryIn frames memory' owners devices' levels
directory_put frames memory memory' owners devices devices' levels id stage pages stands tree has fresh here others path paths now same = record {
  tree = tree;
  own = λ page at. elim (has page at) [ inl was ↦ stands.own page was | inr new ↦ fresh page new ];
  contexts = λ other low. elim (eqb_tells other id) [
    | inl e ↦ ap (λ i. path_end_from memory' (root_level levels) (directory_frame frames) i) e.1 ∙ here ∙ ap located_for (sym (ap (λ i. stages_of devices' i) e.1 ∙ ap attached_stages now))
    | inr ne ↦ others other low ne.1 ∙ stands.contexts other low ∙ ap located_for (sym (ap attached_stages (same other ne.1)))
  ];
  places = λ other s at low. elim (eqb_tells other id) [
    | inl e ↦ subst (λ i. HasWholePath memory' (root_level levels) (directory_frame frames) i) (sym e.1) path
    | inr ne ↦ paths other low (stands.places other s (sym (ap owned_stages (same other ne.1)) ∙ at) low)
  ];
}
