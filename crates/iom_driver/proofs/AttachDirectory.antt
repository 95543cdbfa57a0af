-- What an attach does to memory, owners and the directory: frames are chosen and cleared, and then the context is put.
use Rattle.std.proofs.Common.{◌≡◌, ◌≢◌, ◌-◌, ◌<◌, ◌++◌, ◌∙◌, ◌⊎◌, inl, inr, ℕ, true, List, length, Option, Some, None, Ok, Err, Contains, slice_get, get_or, refl, sym, ap, subst, arith}
use Rattle.iom_base.specs.declared.cause.Cause.TheVariants.{DirectoryEntryNotValid}
use Rattle.iom_base.specs.declared.mode.Mode.{Mode}
use Rattle.iom_base.specs.declared.owner.Owner.{Owner}
use Rattle.iom_base.specs.declared.owner.Owner.TheVariants.{System, OneDevice}
use Rattle.iom_device_dir.specs.Located.{path_end_from}
use Rattle.iom_device_dir.specs.Paths.{ids_below}
use Rattle.iom_directory_build.proofs.Unchanged.{missing_stays}
use Rattle.iom_directory_build.specs.Changes.{KeepsOthers, KeepsPages, KeepsOutsideDirectory}
use Rattle.iom_directory_build.specs.Pages.{IsDirectory, HasPage, HasWholePath, AreFreshPages, root_level, missing_pages}
use Rattle.iom_phys_mem.specs.Words.{zeroed}
use Rattle.iom_driver.specs.declared.device.Device.{Device}
use Rattle.iom_driver.specs.declared.device.Stages.{Stages}
use Rattle.iom_driver.specs.Choices.{AreHighestFree, owned_by, cleared}
use Rattle.iom_driver.specs.Attaching.{IsRootBelow, root_frames, limit_below}
use Rattle.iom_driver.specs.declared.device.Attachment.TheVariants.{Attached}
use Rattle.iom_driver.specs.Devices.{attachment_by_id, stages_of}
use Rattle.iom_driver.specs.Directory.{context_for, located_for, IsDirectoryFrame}
use Rattle.iom_driver.specs.Layout.{IsLevels, AreFixed, directory_frame, fault_frame}
use Rattle.iom_driver.specs.Ready.{TablesStand}
use Rattle.iom_driver.specs.Invariant.{StateInvariant}
use Rattle.iom_driver.specs.State.{DriverState}
use Rattle.iom_driver.proofs.AttachRoots.{taken_so}
use Rattle.iom_driver.proofs.Directories.{DirectoryIn, directory_stay, directory_put, in_stands}
use Rattle.iom_driver.proofs.Owners.{Among, NotAmong, among_get, among_not, among_left, among_right, apart_either, not_among_left, all_among, among_contained, not_contained, length-cleared, length-owned_by, mark_stays, bytes_stay, marked_among, zero_among}
use Rattle.iom_driver.proofs.StandingLemmas.{pages_stay}
use Rattle.iom_driver.proofs.Taken.{unmarked, owned_differs, owned_not_taken, taken_owners, taken_stays, AreTaken, taken_inside, taken_free}

-- what the call that puts a context leaves
pub record IsPut (memory memory' : List (List ℕ)) (levels root id : ℕ) (stage : Stages) (pages : List ℕ) : Type 0 where
  pub tree : IsDirectory memory' (root_level levels) root
  pub has : (f : ℕ) → HasPage memory' (root_level levels) root f → HasPage memory (root_level levels) root f ⊎ Contains pages f
  pub here : path_end_from memory' (root_level levels) root id ≡ Ok (context_for stage)
  pub path : HasWholePath memory' (root_level levels) root id
  pub paths : (other : ℕ) → other < ids_below (root_level levels) → HasWholePath memory (root_level levels) root other → HasWholePath memory' (root_level levels) root other
  pub others : KeepsOthers memory memory' (root_level levels) root id
  pub keeps : KeepsPages memory memory' (root_level levels) root
  pub outside : KeepsOutsideDirectory memory memory' (root_level levels) root

-- What an attach finds: the directory stands, and the frames that it takes are free.
pub record MayTake (d : DriverState) (frames : ℕ) (memory : List (List ℕ)) (count : ℕ) (pages roots : List ℕ) : Type 0 where
  pub range : IsLevels d.levels
  pub size : length memory ≡ frames
  pub owned : length d.owners ≡ frames
  pub fixed : AreFixed d.owners frames
  pub stands : DirectoryIn frames memory d.owners d.devices d.levels
  pub taken : AreTaken d.owners d.ledger frames count pages roots

pub may_take : (d : DriverState) (frames : ℕ) (memory : List (List ℕ)) (count : ℕ) (mode : Mode) (root : ℕ) (pages : List ℕ)
    → StateInvariant d.ledger d.owners d.devices frames d.levels d.started d.given d.confirmed d.restarts d.restarted → TablesStand d memory → d.started ≡ true
    → AreHighestFree d.owners d.ledger None frames count pages → IsRootBelow mode d (limit_below frames pages) root → MayTake d frames memory count pages (root_frames mode root)
may_take d frames memory count mode root pages invariants stand runs chose is =
    let many : length memory ≡ frames = stand.size ∙ invariants.sizes.owned in
    record {
      range = invariants.sizes.in_range;
      size = many;
      owned = invariants.sizes.owned;
      fixed = invariants.fixed;
      stands = in_stands frames memory d.owners d.devices d.levels many (stand.directory runs);
      taken = taken_so mode d frames count pages root chose is;
    }

module _ (d : DriverState) (frames : ℕ) (memory : List (List ℕ)) (id count : ℕ) (pages roots : List ℕ) (may : MayTake d frames memory count pages roots) where
  abbrev between : List (List ℕ)
  between = cleared (pages ++ roots) memory

  abbrev owners' : List (Option Owner)
  owners' = taken_owners id pages roots d.owners

  -- a frame that is somebody's stays as it is
  pub owned_apart : (n : ℕ) (owner : Owner) → slice_get d.owners n ≡ Some (Some owner) → NotAmong n (pages ++ roots)
  owned_apart n owner own = owned_not_taken d.owners d.ledger frames count n pages roots owner may.owned may.taken own

  pub owned_kept : (n : ℕ) (owner : Owner) → slice_get d.owners n ≡ Some (Some owner) → (slice_get between n ≡ slice_get memory n) × (slice_get owners' n ≡ slice_get d.owners n)
  owned_kept n owner own = (bytes_stay n (pages ++ roots) memory (owned_apart n owner own), taken_stays id n pages roots d.owners (owned_apart n owner own))

  -- a taken frame is nobody's
  taken_unmarked : (n : ℕ) → Among n (pages ++ roots) → slice_get d.owners n ≡ Some None
  taken_unmarked n here =
      let inside : n < frames = taken_inside d.owners d.ledger frames count pages roots may.taken n here in
      let free = taken_free d.owners d.ledger frames count pages roots may.taken n here in
      unmarked d.owners n (omega (arith, inside, may.owned)) free.unmarked

  -- the directory stands while the frames are cleared
  pub stands_between : DirectoryIn frames between d.owners d.devices d.levels
  stands_between = directory_stay frames memory between d.owners d.owners d.devices d.devices d.levels may.range (length-cleared (pages ++ roots) memory)
      (λ n own. ((owned_kept n System own.system).0, refl)) (λ other. refl) (λ other s at. at) may.stands

  stands_marked : DirectoryIn frames between owners' d.devices d.levels
  stands_marked = directory_stay frames memory between d.owners owners' d.devices d.devices d.levels may.range (length-cleared (pages ++ roots) memory)
      (λ n own. owned_kept n System own.system) (λ other. refl) (λ other s at. at) may.stands

  -- a page of the directory was not taken
  page_owned : (f : ℕ) → HasPage between (root_level d.levels) (directory_frame frames) f → slice_get d.owners f ≡ Some (Some System)
  page_owned f at = (stands_between.own f at).system

  pub page_apart : (f : ℕ) → Among f (pages ++ roots) → HasPage between (root_level d.levels) (directory_frame frames) f → ⊥
  page_apart f here at = owned_differs d.owners f f System (page_owned f at) (taken_unmarked f here) refl

  taken_zero : (f : ℕ) → Among f (pages ++ roots) → slice_get between f ≡ Some zeroed
  taken_zero f here = zero_among (pages ++ roots) memory
      (all_among (λ n. n < length memory) (pages ++ roots) (λ n at. subst (λ m. n < m) (sym may.size) (taken_inside d.owners d.ledger frames count pages roots may.taken n at))) f here

  pub roots_zero : (f : ℕ) → Among f roots → slice_get between f ≡ Some zeroed
  roots_zero f here = taken_zero f (among_right f pages roots here)

  pub fresh : AreFreshPages between (root_level d.levels) (directory_frame frames) pages
  fresh = record {
    zero = λ k d lt. taken_zero (get_or pages k d) (among_left (get_or pages k d) pages roots (among_get pages k d lt));
    outside = λ k d lt at. page_apart (get_or pages k d) (among_left (get_or pages k d) pages roots (among_get pages k d lt)) at;
    distinct = may.taken.chosen.distinct;
  }

  pub counted : id < ids_below (root_level d.levels) → count ≡ missing_pages memory (root_level d.levels) (directory_frame frames) id
      → length pages ≡ missing_pages between (root_level d.levels) (directory_frame frames) id
  counted low is =
      may.taken.chosen.many ∙ is
      ∙ sym (missing_stays memory between (root_level d.levels) (directory_frame frames)
      (λ f at. (owned_kept f System (may.stands.own f at).system).0) id low)

  pub empty : id < ids_below (root_level d.levels) → stages_of d.devices id ≡ None → path_end_from between (root_level d.levels) (directory_frame frames) id ≡ Err DirectoryEntryNotValid
  empty low none = stands_between.contexts id low ∙ ap located_for none

  module _ (memory' : List (List ℕ)) (stage : Stages) (put : IsPut between memory' d.levels (directory_frame frames) id stage pages) where
    -- a frame that is neither a page of the directory nor one of the new ones keeps its bytes
    put_keeps : (f : ℕ) → (HasPage between (root_level d.levels) (directory_frame frames) f → ⊥) → NotAmong f pages → slice_get memory' f ≡ slice_get between f
    put_keeps f no_page apart = put.outside f (λ at. by f no_page apart (put.has f at))
      where
        by : (g : ℕ) → (HasPage between (root_level d.levels) (directory_frame frames) g → ⊥) → NotAmong g pages → HasPage between (root_level d.levels) (directory_frame frames) g ⊎ Contains pages g → ⊥
        by g no_page apart (inl was) = no_page was
        by g no_page apart (inr new) = among_not g pages apart (among_contained g pages new)

    pub others_keep : (f : ℕ) → slice_get d.owners f ≢ Some (Some System) → (Contains (pages ++ roots) f → ⊥) → slice_get memory' f ≡ slice_get memory f
    others_keep f differs apart =
        let none = not_contained f (pages ++ roots) apart in
        put_keeps f (λ at. differs (page_owned f at)) (not_among_left f pages roots none) ∙ bytes_stay f (pages ++ roots) memory none

    -- what the IOMMU reported stays
    pub reports_keep : slice_get memory' (fault_frame frames) ≡ slice_get memory (fault_frame frames)
    reports_keep =
        let kept = owned_kept (fault_frame frames) System may.fixed.fault in
        let apart = not_among_left (fault_frame frames) pages roots (owned_apart (fault_frame frames) System may.fixed.fault) in
        put_keeps (fault_frame frames) (λ at. (stands_between.own (fault_frame frames) at).no_fault refl) apart ∙ kept.0

    pub pages_keep : KeepsPages memory memory' (root_level d.levels) (directory_frame frames)
    pages_keep level one page low at =
        put.keeps level one page low
        (pages_stay d.levels (directory_frame frames) memory between may.range may.stands.tree (length-cleared (pages ++ roots) memory)
        (λ f has. (owned_kept f System (may.stands.own f has).system).0) level one page low at)

    pub devices_keep : (n other : ℕ) → slice_get d.owners n ≡ Some (Some (OneDevice other)) → (slice_get memory' n ≡ slice_get memory n) × (slice_get owners' n ≡ slice_get d.owners n)
    devices_keep n other own =
        let kept = owned_kept n (OneDevice other) own in
        (put_keeps n (λ at. not_both (page_owned n at)) (not_among_left n pages roots (owned_apart n (OneDevice other) own)) ∙ kept.0, kept.1)
      where
        not_both : slice_get d.owners n ≡ Some (Some System) → ⊥
        not_both system = let both : ◌≡◌ {A = Option (Option Owner)} (Some (Some System)) (Some (Some (OneDevice other))) = sym system ∙ own in cc

    -- the root's frames are zero, and the device's
    pub roots_new : (f : ℕ) → Among f roots → (slice_get memory' f ≡ Some zeroed) × (slice_get owners' f ≡ Some (Some (OneDevice id)))
    roots_new f here =
        let all = among_right f pages roots here in
        let long : length (owned_by System pages d.owners) ≡ frames = length-owned_by System pages d.owners ∙ may.owned in (
          put_keeps f (page_apart f all) (may.taken.apart f here) ∙ taken_zero f all,
          marked_among (OneDevice id) f roots (owned_by System pages d.owners)
              (all_among (λ n. n < length (owned_by System pages d.owners)) roots (λ n at. subst (λ m. n < m) (sym long) (may.taken.inside n at))) here,
        )

    -- a new page is the system's
    page_frame : (f : ℕ) → Contains pages f → IsDirectoryFrame owners' frames f
    page_frame f new =
        let here = among_contained f pages new in
        let free = taken_unmarked f (among_left f pages roots here) in
        record {
          system = mark_stays (OneDevice id) f roots (owned_by System pages d.owners) (apart_either pages roots may.taken.apart f here)
              ∙ marked_among System f pages d.owners (λ k d lt. subst (λ n. get_or pages k d < n) (sym may.owned) (may.taken.chosen.inside k d lt)) here;
          no_command = λ same. owned_differs d.owners (frames - 1) f System may.fixed.command free (sym same);
          no_fault = λ same. owned_differs d.owners (frames - 2) f System may.fixed.fault free (sym same);
          no_completion = λ same. owned_differs d.owners (frames - 3) f System may.fixed.completion free (sym same);
        }

    pub stands_after : (devices' : List Device) → attachment_by_id devices' id ≡ Attached stage → ((other : ℕ) → other ≢ id → attachment_by_id devices' other ≡ attachment_by_id d.devices other)
        → DirectoryIn frames memory' owners' devices' d.levels
    stands_after devices' now same =
        directory_put frames between memory' owners' d.devices devices' d.levels id stage pages stands_marked put.tree put.has page_frame put.here put.others put.path put.paths now same
