use Rattle.std.proofs.Common.{◌≡◌, ◌≢◌, ◌∙◌, ℕ, List, ◌∷◌, true, false, Option, Some, Result, Ok, Err, OnOk, OnErr, length, slice_get, get_or, ◌<◌, ◌≤◌, refl, sym, ap, subst}
use Rattle.std.specs.Result.{is_err}
use Rattle.std.proofs.lemmas.Bool.{false≢true}
use Rattle.iom_base.specs.declared.owner.Owner.{Owner}
use Rattle.iom_base.specs.declared.owner.Owner.TheVariants.{OneDevice, System}
use Rattle.iom_base.specs.declared.rights.Rights.{Rights}
use Rattle.iom_base.specs.declared.size.Size.{Size}
use Rattle.iom_base.specs.Modes.{size_in}
use Rattle.iom_ledger.specs.Changes.{IsUnchanged, ShowsGrant}
use Rattle.iom_ledger.specs.declared.entry.HistoryEntry.TheVariants as entry
use Rattle.iom_ledger.specs.declared.ledger.Ledger.{Ledger}
use Rattle.iom_base.specs.declared.refusal.Refusal.TheVariants.{NoFrames}
use Rattle.iom_ledger.specs.History.{History}
use Rattle.iom_ledger.specs.Shown.{Agrees}
use Rattle.iom_page_table.specs.declared.leaf.PageLeaf.{PageLeaf}
use Rattle.iom_page_table.specs.FirstTables.{missing_for, mapped}
use Rattle.iom_table_frames.specs.Owners.{HasFree}
use Rattle.iom_driver.specs.Calls.{granted_leaf, KeepsOtherFrames, HasFrames, IsSame, LacksTables}
use Rattle.iom_driver.specs.Choices.{AreHighestFree, owned_by, cleared}
use Rattle.iom_driver.specs.declared.device.Stages.{Stages}
use Rattle.iom_driver.specs.Devices.{attachment_by_id, stages_of}
use Rattle.iom_driver.specs.Layout.{directory_frame, fault_frame}
use Rattle.iom_driver.specs.Reasons.{why_not_grant}
use Rattle.iom_driver.specs.StateOf.{state_of}
use Rattle.iom_driver.specs.Invariant.{StateInvariant}
use Rattle.iom_driver.specs.State.{DriverState}
use Rattle.iom_driver.specs.Tables.{HaveTables}
use Rattle.iom_driver.proofs.Chosen.{AreChosen, are_chosen, enough}
use Rattle.iom_driver.proofs.Directories.{directory_stay, in_stands, stands_in}
use Rattle.iom_driver.proofs.GrantTables.{missing_few, may_be_mapped, IsMapped, mapped_is, granted_keeps, others_kept, kept_others, tables_granted}
use Rattle.iom_driver.proofs.Keeps.{sound_granted}
use Rattle.iom_driver.proofs.Limits.{low_in_any}
use Rattle.iom_driver.proofs.Owners.{length-cleared, length-owned_by, mark_stays}
use Rattle.iom_driver.proofs.Places.{attached_owns}
use Rattle.iom_driver.proofs.StandingLemmas.{leaves_standing, one_changes, pages_stay}
use Rattle.iom_driver.proofs.Unchanged.{all_stay, ready_from}
use Rattle.iom_driver.proofs.Taken.{unmarked, owned_not_chosen}
use Rattle.iom_driver.proofs.FirstRefusals.{first_told, none_told}
use Rattle.iom_driver.proofs.driver.Driver.grant.Goals as goal

-- what is promised where there is no error, and where there is one
ok_then : {T E P : Type 0} (r : Result T E) → is_err r ≡ false → OnOk r P → P
ok_then (Ok x) same known = known
ok_then (Err y) same known = absurd (false≢true (sym same))

err_then : {T E P : Type 0} (r : Result T E) → is_err r ≡ true → OnErr r P → P
err_then (Ok x) same known = absurd (false≢true same)
err_then (Err y) same known = known

-- the system is no device
not_system : (id : ℕ) → ◌≡◌ {A = Owner} System (OneDevice id) → ⊥
not_system id same = cc

system_device : (id : ℕ) → ◌≡◌ {A = Option (Option Owner)} (Some (Some System)) (Some (Some (OneDevice id))) → ⊥
system_device id same = cc

-- the frames that are cleared and then mapped are the chosen ones
mapped_as : (size given : Size) (memory before after : List (List ℕ)) (root page : ℕ) (leaf : PageLeaf) (clears maps chosen : List ℕ) → given ≡ size → before ≡ cleared clears memory → clears ≡ chosen → maps ≡ chosen
    → IsMapped given before after root page leaf maps → IsMapped size (cleared chosen memory) after root page leaf chosen
mapped_as size given memory before after root page leaf clears maps chosen size_is is clears_is maps_is maps_so =
    subst (λ s. IsMapped s (cleared chosen memory) after root page leaf chosen) size_is
    (subst (λ m. IsMapped given m after root page leaf chosen) (is ∙ ap (λ fs. cleared fs memory) clears_is)
    (subst (λ fs. IsMapped given before after root page leaf fs) maps_is maps_so))

-- the chosen frames, below the end of memory
chosen_below : (owners : List (Option Owner)) (ledger : Ledger) (named limit count : ℕ) (chosen : List ℕ) (memory : List (List ℕ)) → limit ≡ length memory
    → AreHighestFree owners ledger (Some named) limit count chosen → AreChosen owners ledger (Some named) (length memory) count chosen
chosen_below owners ledger named limit count chosen memory many chose = are_chosen owners ledger (Some named) (length memory) count chosen (subst (λ n. AreHighestFree owners ledger (Some named) n count chosen) many chose)

-- nothing changes
same_state : (d : DriverState) → IsSame d d
same_state d = record {
  ledger = record { held = λ id page. refl; lingering = λ id page. refl; pending = refl };
  agrees = λ h agrees. agrees;
  rest = refl;
}

pub returns-in-Err : goal.returns-in-Err
returns-in-Err c =
    let d = state_of c.args.self.now in
    let memory = c.args.memory.now in
    record {
      effect = (
        first_told (why_not_grant d c.args.id c.args.mapping.page c.args.mapping.frame) (LacksTables d memory c.args.id c.args.mapping.page c.args.mapping.frame) c.in-Err.why c.in-Err.ensures.refused,
        same_state d,
        refl,
      );
      stand = c.requires.stand;
      ready = λ r ready. ready;
    }

-- where too few are free for the tables that the page lacks
no_frames : (d : DriverState) (memory : List (List ℕ)) (id page frame : ℕ) (stage : Stages) (frames lacking : ℕ) → stages_of d.devices id ≡ Some stage → frames ≡ length memory
    → lacking ≡ missing_for (size_in stage.mode) memory stage.root page → ¬ HasFree d.owners d.ledger (Some frame) lacking frames → ¬ HasFrames d memory id page frame
no_frames d memory id page frame stage frames lacking at many is none = λ has.
    let both : Some has.stage ≡ Some stage = sym has.attached ∙ at in
    let same : has.stage ≡ stage = cc in
    none (subst (λ n. HasFree d.owners d.ledger (Some frame) lacking n) (sym many)
    (subst (λ n. HasFree d.owners d.ledger (Some frame) n (length memory)) (sym is)
    (subst (λ (s : Stages). HasFree d.owners d.ledger (Some frame) (missing_for (size_in s.mode) memory s.root page) (length memory)) same has.enough)))

pub returns-in_default : goal.returns-in_default
returns-in_default c =
    let driver = c.args.self.now in
    let d = state_of driver in
    let memory = c.args.memory.now in
    let many : driver.frames ≡ length memory = sym (c.requires.stand.size ∙ driver.invariants.sizes.owned) in
    let counted = c.missing-lacking.ensures ∙ ap (λ s. missing_for s memory c.in-Ok.stage.root c.args.mapping.page) c.size-size.ensures in
    let without = no_frames d memory c.args.id c.args.mapping.page c.args.mapping.frame c.in-Ok.stage driver.frames c.missing-lacking.result c.in-Ok.ensures.may.attached many counted c.in_default.ensures.none in
    record {
      effect = (
        none_told (why_not_grant d c.args.id c.args.mapping.page c.args.mapping.frame) (LacksTables d memory c.args.id c.args.mapping.page c.args.mapping.frame) NoFrames c.in-Ok.ensures.admitted without,
        same_state d,
        refl,
      );
      stand = c.requires.stand;
      ready = λ r ready. ready;
    }

pub choose-requires : goal.choose-requires
choose-requires c = subst (λ n. n ≤ 3) (sym c.missing-lacking.ensures) (missing_few c.size-size.result c.args.memory.now c.in-Ok.stage.root c.args.mapping.page)

pub grant-requires : goal.grant-requires
grant-requires c = record {
  not_held = c.in-Ok.ensures.may.not_held;
  not_lingering = c.in-Ok.ensures.may.not_lingering;
  right = c.rights-rights.ensures.grantable;
}

pub reserve_all-requires : goal.reserve_all-requires
reserve_all-requires c =
    let driver = c.args.self.now in
    let memory = c.args.memory.now in
    let chosen = c.in-Some.tables.items in
    let are : AreChosen driver.owners driver.ledger (Some c.args.mapping.frame) driver.frames c.missing-lacking.result chosen =
    are_chosen driver.owners driver.ledger (Some c.args.mapping.frame) driver.frames c.missing-lacking.result chosen c.in-Some.ensures.chosen in
    rw c.as_slice.ensures.value record {
      owned = λ k d lt. subst (λ n. get_or chosen k d < n) (sym driver.invariants.sizes.owned) (are.inside k d lt);
      inside = λ k d lt. subst (λ n. get_or chosen k d < n) (sym (c.requires.stand.size ∙ driver.invariants.sizes.owned)) (are.inside k d lt);
    }

pub map-requires-clause-page : goal.map-requires-clause-page
map-requires-clause-page c = rw c.size-size.ensures c.in-Ok.ensures.may.page_low

pub map-requires-clause-rights : goal.map-requires-clause-rights
map-requires-clause-rights c = c.rights-rights.ensures.grantable

pub returns-then-is_err-clause-stand : goal.returns-then-is_err-clause-stand
returns-then-is_err-clause-stand c =
    let driver = c.args.self.now in
    let same : IsUnchanged driver.ledger c.grant.new.self = err_then c.grant.result (sym c.is_err.ensures.value ∙ c.if-is_err.true) c.grant.ensures.refused in
    record {
      size = c.requires.stand.size;
      tables = all_stay c.args.memory.now c.args.memory.now driver.owners driver.ledger c.grant.new.self driver.devices.items c.requires.stand.tables (λ n id own. refl) same.held;
      directory = c.requires.stand.directory;
    }

pub returns-then-is_err-clause-effect : goal.returns-then-is_err-clause-effect
returns-then-is_err-clause-effect c =
    let driver = c.args.self.now in
    let memory = c.args.memory.now in
    let failed = sym c.is_err.ensures.value ∙ c.if-is_err.true in
    let unchanged : IsUnchanged driver.ledger c.grant.new.self = err_then c.grant.result failed c.grant.ensures.refused in
    let many = sym (c.requires.stand.size ∙ driver.invariants.sizes.owned) in
    let chosen : AreHighestFree driver.owners driver.ledger (Some c.args.mapping.frame) (length memory) (missing_for (size_in c.in-Ok.stage.mode) memory c.in-Ok.stage.root c.args.mapping.page) c.in-Some.tables.items =
    subst (λ n. AreHighestFree driver.owners driver.ledger (Some c.args.mapping.frame) (length memory) n c.in-Some.tables.items)
    (c.missing-lacking.ensures ∙ ap (λ s. missing_for s memory c.in-Ok.stage.root c.args.mapping.page) c.size-size.ensures)
    (subst (λ n. AreHighestFree driver.owners driver.ledger (Some c.args.mapping.frame) n c.missing-lacking.result c.in-Some.tables.items) many c.in-Some.ensures.chosen) in (
      rw c.in-Ok.ensures.admitted record {
        stage = c.in-Ok.stage;
        attached = c.in-Ok.ensures.may.attached;
        enough = enough driver.owners driver.ledger (Some c.args.mapping.frame) (length memory) (missing_for (size_in c.in-Ok.stage.mode) memory c.in-Ok.stage.root c.args.mapping.page) c.in-Some.tables.items chosen;
      },
      record { ledger = unchanged; agrees = err_then c.grant.result failed c.grant.ensures.refused_agrees; rest = refl },
      refl,
    )

pub invariant_of-self-2 : goal.invariant_of-self-2
invariant_of-self-2 c =
    let driver = c.args.self.now in
    let tables = c.in-Some.tables.items in
    let may = c.in-Ok.ensures.may in
    let granted = ok_then c.grant.result (sym c.is_err.ensures.value ∙ c.if-is_err.false) c.grant.ensures.granted in
    let chose = are_chosen driver.owners driver.ledger (Some c.args.mapping.frame) (length driver.owners) c.missing-lacking.result tables
    (subst (λ n. AreHighestFree driver.owners driver.ledger (Some c.args.mapping.frame) n c.missing-lacking.result tables) (sym driver.invariants.sizes.owned) c.in-Some.ensures.chosen) in
    record {
      invariants =
          subst (λ (ms : List (Option Owner)). StateInvariant c.grant.new.self ms driver.devices.items driver.frames driver.levels driver.started driver.given driver.confirmed driver.restarts driver.restarted)
          (sym (c.reserve_all.ensures.owners ∙ ap (λ fs. owned_by (OneDevice c.args.id) fs driver.owners) c.as_slice.ensures.value))
          (sound_granted driver.ledger c.grant.new.self driver.owners driver.devices.items driver.frames driver.levels driver.started driver.given driver.confirmed driver.restarts driver.restarted c.args.id c.args.mapping.page c.args.mapping.frame c.rights-rights.result c.in-Ok.stage tables
          driver.invariants granted may.attached (low_in_any (size_in c.in-Ok.stage.mode) c.args.mapping.page may.page_low) (unmarked driver.owners c.args.mapping.frame may.inside may.unreserved) chose.inside chose.free);
    }

pub map-requires-clause-tree : goal.map-requires-clause-tree
map-requires-clause-tree c =
    let driver = c.args.self.now in
    let many = sym (c.requires.stand.size ∙ driver.invariants.sizes.owned) in
    let may = may_be_mapped c.args.memory.now driver.owners driver.ledger c.args.id c.in-Ok.stage.mode c.in-Ok.stage.root c.args.mapping.page c.args.mapping.frame c.missing-lacking.result c.in-Some.tables.items
    (c.requires.stand.tables c.args.id c.in-Ok.stage (attached_owns (attachment_by_id driver.devices.items c.args.id) c.in-Ok.stage c.in-Ok.ensures.may.attached)) c.in-Ok.ensures.may.page_low c.in-Ok.ensures.may.not_held
    (c.missing-lacking.ensures ∙ ap (λ s. missing_for s c.args.memory.now c.in-Ok.stage.root c.args.mapping.page) c.size-size.ensures)
    (chosen_below driver.owners driver.ledger c.args.mapping.frame driver.frames c.missing-lacking.result c.in-Some.tables.items c.args.memory.now many c.in-Some.ensures.chosen) in
    rw (c.size-size.ensures, c.reserve_all.ensures.memory, c.as_slice.ensures.value) may.tree

pub map-requires-clause-free : goal.map-requires-clause-free
map-requires-clause-free c =
    let driver = c.args.self.now in
    let many = sym (c.requires.stand.size ∙ driver.invariants.sizes.owned) in
    let may = may_be_mapped c.args.memory.now driver.owners driver.ledger c.args.id c.in-Ok.stage.mode c.in-Ok.stage.root c.args.mapping.page c.args.mapping.frame c.missing-lacking.result c.in-Some.tables.items
    (c.requires.stand.tables c.args.id c.in-Ok.stage (attached_owns (attachment_by_id driver.devices.items c.args.id) c.in-Ok.stage c.in-Ok.ensures.may.attached)) c.in-Ok.ensures.may.page_low c.in-Ok.ensures.may.not_held
    (c.missing-lacking.ensures ∙ ap (λ s. missing_for s c.args.memory.now c.in-Ok.stage.root c.args.mapping.page) c.size-size.ensures)
    (chosen_below driver.owners driver.ledger c.args.mapping.frame driver.frames c.missing-lacking.result c.in-Some.tables.items c.args.memory.now many c.in-Some.ensures.chosen) in
    rw (c.size-size.ensures, c.reserve_all.ensures.memory, c.as_slice.ensures.value) may.free

pub map-requires-clause-count : goal.map-requires-clause-count
map-requires-clause-count c =
    let driver = c.args.self.now in
    let many = sym (c.requires.stand.size ∙ driver.invariants.sizes.owned) in
    let may = may_be_mapped c.args.memory.now driver.owners driver.ledger c.args.id c.in-Ok.stage.mode c.in-Ok.stage.root c.args.mapping.page c.args.mapping.frame c.missing-lacking.result c.in-Some.tables.items
    (c.requires.stand.tables c.args.id c.in-Ok.stage (attached_owns (attachment_by_id driver.devices.items c.args.id) c.in-Ok.stage c.in-Ok.ensures.may.attached)) c.in-Ok.ensures.may.page_low c.in-Ok.ensures.may.not_held
    (c.missing-lacking.ensures ∙ ap (λ s. missing_for s c.args.memory.now c.in-Ok.stage.root c.args.mapping.page) c.size-size.ensures)
    (chosen_below driver.owners driver.ledger c.args.mapping.frame driver.frames c.missing-lacking.result c.in-Some.tables.items c.args.memory.now many c.in-Some.ensures.chosen) in
    rw (c.size-size.ensures, c.as_slice-2.ensures.value, c.reserve_all.ensures.memory, c.as_slice.ensures.value) may.count

pub map-requires-clause-fresh : goal.map-requires-clause-fresh
map-requires-clause-fresh c =
    let driver = c.args.self.now in
    let many = sym (c.requires.stand.size ∙ driver.invariants.sizes.owned) in
    let may = may_be_mapped c.args.memory.now driver.owners driver.ledger c.args.id c.in-Ok.stage.mode c.in-Ok.stage.root c.args.mapping.page c.args.mapping.frame c.missing-lacking.result c.in-Some.tables.items
    (c.requires.stand.tables c.args.id c.in-Ok.stage (attached_owns (attachment_by_id driver.devices.items c.args.id) c.in-Ok.stage c.in-Ok.ensures.may.attached)) c.in-Ok.ensures.may.page_low c.in-Ok.ensures.may.not_held
    (c.missing-lacking.ensures ∙ ap (λ s. missing_for s c.args.memory.now c.in-Ok.stage.root c.args.mapping.page) c.size-size.ensures)
    (chosen_below driver.owners driver.ledger c.args.mapping.frame driver.frames c.missing-lacking.result c.in-Some.tables.items c.args.memory.now many c.in-Some.ensures.chosen) in
    rw (c.size-size.ensures, c.as_slice-2.ensures.value, c.reserve_all.ensures.memory, c.as_slice.ensures.value) may.fresh

pub returns-clause-effect : goal.returns-clause-effect
returns-clause-effect c =
    let driver = c.args.self.now in
    let tables = c.in-Some.tables.items in
    let memory = c.args.memory.now in
    let right = c.rights-rights.ensures.value in
    let size = size_in c.in-Ok.stage.mode in
    let root = c.in-Ok.stage.root in
    let granted = ok_then c.grant.result (sym c.is_err.ensures.value ∙ c.if-is_err.false) c.grant.ensures.granted in
    let agrees = ok_then c.grant.result (sym c.is_err.ensures.value ∙ c.if-is_err.false) c.grant.ensures.agrees in
    let many = sym (c.requires.stand.size ∙ driver.invariants.sizes.owned) in (
      c.in-Ok.ensures.admitted,
      record {
        stage = c.in-Ok.stage;
        attached = c.in-Ok.ensures.may.attached;
        tables = tables;
        chosen = subst (λ n. AreHighestFree driver.owners driver.ledger (Some c.args.mapping.frame) n (missing_for size memory root c.args.mapping.page) tables) many
            (subst (λ n. AreHighestFree driver.owners driver.ledger (Some c.args.mapping.frame) driver.frames n tables) (c.missing-lacking.ensures ∙ ap (λ s. missing_for s memory root c.args.mapping.page) c.size-size.ensures) c.in-Some.ensures.chosen);
        shown = subst (λ (r : Rights). ShowsGrant driver.ledger c.grant.new.self c.args.id c.args.mapping.page (c.args.mapping.frame, r)) right granted;
        agrees = subst (λ (r : Rights). (h : History) → Agrees driver.ledger h → Agrees c.grant.new.self (entry.Granted c.args.id c.args.mapping.page c.args.mapping.frame r ∷ h)) right agrees;
        driver = rw (c.reserve_all.ensures.owners, c.as_slice.ensures.value) refl;
        bytes = mapped_is size memory c.reserve_all.new.memory c.map.new.memory root c.args.mapping.page (record { frame = c.args.mapping.frame; rights = c.rights-rights.result }) (granted_leaf c.args.mapping.frame c.args.mapping.rights)
            c.as_slice.result.now c.as_slice-2.result.now tables
            (c.map.ensures.whole ∙ ap (λ s. mapped s c.reserve_all.new.memory root c.args.mapping.page (record { frame = c.args.mapping.frame; rights = c.rights-rights.result }) c.as_slice-2.result.now) c.size-size.ensures)
            c.reserve_all.ensures.memory c.as_slice.ensures.value c.as_slice-2.ensures.value
            (ap (λ (r : Rights). granted_with c.args.mapping.frame r) right);
        others =
            let leaf : PageLeaf = record { frame = c.args.mapping.frame; rights = c.rights-rights.result } in
            let mapped_so = mapped_as size c.size-size.result memory c.reserve_all.new.memory c.map.new.memory root c.args.mapping.page leaf c.as_slice.result.now c.as_slice-2.result.now tables
            c.size-size.ensures c.reserve_all.ensures.memory c.as_slice.ensures.value c.as_slice-2.ensures.value record {
              tree = c.map.ensures.tree;
              tables = c.map.ensures.tables;
              leaf = c.map.ensures.leaf;
              outside = c.map.ensures.outside;
              keeps = c.map.ensures.keeps;
              long = c.map.ensures.size;
            } in
            subst (λ (ms : List (Option Owner)). KeepsOtherFrames ms c.args.id memory c.map.new.memory)
            (sym (c.reserve_all.ensures.owners ∙ ap (λ fs. owned_by (OneDevice c.args.id) fs driver.owners) c.as_slice.ensures.value))
            (others_kept memory c.map.new.memory driver.owners driver.ledger c.args.id c.in-Ok.stage.mode root c.args.mapping.page c.args.mapping.frame c.missing-lacking.result leaf tables (sym c.requires.stand.size)
            (c.requires.stand.tables c.args.id c.in-Ok.stage (attached_owns (attachment_by_id driver.devices.items c.args.id) c.in-Ok.stage c.in-Ok.ensures.may.attached))
            (chosen_below driver.owners driver.ledger c.args.mapping.frame driver.frames c.missing-lacking.result tables memory many c.in-Some.ensures.chosen) mapped_so);
        standing =
            let stage = c.in-Ok.stage in
            let stand = c.requires.stand in
            let named = c.args.mapping.frame in
            let lacking = c.missing-lacking.result in
            let new = c.map.new.memory in
            let leaf : PageLeaf = record { frame = named; rights = c.rights-rights.result } in
            let mapped_so = mapped_as size c.size-size.result memory c.reserve_all.new.memory new root c.args.mapping.page leaf c.as_slice.result.now c.as_slice-2.result.now tables
            c.size-size.ensures c.reserve_all.ensures.memory c.as_slice.ensures.value c.as_slice-2.ensures.value record {
              tree = c.map.ensures.tree;
              tables = c.map.ensures.tables;
              leaf = c.map.ensures.leaf;
              outside = c.map.ensures.outside;
              keeps = c.map.ensures.keeps;
              long = c.map.ensures.size;
            } in
            let owns = attached_owns (attachment_by_id driver.devices.items c.args.id) stage c.in-Ok.ensures.may.attached in
            let before = stand.tables c.args.id stage owns in
            let chose = chosen_below driver.owners driver.ledger named driver.frames lacking tables memory many c.in-Some.ensures.chosen in
            let kept : (n : ℕ) (owner : Owner) → slice_get driver.owners n ≡ Some (Some owner) → owner ≢ OneDevice c.args.id → slice_get new n ≡ slice_get memory n =
            λ n owner mark other. kept_others memory new driver.owners driver.ledger c.args.id stage.mode root c.args.mapping.page named lacking n leaf tables owner (sym stand.size) before chose mapped_so mark other in
            leaves_standing (state_of driver) _ driver.frames memory new (sym many) stand.tables
            (λ other s was is. one_changes memory new driver.owners driver.ledger driver.devices.items c.args.id stage stand.tables owns
            (granted_keeps memory new driver.owners driver.ledger c.args.id stage.mode root c.args.mapping.page named lacking leaf tables before chose mapped_so)
            (λ n one apart mark. kept n (OneDevice one) mark (λ same. apart (one_device one c.args.id same))) other s was)
            (λ started.
            let here = in_stands driver.frames memory driver.owners driver.devices.items driver.levels (sym many) (stand.directory started) in
            pages_stay driver.levels (directory_frame driver.frames) memory new driver.invariants.sizes.in_range here.tree (mapped_so.long ∙ length-cleared tables memory)
            (λ f at. kept f System (here.own f at).system (λ same. not_system c.args.id same)));
      },
    )
  where
    one_device : (one other : ℕ) → ◌≡◌ {A = Owner} (OneDevice one) (OneDevice other) → one ≡ other
    one_device one other same = cc

    granted_with : ℕ → Rights → PageLeaf
    granted_with frame rights = record { frame = frame; rights = rights }

pub returns-clause-stand : goal.returns-clause-stand
returns-clause-stand c =
    let driver = c.args.self.now in
    let tables = c.in-Some.tables.items in
    let memory = c.args.memory.now in
    let may = c.in-Ok.ensures.may in
    let leaf : PageLeaf = record { frame = c.args.mapping.frame; rights = c.rights-rights.result } in
    let mapped_so = mapped_as (size_in c.in-Ok.stage.mode) c.size-size.result memory c.reserve_all.new.memory c.map.new.memory c.in-Ok.stage.root c.args.mapping.page leaf c.as_slice.result.now c.as_slice-2.result.now tables
    c.size-size.ensures c.reserve_all.ensures.memory c.as_slice.ensures.value c.as_slice-2.ensures.value record {
      tree = c.map.ensures.tree;
      tables = c.map.ensures.tables;
      leaf = c.map.ensures.leaf;
      outside = c.map.ensures.outside;
      keeps = c.map.ensures.keeps;
      long = c.map.ensures.size;
    } in
    let granted = ok_then c.grant.result (sym c.is_err.ensures.value ∙ c.if-is_err.false) c.grant.ensures.granted in
    let many = sym (c.requires.stand.size ∙ driver.invariants.sizes.owned) in
    let chose = chosen_below driver.owners driver.ledger c.args.mapping.frame driver.frames c.missing-lacking.result tables memory many c.in-Some.ensures.chosen in
    let owners = c.reserve_all.ensures.owners ∙ ap (λ fs. owned_by (OneDevice c.args.id) fs driver.owners) c.as_slice.ensures.value in
    record {
      size = mapped_so.long ∙ length-cleared tables memory ∙ c.requires.stand.size ∙ sym (length-owned_by (OneDevice c.args.id) tables driver.owners) ∙ sym (ap (λ (ms : List (Option Owner)). length ms) owners);
      tables =
          subst (λ (ms : List (Option Owner)). HaveTables c.map.new.memory ms c.grant.new.self driver.devices.items) (sym owners)
          (tables_granted memory c.map.new.memory driver.owners driver.ledger c.grant.new.self driver.devices.items c.args.id c.args.mapping.page c.args.mapping.frame c.missing-lacking.result c.rights-rights.result c.in-Ok.stage tables
          (sym c.requires.stand.size) c.requires.stand.tables (attached_owns (attachment_by_id driver.devices.items c.args.id) c.in-Ok.stage c.in-Ok.ensures.may.attached) may.page_low granted chose mapped_so);
      directory = λ started.
          let before = c.requires.stand.tables c.args.id c.in-Ok.stage (attached_owns (attachment_by_id driver.devices.items c.args.id) c.in-Ok.stage c.in-Ok.ensures.may.attached) in
          let size : length c.map.new.memory ≡ length memory = mapped_so.long ∙ length-cleared tables memory in
          stands_in driver.frames c.map.new.memory _ driver.devices.items driver.levels (size ∙ sym many)
          (directory_stay driver.frames memory c.map.new.memory driver.owners _ driver.devices.items driver.devices.items driver.levels driver.invariants.sizes.in_range size
          (λ n own. (
            kept_others memory c.map.new.memory driver.owners driver.ledger c.args.id c.in-Ok.stage.mode c.in-Ok.stage.root c.args.mapping.page c.args.mapping.frame c.missing-lacking.result n leaf tables System
                (sym c.requires.stand.size) before chose mapped_so own.system (λ same. not_system c.args.id same),
            ap (λ (ms : List (Option Owner)). slice_get ms n) owners ∙ mark_stays (OneDevice c.args.id) n tables driver.owners
                (owned_not_chosen driver.owners driver.ledger (Some c.args.mapping.frame) (length memory) c.missing-lacking.result n tables System (sym c.requires.stand.size) chose own.system),
          )) (λ id. refl) (λ id stage at. at) (in_stands driver.frames memory driver.owners driver.devices.items driver.levels (sym many) (c.requires.stand.directory started)));
    }

pub returns-then-is_err-clause-ready : goal.returns-then-is_err-clause-ready
returns-then-is_err-clause-ready c = λ r ready.
    ready_from (state_of c.args.self.now) _ c.args.memory.now c.args.memory.now r (returns-then-is_err-clause-stand c) refl refl refl refl ready

pub returns-clause-ready : goal.returns-clause-ready
returns-clause-ready c = λ r ready.
    let driver = c.args.self.now in
    let memory = c.args.memory.now in
    let tables = c.in-Some.tables.items in
    let size = c.map.ensures.size ∙ ap (λ (m : List (List ℕ)). length m) c.reserve_all.ensures.memory ∙ length-cleared c.as_slice.result.now memory in
    let many : length memory ≡ driver.frames = c.requires.stand.size ∙ driver.invariants.sizes.owned in
    let system : slice_get driver.owners (fault_frame (length memory)) ≡ Some (Some System) = ap (λ n. slice_get driver.owners (fault_frame n)) many ∙ driver.invariants.fixed.fault in
    let chose = chosen_below driver.owners driver.ledger c.args.mapping.frame driver.frames c.missing-lacking.result tables memory (sym many) c.in-Some.ensures.chosen in
    let owners = c.reserve_all.ensures.owners ∙ ap (λ fs. owned_by (OneDevice c.args.id) fs driver.owners) c.as_slice.ensures.value in
    let still = ap (λ (ms : List (Option Owner)). slice_get ms (fault_frame (length memory))) owners ∙ mark_stays (OneDevice c.args.id) (fault_frame (length memory)) tables driver.owners
    (owned_not_chosen driver.owners driver.ledger (Some c.args.mapping.frame) (length memory) c.missing-lacking.result (fault_frame (length memory)) tables System (sym c.requires.stand.size) chose system) ∙ system in
    let unreported = (returns-clause-effect c).1.others (fault_frame (length memory)) (λ own. system_device c.args.id (sym still ∙ own)) in
    ready_from (state_of driver) _ memory c.map.new.memory r (returns-clause-stand c) size unreported refl refl ready
