use Rattle.std.proofs.Common.{◌≡◌, ◌≢◌, ◌<◌, ◌≤◌, ◌+◌, ◌-◌, ◌++◌, ◌∙◌, ℕ, List, map, Option, None, Some, length, slice_get, refl, sym, ap, subst, arith}
use Rattle.iom_command_queue.specs.declared.entry.QueueEntry.{QueueEntry}
use Rattle.iom_command_queue.specs.declared.entry.QueueEntry.TheVariants as stands
use Rattle.iom_base.specs.declared.owner.Owner.{Owner}
use Rattle.iom_ledger.specs.declared.ledger.Ledger.{Ledger}
use Rattle.iom_directory_build.specs.Pages.{HasPage, root_level}
use Rattle.iom_base.specs.declared.owner.Owner.TheVariants.{OneDevice}
use Rattle.iom_driver.specs.declared.device.Attachment.TheVariants.{Leaving}
use Rattle.iom_driver.specs.declared.device.Device.{Device}
use Rattle.iom_driver.specs.Appends.{detach_commands, AppendsAll}
use Rattle.iom_driver.specs.Devices.{attachment_by_id, attached_stages, stages_of, owned_stages_of, with_attachment}
use Rattle.iom_driver.specs.Directory.{NamesDirectory}
use Rattle.iom_driver.specs.Layout.{command_frame, fault_frame, completion_address, directory_frame}
use Rattle.iom_driver.specs.Ready.{IsRing}
use Rattle.iom_driver.specs.Invariant.{StateInvariant}
use Rattle.iom_driver.specs.StateOf.{state_of}
use Rattle.iom_driver.specs.Tables.{HaveTables}
use Rattle.iom_driver.proofs.QuarantineLemmas.{IsCleared, not_of_device, tables_uncontexted}
use Rattle.iom_driver.proofs.Directories.{DirectoryIn, low_id, room_for_ids, in_stands, stands_in, directory_cleared, directory_stay}
use Rattle.iom_driver.proofs.FaultRings.{fault_ring_stays}
use Rattle.iom_driver.proofs.Keeps.{sound_detached, owned_leaving}
use Rattle.iom_driver.proofs.Orders.{maps_nothing}
use Rattle.iom_driver.proofs.Places.{attached_owns, attached_there, attachment_set, attachment_other}
use Rattle.iom_driver.proofs.Ring.{same_commands, all_last, stays_named}
use Rattle.iom_driver.proofs.StandingLemmas.{frames_keep, leaves_standing, pages_stay}
use Rattle.iom_driver.proofs.Unchanged.{all_stay, of_one}
use Rattle.iom_driver.proofs.driver.Driver.detach.Goals as goal

-- the tables of devices that own the same stages
owned_tables : (memory : List (List ℕ)) (owners : List (Option Owner)) (ledger : Ledger) (devices devices' : List Device) → ((id : ℕ) → owned_stages_of devices' id ≡ owned_stages_of devices id)
    → HaveTables memory owners ledger devices → HaveTables memory owners ledger devices'
owned_tables memory owners ledger devices devices' same tables id stage at = tables id stage (sym (same id) ∙ at)

pub returns-in-Err : goal.returns-in-Err
returns-in-Err g c = record {
  effect = record { reply = c.in-Err.ensures.refused; effect = (refl, refl, refl) };
  ready = c.requires.ready;
}

pub invariant_of-self : goal.invariant_of-self
invariant_of-self g c =
    let driver = c.args.self.now in
    let may = c.in-Ok.ensures.may in
    record {
      invariants =
          subst (λ (ds : List Device). StateInvariant driver.ledger driver.owners ds driver.frames driver.levels driver.started (driver.given + 1) driver.confirmed driver.restarts driver.restarted) (sym {A = List Device} c.set_attachment.ensures)
          (sound_detached driver.ledger driver.owners driver.devices.items driver.frames driver.levels driver.started driver.given driver.confirmed driver.restarts driver.restarted c.args.id c.in-Ok.stage
          driver.invariants may.started may.attached may.none_held may.number);
    }

pub clear_context-requires-clause-levels : goal.clear_context-requires-clause-levels
clear_context-requires-clause-levels g c = c.args.self.now.invariants.sizes.in_range

pub clear_context-requires-clause-id : goal.clear_context-requires-clause-id
clear_context-requires-clause-id g c =
    let driver = c.args.self.now in
    subst (λ n. c.args.id < n) (room_for_ids driver.levels driver.invariants.sizes.in_range)
    (driver.invariants.named c.args.id c.in-Ok.stage (attached_owns (attachment_by_id driver.devices.items c.args.id) c.in-Ok.stage c.in-Ok.ensures.may.attached))

pub clear_context-requires-clause-directory : goal.clear_context-requires-clause-directory
clear_context-requires-clause-directory g c =
    let driver = c.args.self.now in
    let stand = c.requires.ready.stand in
    rw c.directory_frame-directory.ensures
    (in_stands driver.frames c.args.memory.now driver.owners driver.devices.items driver.levels (stand.size ∙ driver.invariants.sizes.owned) (stand.directory c.in-Ok.ensures.may.started)).tree

pub append_detach-requires-clause-frames : goal.append_detach-requires-clause-frames
append_detach-requires-clause-frames g c = c.clear_context.ensures.size ∙ c.requires.ready.stand.size ∙ c.args.self.now.invariants.sizes.owned

pub append_detach-requires-clause-many : goal.append_detach-requires-clause-many
append_detach-requires-clause-many g c = c.args.self.now.invariants.sizes.size.0

pub append_detach-requires-clause-ring : goal.append_detach-requires-clause-ring
append_detach-requires-clause-ring g c =
    subst (λ n. IsRing n (g.M.Mmio.registers c.args.io.now)) (c.requires.ready.stand.size ∙ c.args.self.now.invariants.sizes.owned) (c.requires.ready.ring c.in-Ok.ensures.may.started)

pub append_detach-requires-clause-room : goal.append_detach-requires-clause-room
append_detach-requires-clause-room g c = c.in-Ok.ensures.may.room

pub append_detach-requires-clause-id : goal.append_detach-requires-clause-id
append_detach-requires-clause-id g c =
    let driver = c.args.self.now in
    low_id driver.levels c.args.id (driver.invariants.named c.args.id c.in-Ok.stage (attached_owns (attachment_by_id driver.devices.items c.args.id) c.in-Ok.stage c.in-Ok.ensures.may.attached))

pub append_detach-requires-clause-number : goal.append_detach-requires-clause-number
append_detach-requires-clause-number g c =
    let driver = c.args.self.now in
    let small = driver.invariants.numbers.small c.args.id c.in-Ok.stage (attached_owns (attachment_by_id driver.devices.items c.args.id) c.in-Ok.stage c.in-Ok.ensures.may.attached) in
    let le : c.in-Ok.stage.number ≤ 17 = small.1 in
    omega (arith, le)

pub append_detach-requires-clause-quarantined : goal.append_detach-requires-clause-quarantined
append_detach-requires-clause-quarantined g c =
    let driver = c.args.self.now in
    let memory = c.args.memory.now in
    let stage = c.in-Ok.stage in
    let stand = c.requires.ready.stand in
    let may = c.in-Ok.ensures.may in
    let here = in_stands driver.frames memory driver.owners driver.devices.items driver.levels (stand.size ∙ driver.invariants.sizes.owned) (stand.directory may.started) in
    let cleared = subst (λ r. IsCleared memory c.clear_context.new.memory driver.levels r c.args.id) c.directory_frame-directory.ensures record {
      tree = c.clear_context.ensures.directory;
      pages = λ f. (c.clear_context.ensures.pages f).0;
      here = c.clear_context.ensures.here;
      paths = c.clear_context.ensures.paths;
      others = c.clear_context.ensures.others;
      keeps = c.clear_context.ensures.keeps;
      outside = c.clear_context.ensures.outside;
      size = c.clear_context.ensures.size;
    } in
    let tables = tables_uncontexted driver.frames memory c.clear_context.new.memory driver.owners driver.ledger driver.devices.items driver.levels c.args.id here cleared stand.tables c.args.id stage
    (attached_owns (attachment_by_id driver.devices.items c.args.id) stage may.attached) in
    record {
      context = cleared.here;
      tables = maps_nothing c.clear_context.new.memory driver.owners driver.ledger c.args.id stage.mode stage.root tables may.none_held;
    }

pub returns-clause-effect : goal.returns-clause-effect
returns-clause-effect g c =
    let driver = c.args.self.now in
    let memory = c.args.memory.now in
    let stand = c.requires.ready.stand in
    let may = c.in-Ok.ensures.may in
    let io = c.args.io.now in
    let many : length memory ≡ driver.frames = stand.size ∙ driver.invariants.sizes.owned in
    let here : DirectoryIn driver.frames memory driver.owners driver.devices.items driver.levels = in_stands driver.frames memory driver.owners driver.devices.items driver.levels many (stand.directory may.started) in
    let cleared = subst (λ r. IsCleared memory c.clear_context.new.memory driver.levels r c.args.id) c.directory_frame-directory.ensures record {
      tree = c.clear_context.ensures.directory;
      pages = λ f. (c.clear_context.ensures.pages f).0;
      here = c.clear_context.ensures.here;
      paths = c.clear_context.ensures.paths;
      others = c.clear_context.ensures.others;
      keeps = c.clear_context.ensures.keeps;
      outside = c.clear_context.ensures.outside;
      size = c.clear_context.ensures.size;
    } in
    let outside : (f : ℕ) → (HasPage memory (root_level driver.levels) (directory_frame driver.frames) f → ⊥) → slice_get c.clear_context.new.memory f ≡ slice_get memory f =
    λ f apart. cleared.outside f (λ at. apart (cleared.pages f at)) in
    let commands = detach_commands c.args.id c.in-Ok.stage (completion_address driver.frames) (driver.given + driver.restarts + 1) in
    let appended = subst (λ n. AppendsAll g.M.Mmio c.clear_context.new.memory io (detach_commands c.args.id c.in-Ok.stage (completion_address driver.frames) (n + 1)) c.append_detach.new.memory c.append_detach.new.io)
    c.last_fence-number.ensures c.append_detach.ensures.appended in
    record {
      reply = c.in-Ok.ensures.admitted;
      effect = record {
        stage = c.in-Ok.stage;
        attached = may.attached;
        next = refl;
        driver = rw c.set_attachment.ensures refl;
        queued = rw (many, sym c.directory_frame-directory.ensures, sym c.clear_context.ensures.whole) appended;
        list =
            let r = g.M.Mmio.registers io in
            let kept = outside (command_frame (length memory)) (λ at. (here.own (command_frame (length memory)) at).no_command (ap command_frame many)) in
            rw many
            (all_last g.M.Mmio c.clear_context.new.memory c.append_detach.new.memory io c.append_detach.new.io commands appended
            ∙ ap (λ (xs : List QueueEntry). xs ++ map stands.Command commands)
            (same_commands memory c.clear_context.new.memory r (c.requires.ready.ring may.started) kept));
        others = λ f apart differs.
            c.append_detach.ensures.other_frames f (λ same. differs (same ∙ ap command_frame (sym many)))
            ∙ outside f (λ at. apart (subst (λ n. HasPage memory (root_level driver.levels) (directory_frame n) f) (sym many) at));
        standing = leaves_standing (state_of driver) _ driver.frames memory c.append_detach.new.memory many stand.tables
            (λ other s was is. frames_keep memory c.append_detach.new.memory driver.owners driver.ledger other s.mode s.root (stand.tables other s was)
            (λ n own.
            c.append_detach.ensures.other_frames n (of_one driver.owners (driver.frames - 1) n other driver.invariants.fixed.command own)
            ∙ outside n (λ at. not_of_device driver.owners n other (here.own n at).system own)))
            (λ started level other page low at.
            pages_stay driver.levels (directory_frame driver.frames) c.clear_context.new.memory c.append_detach.new.memory driver.invariants.sizes.in_range cleared.tree c.append_detach.ensures.size
            (λ f has. c.append_detach.ensures.other_frames f (here.own f (cleared.pages f has)).no_command) level other page low (cleared.keeps level other page low at));
      };
    }

pub returns-clause-ready : goal.returns-clause-ready
returns-clause-ready g c =
    let driver = c.args.self.now in
    let memory = c.args.memory.now in
    let stand = c.requires.ready.stand in
    let may = c.in-Ok.ensures.may in
    let devices = with_attachment driver.devices.items c.args.id (Leaving (driver.given + 1) c.in-Ok.stage) in
    let many : length memory ≡ driver.frames = stand.size ∙ driver.invariants.sizes.owned in
    let size : length c.append_detach.new.memory ≡ length memory = c.append_detach.ensures.size ∙ c.clear_context.ensures.size in
    let here : DirectoryIn driver.frames memory driver.owners driver.devices.items driver.levels = in_stands driver.frames memory driver.owners driver.devices.items driver.levels many (stand.directory may.started) in
    let cleared = subst (λ r. IsCleared memory c.clear_context.new.memory driver.levels r c.args.id) c.directory_frame-directory.ensures record {
      tree = c.clear_context.ensures.directory;
      pages = λ f. (c.clear_context.ensures.pages f).0;
      here = c.clear_context.ensures.here;
      paths = c.clear_context.ensures.paths;
      others = c.clear_context.ensures.others;
      keeps = c.clear_context.ensures.keeps;
      outside = c.clear_context.ensures.outside;
      size = c.clear_context.ensures.size;
    } in
    let none : stages_of devices c.args.id ≡ None = ap attached_stages (attachment_set driver.devices.items c.args.id (Leaving (driver.given + 1) c.in-Ok.stage) (attached_there driver.devices.items c.args.id c.in-Ok.stage may.attached)) in
    let same : (other : ℕ) → other ≢ c.args.id → stages_of devices other ≡ stages_of driver.devices.items other =
    λ other apart. ap attached_stages (attachment_other driver.devices.items c.args.id other (Leaving (driver.given + 1) c.in-Ok.stage) apart) in
    let between = directory_cleared driver.frames memory c.clear_context.new.memory driver.owners driver.devices.items devices driver.levels c.args.id here cleared.tree cleared.pages cleared.here cleared.others cleared.paths none same
    (owned_leaving driver.devices.items c.args.id (driver.given + 1) c.in-Ok.stage may.attached) in
    let kept : (n id : ℕ) → slice_get driver.owners n ≡ Some (Some (OneDevice id)) → slice_get c.append_detach.new.memory n ≡ slice_get memory n =
    λ n id own. c.append_detach.ensures.other_frames n (of_one driver.owners (driver.frames - 1) n id driver.invariants.fixed.command own)
    ∙ cleared.outside n (λ at. not_of_device driver.owners n id (here.own n (cleared.pages n at)).system own) in
    rw c.set_attachment.ensures record {
      stand = record {
        size = size ∙ stand.size;
        tables = owned_tables c.append_detach.new.memory driver.owners driver.ledger driver.devices.items devices (owned_leaving driver.devices.items c.args.id (driver.given + 1) c.in-Ok.stage may.attached)
            (all_stay memory c.append_detach.new.memory driver.owners driver.ledger driver.ledger driver.devices.items stand.tables kept (λ id page. refl));
        directory = λ started.
            stands_in driver.frames c.append_detach.new.memory driver.owners devices driver.levels (size ∙ many)
            (directory_stay driver.frames c.clear_context.new.memory c.append_detach.new.memory driver.owners driver.owners devices devices driver.levels driver.invariants.sizes.in_range c.append_detach.ensures.size
            (λ n own. (c.append_detach.ensures.other_frames n own.no_command, refl)) (λ id. refl) (λ id stage at. at) between);
      };
      faults = λ started.
          let fault = fault_frame (length memory) in
          fault_ring_stays memory c.append_detach.new.memory (g.M.Mmio.registers c.args.io.now) (g.M.Mmio.registers c.append_detach.new.io) size
          (c.append_detach.ensures.other_frames fault (λ same. absurd (omega (arith, many, driver.invariants.sizes.size.0, same)))
          ∙ cleared.outside fault (λ at. (here.own fault (cleared.pages fault at)).no_fault (ap fault_frame many)))
          c.append_detach.ensures.faults (c.requires.ready.faults started);
      ring = λ started. subst (λ n. IsRing n (g.M.Mmio.registers c.append_detach.new.io)) (sym (size ∙ many)) c.append_detach.ensures.ring;
      directory = λ started. subst (λ n. NamesDirectory n driver.levels (g.M.Mmio.registers c.append_detach.new.io)) (sym size)
          (stays_named (length memory) driver.levels (g.M.Mmio.registers c.args.io.now) (g.M.Mmio.registers c.append_detach.new.io) c.append_detach.ensures.named (c.requires.ready.directory started));
    }
