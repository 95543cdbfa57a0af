use Rattle.std.proofs.Common.{◌≡◌, ◌≢◌, ◌<◌, ◌≤◌, ◌+◌, ◌++◌, ◌∙◌, ℕ, List, [], ◌∷◌, map, All, not, nat_le, length, slice_get, refl, sym, ap, subst, arith}
use Rattle.std.proofs.lemmas.Bool.{le-leb}
use Rattle.iom_command_queue.specs.declared.entry.QueueEntry.{QueueEntry}
use Rattle.iom_command_queue.specs.declared.entry.QueueEntry.TheVariants as stands
use Rattle.iom_command_queue.specs.Waiting.{how_many}
use Rattle.iom_base.specs.declared.refusal.Refusal.TheVariants.{NotStarted, NumbersUsedUp}
use Rattle.iom_driver.specs.declared.device.Device.{Device}
use Rattle.iom_driver.specs.Appends.{fence, AppendsAll}
use Rattle.iom_driver.specs.Directory.{NamesDirectory}
use Rattle.iom_driver.specs.Fences.{last_fence}
use Rattle.iom_driver.specs.Layout.{command_frame, directory_frame, fault_frame, completion_address}
use Rattle.iom_driver.specs.Ready.{IsRing}
use Rattle.iom_driver.specs.Restarts.{all_requeued, restart_commands, IsNamable}
use Rattle.iom_driver.specs.StateOf.{state_of}
use Rattle.iom_driver.proofs.Again.{faults_through, named_through}
use Rattle.iom_driver.proofs.AppendLists.{appends_both}
use Rattle.iom_driver.proofs.QuarantineLemmas.{may_restart, sound_restarted, all_namable}
use Rattle.iom_driver.proofs.Directories.{directory_stay, in_stands, stands_in}
use Rattle.iom_driver.proofs.FaultRings.{fault_ring_stays}
use Rattle.iom_driver.proofs.Ring.{all_last, stays_named}
use Rattle.iom_driver.proofs.StandingLemmas.{frames_keep, leaves_standing, pages_stay}
use Rattle.iom_driver.proofs.Unchanged.{all_stay, of_one}
use Rattle.iom_driver.proofs.FirstRefusals.{applies, passes, more_numbers, no_more_numbers}
use Rattle.iom_driver.proofs.driver.Driver.restart.Goals as goal

pub returns-then-not-self : goal.returns-then-not-self
returns-then-not-self g c =
    let d = state_of c.args.self.now in
    record {
      effect = (applies (not d.started) NotStarted ((nat_le 4294967295 (last_fence d), NumbersUsedUp) ∷ []) (ap not c.if-not-self.true), refl, refl, refl);
      ready = c.requires.ready;
    }

pub returns-then-last_fence-eq4294967295 : goal.returns-then-last_fence-eq4294967295
returns-then-last_fence-eq4294967295 g c =
    let d = state_of c.args.self.now in
    let last = no_more_numbers (last_fence d) c.last_fence.result c.last_fence.ensures c.if-last_fence-eq4294967295.true in
    record {
      effect = (
        passes (not d.started) NotStarted ((nat_le 4294967295 (last_fence d), NumbersUsedUp) ∷ []) (ap not c.if-not-self.false)
            ∙ applies (nat_le 4294967295 (last_fence d)) NumbersUsedUp [] (le-leb 4294967295 (last_fence d) last),
        refl,
        refl,
        refl,
      );
      ready = c.requires.ready;
    }

pub append_devices-requires : goal.append_devices-requires
append_devices-requires g c =
    let driver = c.args.self.now in
    let many : length c.args.memory.now ≡ driver.frames = c.requires.ready.stand.size ∙ driver.invariants.sizes.owned in
    let least : 64 ≤ driver.frames = driver.invariants.sizes.size.0 in
    record {
      many = omega (arith, many, least);
      ring = c.turn_off_and_on.ensures.ring;
      empty = c.turn_off_and_on.ensures.count;
      few = subst (λ (ds : List Device). length ds ≤ 16) (sym c.deref.ensures.value) driver.invariants.few;
      namable =
          subst (λ (ds : List Device). All IsNamable ds) (sym c.deref.ensures.value)
          (all_namable driver.devices.items driver.levels driver.invariants.ids driver.invariants.numbers driver.invariants.named);
    }

pub append_fence-requires : goal.append_fence-requires
append_fence-requires g c =
    let driver = c.args.self.now in
    let many : length c.args.memory.now ≡ driver.frames = c.requires.ready.stand.size ∙ driver.invariants.sizes.owned in
    let count : how_many (g.M.Mmio.registers c.append_devices.new.io) ≤ 48 = c.append_devices.ensures.count in
    record {
      frames = c.append_devices.ensures.size ∙ many;
      many = driver.invariants.sizes.size.0;
      ring = subst (λ n. IsRing n (g.M.Mmio.registers c.append_devices.new.io)) many c.append_devices.ensures.ring;
      room = omega (arith, count);
    }

pub invariant_of-self : goal.invariant_of-self
invariant_of-self g c =
    let driver = c.args.self.now in
    let d = state_of driver in
    let more = more_numbers (last_fence d) c.last_fence.result driver.invariants.fences.numbered c.last_fence.ensures c.if-last_fence-eq4294967295.false in
    record {
      invariants = sound_restarted driver.ledger driver.owners driver.devices.items driver.frames driver.levels driver.started driver.given driver.confirmed driver.restarts driver.restarted driver.invariants more;
    }

pub returns-clause-effect : goal.returns-clause-effect
returns-clause-effect g c =
    let driver = c.args.self.now in
    let d = state_of driver in
    let memory = c.args.memory.now in
    let stand = c.requires.ready.stand in
    let many : length memory ≡ driver.frames = stand.size ∙ driver.invariants.sizes.owned in
    let kept : (f : ℕ) → f ≢ command_frame driver.frames → slice_get c.append_fence.new.memory f ≡ slice_get memory f =
    λ f apart. c.append_fence.ensures.other_frames f apart ∙ c.append_devices.ensures.other_frames f (λ same. apart (same ∙ ap command_frame many)) in
    let last = last_fence d in
    let high : last ≤ 4294967295 = driver.invariants.fences.numbered in
    let more : last < 4294967295 = omega (arith, high, c.last_fence.ensures, c.if-last_fence-eq4294967295.false) in
    let on = c.turn_off_and_on.new.io in
    let between = c.append_devices.new.memory in
    let commands = restart_commands d.devices (completion_address driver.frames) (last + 1) in
    let devices : AppendsAll g.M.Mmio memory on (all_requeued d.devices) between c.append_devices.new.io =
    subst (λ (ds : List Device). AppendsAll g.M.Mmio memory on (all_requeued ds) between c.append_devices.new.io) c.deref.ensures.value c.append_devices.ensures.appended in
    let fenced : AppendsAll g.M.Mmio between c.append_devices.new.io (fence (completion_address driver.frames) (last + 1) ∷ []) c.append_fence.new.memory c.append_fence.new.io =
    rw (sym c.last_fence-number.ensures) c.append_fence.ensures.appended in
    let all : AppendsAll g.M.Mmio memory on commands c.append_fence.new.memory c.append_fence.new.io =
    appends_both g.M.Mmio memory between c.append_fence.new.memory on c.append_devices.new.io c.append_fence.new.io (all_requeued d.devices) (fence (completion_address driver.frames) (last + 1) ∷ []) devices fenced in (
      may_restart d c.if-not-self.false more,
      record {
        driver = refl;
        queued = rw (many, sym c.turn_off_and_on.ensures.registers) all;
        list =
            rw many
            (all_last g.M.Mmio memory c.append_fence.new.memory on c.append_fence.new.io commands all
            ∙ ap (λ (xs : List QueueEntry). xs ++ map stands.Command commands) c.turn_off_and_on.ensures.empty);
        others = λ f apart.
            c.append_fence.ensures.other_frames f (λ same. apart (same ∙ ap command_frame (sym many)))
            ∙ c.append_devices.ensures.other_frames f apart;
        standing = leaves_standing d _ driver.frames memory c.append_fence.new.memory many stand.tables
            (λ id stage was is. frames_keep memory c.append_fence.new.memory driver.owners driver.ledger id stage.mode stage.root (stand.tables id stage was)
            (λ n own. kept n (of_one driver.owners (command_frame driver.frames) n id driver.invariants.fixed.command own)))
            (λ started.
            let here = in_stands driver.frames memory driver.owners driver.devices.items driver.levels many (stand.directory started) in
            pages_stay driver.levels (directory_frame driver.frames) memory c.append_fence.new.memory driver.invariants.sizes.in_range here.tree (c.append_fence.ensures.size ∙ c.append_devices.ensures.size)
            (λ f at. kept f (here.own f at).no_command));
      },
    )

pub returns-clause-ready : goal.returns-clause-ready
returns-clause-ready g c =
    let driver = c.args.self.now in
    let memory = c.args.memory.now in
    let new = c.append_fence.new.memory in
    let stand = c.requires.ready.stand in
    let r = g.M.Mmio.registers in
    let many : length memory ≡ driver.frames = stand.size ∙ driver.invariants.sizes.owned in
    let size : length new ≡ length memory = c.append_fence.ensures.size ∙ c.append_devices.ensures.size in
    let kept : (f : ℕ) → f ≢ command_frame driver.frames → slice_get new f ≡ slice_get memory f =
    λ f apart. c.append_fence.ensures.other_frames f apart ∙ c.append_devices.ensures.other_frames f (λ same. apart (same ∙ ap command_frame many)) in
    record {
      stand = record {
        size = size ∙ stand.size;
        tables = all_stay memory new driver.owners driver.ledger driver.ledger driver.devices.items stand.tables
            (λ n id own. kept n (of_one driver.owners (command_frame driver.frames) n id driver.invariants.fixed.command own)) (λ id page. refl);
        directory = λ started.
            stands_in driver.frames new driver.owners driver.devices.items driver.levels (size ∙ many)
            (directory_stay driver.frames memory new driver.owners driver.owners driver.devices.items driver.devices.items driver.levels driver.invariants.sizes.in_range size
            (λ n own. (kept n own.no_command, refl)) (λ id. refl) (λ id stage at. at)
            (in_stands driver.frames memory driver.owners driver.devices.items driver.levels many (stand.directory started)));
      };
      ring = λ started. subst (λ n. IsRing n (r c.append_fence.new.io)) (sym (size ∙ many)) c.append_fence.ensures.ring;
      faults = λ started.
          fault_ring_stays memory new (r c.args.io.now) (r c.append_fence.new.io) size
          (kept (fault_frame (length memory)) (λ same. absurd (omega (arith, many, driver.invariants.sizes.size.0, same))))
          (faults_through (r c.args.io.now) (r c.append_devices.new.io) (r c.append_fence.new.io)
          (faults_through (r c.args.io.now) (r c.turn_off_and_on.new.io) (r c.append_devices.new.io) c.turn_off_and_on.ensures.faults c.append_devices.ensures.faults)
          c.append_fence.ensures.faults)
          (c.requires.ready.faults started);
      directory = λ started. subst (λ n. NamesDirectory n driver.levels (r c.append_fence.new.io)) (sym size)
          (stays_named (length memory) driver.levels (r c.args.io.now) (r c.append_fence.new.io)
          (named_through (r c.args.io.now) (r c.append_devices.new.io) (r c.append_fence.new.io)
          (named_through (r c.args.io.now) (r c.turn_off_and_on.new.io) (r c.append_devices.new.io) c.turn_off_and_on.ensures.named c.append_devices.ensures.named)
          c.append_fence.ensures.named)
          (c.requires.ready.directory started));
    }
