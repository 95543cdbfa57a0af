use Rattle.std.proofs.Common.{◌≡◌, ◌/◌, ◌%◌, ◌<◌, ◌≤◌, ◌∙◌, ℕ, List, Option, Some, None, IsSome, OnSome, length, slice_get, slice_set, refl, sym, ap, subst, arith}
use Rattle.std.proofs.lemmas.List.{length-set}
use Rattle.iom_phys_mem.specs.Words.{zeroed, with_word}
use Rattle.iom_registers.specs.declared.registers.Registers.{Registers}
use Rattle.iom_registers.specs.declared.register.Register.TheVariants.{Ddtp, Cqb, Cqcsr, Fqb, Fqcsr}
use Rattle.iom_registers.specs.Table.{written}
use Rattle.iom_command_queue.specs.Waiting.{commands_in}
use Rattle.iom_fault_queue.specs.Ring.{records_in}
use Rattle.iom_driver.specs.declared.device.Device.{Device}
use Rattle.iom_driver.specs.declared.device.Stages.{Stages}
use Rattle.iom_driver.specs.Devices.{owned_stages_of, owned_stages}
use Rattle.iom_driver.specs.Directory.{NamesDirectory}
use Rattle.iom_driver.specs.Layout.{completion_address, directory_frame, ddtp_of, cqb_of, fqb_of}
use Rattle.iom_driver.specs.Ready.{IsRing, IsFaultRing}
use Rattle.iom_driver.proofs.Ring.{started, started_ring, started_empty, started_names, started_unreported, started_fault_ring}
use Rattle.iom_driver.proofs.Directories.{directory_starts, stands_in}
use Rattle.iom_driver.proofs.Lists.{get_set_same}
use Rattle.iom_driver.proofs.driver.Driver.start.Goals as goal

-- what holds where a value is there holds where it is
on_some : {T P : Type 0} (o : Option T) → IsSome o → OnSome o P → P
on_some None present holds = cc
on_some (Some x) present holds = holds

-- the completion word has a place
place : (frames : ℕ) (memory : List (List ℕ)) (address : ℕ) → length memory ≡ frames → 64 ≤ frames → address ≡ completion_address frames → (address % 4 ≡ 0) × (address / 4096 < length memory)
place frames memory address many le at = (omega (arith, at), omega (arith, at, many, le))

inside : (frames size : ℕ) → size ≡ frames → 64 ≤ frames → directory_frame frames < size
inside frames size same many = omega (arith, same, many)

none_some : (devices : List Device) (id : ℕ) (stage : Stages) → owned_stages_of devices id ≡ None → owned_stages_of devices id ≡ Some stage → ⊥
none_some devices id stage none some = let both : ◌≡◌ {A = Option Stages} None (Some stage) = sym none ∙ some in cc

-- the root of the directory is zero, once its frame was cleared
root_zero : (frames : ℕ) (memory before after : List (List ℕ)) (cleared : ℕ) → length before ≡ length memory → length memory ≡ frames → 64 ≤ frames
    → after ≡ slice_set before cleared zeroed → cleared ≡ directory_frame frames → slice_get after (directory_frame frames) ≡ Some zeroed
root_zero frames memory before after cleared size many le is at =
    ap (λ (m : List (List ℕ)). slice_get m (directory_frame frames)) (is ∙ ap (λ n. slice_set before n zeroed) at)
    ∙ get_set_same before (directory_frame frames) zeroed (inside frames (length before) (size ∙ many) le)

pub name_directory-requires-clause-zero : goal.name_directory-requires-clause-zero
name_directory-requires-clause-zero g c =
    let driver = c.args.self.now in
    root_zero driver.frames c.args.memory.now c.store_u32.new.self c.clear.new.memory c.directory_frame.result c.store_u32.ensures.frames (c.requires.size ∙ driver.invariants.sizes.owned)
    driver.invariants.sizes.size.0 c.clear.ensures c.directory_frame.ensures

pub returns-clause-effect : goal.returns-clause-effect
returns-clause-effect g c =
    let driver = c.args.self.now in
    let memory = c.args.memory.now in
    let after = g.M.Mmio.after in
    let law = g.met.M.Mmio.writes_registers in
    let many : length memory ≡ driver.frames = c.requires.size ∙ driver.invariants.sizes.owned in
    let whole = on_some c.store_u32.result
    (c.store_u32.ensures.done.1 (place driver.frames memory c.completion_address.result many driver.invariants.sizes.size.0 c.completion_address.ensures.value)) c.store_u32.ensures.whole in
    let r = g.M.Mmio.registers in
    let ran : r c.write-4.new.io ≡ started (r c.args.io.now) (ddtp_of driver.frames driver.levels) (cqb_of driver.frames) (fqb_of driver.frames) =
    ap r c.write-4.ensures ∙ law c.write-3.new.io Fqcsr 1
    ∙ ap (λ (x : Registers). written x Fqcsr 1) (ap r c.write-3.ensures ∙ law c.write-2.new.io Fqb c.fqb_of.result
    ∙ ap (λ (x : Registers). written x Fqb c.fqb_of.result) (ap r c.write-2.ensures ∙ law c.write.new.io Cqcsr 1
    ∙ ap (λ (x : Registers). written x Cqcsr 1) (ap r c.write.ensures ∙ law c.name_directory.new.io Cqb c.cqb_of.result
    ∙ ap (λ (x : Registers). written x Cqb c.cqb_of.result) (ap r c.name_directory.ensures ∙ law c.args.io.now Ddtp (ddtp_of driver.frames driver.levels)))))
    ∙ ap (λ v. started (r c.args.io.now) (ddtp_of driver.frames driver.levels) v c.fqb_of.result) c.cqb_of.ensures
    ∙ ap (λ v. started (r c.args.io.now) (ddtp_of driver.frames driver.levels) (cqb_of driver.frames) v) c.fqb_of.ensures in
    record {
      driver = refl;
      bytes =
          c.clear.ensures
          ∙ ap (λ n. slice_set c.store_u32.new.self n zeroed) (c.directory_frame.ensures ∙ ap (λ n. directory_frame n) (sym many))
          ∙ ap (λ m. slice_set m (directory_frame (length memory)) zeroed) (whole ∙ ap (λ a. with_word 4 memory a 0) (c.completion_address.ensures.value ∙ ap (λ n. completion_address n) (sym many)));
      registers =
          c.write-4.ensures
          ∙ ap (λ x. after x Fqcsr 1) (c.write-3.ensures ∙ ap (λ v. after c.write-2.new.io Fqb v) (c.fqb_of.ensures ∙ ap (λ n. fqb_of n) (sym many))
          ∙ ap (λ x. after x Fqb (fqb_of (length memory))) (c.write-2.ensures
          ∙ ap (λ x. after x Cqcsr 1) (c.write.ensures ∙ ap (λ v. after c.name_directory.new.io Cqb v) (c.cqb_of.ensures ∙ ap (λ n. cqb_of n) (sym many))
          ∙ ap (λ x. after x Cqb (cqb_of (length memory))) (c.name_directory.ensures ∙ ap (λ n. after c.args.io.now Ddtp (ddtp_of n driver.levels)) (sym many)))));
      empty = ap (λ (x : Registers). commands_in c.clear.new.memory x) ran
          ∙ started_empty c.clear.new.memory (r c.args.io.now) (ddtp_of driver.frames driver.levels) (cqb_of driver.frames) (fqb_of driver.frames) c.requires.off;
      unreported = ap (λ (x : Registers). records_in c.clear.new.memory x) ran
          ∙ started_unreported c.clear.new.memory (r c.args.io.now) (ddtp_of driver.frames driver.levels) (cqb_of driver.frames) (fqb_of driver.frames) c.requires.off;
    }

pub returns-clause-ready : goal.returns-clause-ready
returns-clause-ready g c =
    let driver = c.args.self.now in
    let memory = c.args.memory.now in
    let law = g.met.M.Mmio.writes_registers in
    let many : length memory ≡ driver.frames = c.requires.size ∙ driver.invariants.sizes.owned in
    let r = g.M.Mmio.registers in
    let ran : r c.write-4.new.io ≡ started (r c.args.io.now) (ddtp_of driver.frames driver.levels) (cqb_of driver.frames) (fqb_of driver.frames) =
    ap r c.write-4.ensures ∙ law c.write-3.new.io Fqcsr 1
    ∙ ap (λ (x : Registers). written x Fqcsr 1) (ap r c.write-3.ensures ∙ law c.write-2.new.io Fqb c.fqb_of.result
    ∙ ap (λ (x : Registers). written x Fqb c.fqb_of.result) (ap r c.write-2.ensures ∙ law c.write.new.io Cqcsr 1
    ∙ ap (λ (x : Registers). written x Cqcsr 1) (ap r c.write.ensures ∙ law c.name_directory.new.io Cqb c.cqb_of.result
    ∙ ap (λ (x : Registers). written x Cqb c.cqb_of.result) (ap r c.name_directory.ensures ∙ law c.args.io.now Ddtp (ddtp_of driver.frames driver.levels)))))
    ∙ ap (λ v. started (r c.args.io.now) (ddtp_of driver.frames driver.levels) v c.fqb_of.result) c.cqb_of.ensures
    ∙ ap (λ v. started (r c.args.io.now) (ddtp_of driver.frames driver.levels) (cqb_of driver.frames) v) c.fqb_of.ensures in
    let size : length c.clear.new.memory ≡ length memory = ap (λ (m : List (List ℕ)). length m) c.clear.ensures ∙ length-set c.store_u32.new.self c.directory_frame.result zeroed ∙ c.store_u32.ensures.frames in
    record {
      stand = record {
        size = size ∙ c.requires.size;
        tables = λ id stage at. absurd (none_some driver.devices.items id stage (ap owned_stages (driver.invariants.idle c.requires.idle id)) at);
        directory = λ running.
            let zero = root_zero driver.frames memory c.store_u32.new.self c.clear.new.memory c.directory_frame.result c.store_u32.ensures.frames many
            driver.invariants.sizes.size.0 c.clear.ensures c.directory_frame.ensures in
            stands_in driver.frames c.clear.new.memory driver.owners driver.devices.items driver.levels (size ∙ many)
            (directory_starts driver.frames c.clear.new.memory driver.owners driver.devices.items driver.levels driver.invariants.sizes.in_range driver.invariants.sizes.size.0 driver.invariants.fixed zero
            (λ id. driver.invariants.idle c.requires.idle id));
      };
      ring = λ running.
          subst (λ n. IsRing n (r c.write-4.new.io)) (sym (size ∙ many))
          (subst (λ (x : Registers). IsRing driver.frames x) (sym ran) (started_ring (r c.args.io.now) (ddtp_of driver.frames driver.levels) driver.frames (fqb_of driver.frames) c.requires.off driver.invariants.sizes.size.1));
      faults = λ running.
          subst (λ (x : Registers). IsFaultRing c.clear.new.memory x) (sym ran)
          (started_fault_ring c.clear.new.memory (r c.args.io.now) (ddtp_of driver.frames driver.levels) (cqb_of driver.frames) driver.frames c.requires.off (size ∙ many) driver.invariants.sizes.size.1);
      directory = λ running.
          subst (λ n. NamesDirectory n driver.levels (r c.write-4.new.io)) (sym (size ∙ many))
          (subst (λ (x : Registers). NamesDirectory driver.frames driver.levels x)
          (sym ran)
          (started_names (r c.args.io.now) driver.frames driver.levels c.requires.off driver.invariants.sizes.size.1 driver.invariants.sizes.in_range (cqb_of driver.frames) (fqb_of driver.frames)));
    }
