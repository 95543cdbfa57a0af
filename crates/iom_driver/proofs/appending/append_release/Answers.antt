use Rattle.std.proofs.Common.{◌≡◌, ◌≢◌, ◌+◌, ◌<◌, ◌≤◌, ◌∙◌, ℕ, Bool, true, false, if◌then◌else◌, List, length, slice_get, sym, subst, arith}
use Rattle.std.proofs.lemmas.Bool.{false≢true}
use Rattle.iom_command_queue.specs.Waiting.{how_many}
use Rattle.iom_registers.specs.declared.registers.Registers.{Registers}
use Rattle.iom_driver.specs.Layout.{command_frame}
use Rattle.iom_driver.specs.Ready.{IsRing}
use Rattle.iom_driver.proofs.Appended.{GoesOn, goes_on}
use Rattle.iom_driver.proofs.appending.append_release.Goals as goal

-- there is room for each of the commands
room_for_one : (n : ℕ) (ats : Bool) → n + (if ats then 3 else 2) < 256 → n + 1 < 256
room_for_one n true room = omega (arith, room)
room_for_one n false room = omega (arith, room)

room_for_two : (n n' : ℕ) (ats : Bool) → n + (if ats then 3 else 2) < 256 → n' ≡ n + 1 → ats ≡ true → n' + 1 < 256
room_for_two n n' true room one is = omega (arith, room, one)
room_for_two n n' false room one is = absurd (false≢true is)

room_for_three : (n n' n'' : ℕ) (ats : Bool) → n + (if ats then 3 else 2) < 256 → n' ≡ n + 1 → n'' ≡ n' + (if ats then 1 else 0) → n'' + 1 < 256
room_for_three n n' n'' true room one two = omega (arith, room, one, two)
room_for_three n n' n'' false room one two = omega (arith, room, one, two)

pub append-requires : goal.append-requires
append-requires g c =
    let r = g.M.Mmio.registers c.args.io.now in
    record {
      many = subst (λ n. 64 ≤ n) (sym c.requires.frames) c.requires.many;
      ring = subst (λ n. IsRing n r) (sym c.requires.frames) c.requires.ring;
      room = room_for_one (how_many r) c.args.stage.ats c.requires.room;
    }

pub append_device_invalidation-requires : goal.append_device_invalidation-requires
append_device_invalidation-requires g c =
    let r = g.M.Mmio.registers c.args.io.now in
    let r1 = g.M.Mmio.registers c.append.new.io in
    record {
      many = subst (λ n. 64 ≤ n) (sym (c.append.ensures.size ∙ c.requires.frames)) c.requires.many;
      ring = subst (λ n. IsRing n r1) (sym c.append.ensures.size) c.append.ensures.ring;
      room = room_for_two (how_many r) (how_many r1) c.args.stage.ats c.requires.room c.append.ensures.count;
      id = c.requires.id;
      page = c.requires.page;
    }

pub append-requires-2 : goal.append-requires-2
append-requires-2 g c =
    let r = g.M.Mmio.registers c.args.io.now in
    let r1 = g.M.Mmio.registers c.append.new.io in
    let r2 = g.M.Mmio.registers c.append_device_invalidation.new.io in
    let own = c.append_device_invalidation.ensures in
    record {
      many = subst (λ n. 64 ≤ n) (sym (own.size ∙ c.append.ensures.size ∙ c.requires.frames)) c.requires.many;
      ring = subst (λ n. IsRing n r2) (sym own.size) own.ring;
      room = room_for_three (how_many r) (how_many r1) (how_many r2) c.args.stage.ats c.requires.room c.append.ensures.count own.count;
    }

-- what stays over all three
unchanged : (frames : ℕ) (r r' : Registers) (memory memory' : List (List ℕ)) → length memory ≡ frames → GoesOn r r' memory memory'
    → (n : ℕ) → n ≢ command_frame frames → slice_get memory' n ≡ slice_get memory n
unchanged frames r r' memory memory' size on = subst (λ k. (n : ℕ) → n ≢ command_frame k → slice_get memory' n ≡ slice_get memory n) size on.other_frames

pub returns-clause-ring : goal.returns-clause-ring
returns-clause-ring g c =
    let size = c.append_device_invalidation.ensures.size ∙ c.append.ensures.size ∙ c.requires.frames in
    subst (λ n. IsRing n (g.M.Mmio.registers c.append-2.new.io)) size c.append-2.ensures.ring

pub returns-clause-other_frames : goal.returns-clause-other_frames
returns-clause-other_frames g c =
    let m0 = c.args.memory.now in
    let m1 = c.append.new.memory in
    let m2 = c.append_device_invalidation.new.memory in
    let m3 = c.append-2.new.memory in
    let r0 = g.M.Mmio.registers c.args.io.now in
    let r1 = g.M.Mmio.registers c.append.new.io in
    let r2 = g.M.Mmio.registers c.append_device_invalidation.new.io in
    let r3 = g.M.Mmio.registers c.append-2.new.io in
    let own = c.append_device_invalidation.ensures in
    let one : GoesOn r0 r1 m0 m1 = record { named = c.append.ensures.named; faults = c.append.ensures.faults; other_frames = c.append.ensures.other_frames; size = c.append.ensures.size } in
    let two : GoesOn r1 r2 m1 m2 = record { named = own.named; faults = own.faults; other_frames = own.other_frames; size = own.size } in
    let three : GoesOn r2 r3 m2 m3 = record { named = c.append-2.ensures.named; faults = c.append-2.ensures.faults; other_frames = c.append-2.ensures.other_frames; size = c.append-2.ensures.size } in
    unchanged c.args.frames r0 r3 m0 m3 c.requires.frames (goes_on r0 r2 r3 m0 m2 m3 (goes_on r0 r1 r2 m0 m1 m2 one two) three)
