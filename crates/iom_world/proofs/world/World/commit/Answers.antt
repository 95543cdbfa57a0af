use Rattle.std.proofs.Common.{◌≡◌, ◌+◌, ◌∙◌, [], inl, Option, None, Some, Result, Ok, Err, refl, sym, ap, subst}
use Rattle.iom_base.specs.declared.access.AccessKind.{AccessKind}
use Rattle.iom_base.specs.declared.refusal.Refusal.{Refusal}
use Rattle.iom_driver.specs.StateOf.{state_of}
use Rattle.iom_board.specs.Commits.{CommitsOldestAccess}
use Rattle.iom_inflight.specs.declared.made.MadeAt.{MadeAt}
use Rattle.iom_machine.specs.declared.outcome.Outcome.TheVariants as outcome
use Rattle.iom_world.specs.OnHardware.{hardware_of}
use Rattle.iom_world.specs.Shown.{parts_of}
use Rattle.iom_world_effects.specs.Commits.{TellsKind}
use Rattle.iom_world_effects.proofs.DriverLemmas.{driver_invariant}
use Rattle.iom_world_effects.proofs.PartsLemmas.{stays_of}
use Rattle.iom_world.proofs.InParts.{uncommitted}
use Rattle.iom_world.proofs.OfHardware.{with_driver, counted, at_count, keeps_committed, hardware_invariant, makes_in_parts, read_in_parts}
use Rattle.iom_hardware.specs.Blocks.{GaveBytes, HearsIfMade, HearsOldest, oldest_number}
use Rattle.iom_hardware.specs.Inside.{inside}
use Rattle.iom_inflight.specs.Flights.{row_of}
use Rattle.iom_iommu.specs.Parts.{flights_of}
use Rattle.iom_world.specs.Shown.{inside_of}
use Rattle.iom_world.proofs.world.World.commit.Given as given
use Rattle.iom_world.proofs.world.World.commit.Goals as goal
use Rattle.iom_world.proofs.world.World.commit.Goals.{After-commit}

pub commit-requires-clause-invariants : goal.commit-requires-clause-invariants
commit-requires-clause-invariants g c = hardware_invariant c.args.self.now

pub invariant_of-self : goal.invariant_of-self
invariant_of-self g c =
    let world = c.args.self.now in
    let new = with_driver c.commit.new.self.board (state_of world.driver) in
    record {
      invariants = at_count new (world.hardware.board.events + 1) c.commit.new.self.board.events c.commit.ensures.counted.events
          (keeps_committed (parts_of world) new (world.hardware.board.events + 1) c.args.id c.commit.result (counted world) (driver_invariant world.driver) (stays_of c.laws_below.ensures.unchanged world.driver) refl c.commit.ensures.effect);
      agrees = c.commit.ensures.invariants.agrees;
      room = c.commit.ensures.invariants.room;
    }

-- the same by what the call answered
answered_so : (g : given.Over) (c : After-commit g) (answer : Result (Option MadeAt) Refusal) → c.commit.result ≡ answer
    → CommitsOldestAccess (hardware_of (parts_of c.args.self.now)) c.args.id answer (hardware_of (with_driver c.commit.new.self.board (state_of c.args.self.now.driver)))
answered_so g c answer is =
    let world = c.args.self.now in
    let new = with_driver c.commit.new.self.board (state_of world.driver) in
    subst (λ (a : Result (Option MadeAt) Refusal). CommitsOldestAccess (hardware_of (parts_of world)) c.args.id a (hardware_of new)) is c.commit.ensures.effect

-- what the block devices hear, by what the call answered
heard_so : (g : given.Over) (c : After-commit g) (answer : Result (Option MadeAt) Refusal) → c.commit.result ≡ answer
    → HearsIfMade answer (oldest_number (row_of (flights_of c.args.self.now.hardware.board.iommu).rows c.args.id)) c.commit.new.self.board.memory (inside_of g.D.Disk.shown c.args.self.now) c.args.id
    (inside g.D.Disk.shown c.commit.new.self)
heard_so g c answer is =
    subst (λ (a : Result (Option MadeAt) Refusal). HearsIfMade a (oldest_number (row_of (flights_of c.args.self.now.hardware.board.iommu).rows c.args.id)) c.commit.new.self.board.memory
    (inside_of g.D.Disk.shown c.args.self.now) c.args.id (inside g.D.Disk.shown c.commit.new.self)) is c.commit.ensures.inside

pub returns-in-Ok-None : goal.returns-in-Ok-None
returns-in-Ok-None g c =
    let world = c.args.self.now in
    let new = with_driver c.commit.new.self.board (state_of world.driver) in
    let after = (goal.at.returns-in-Ok-None g c).After-commit in
    let is = c.in-Ok-None.is ∙ ap (λ (o : Option MadeAt). Ok o) c.in-Ok-None.field-0-is in (
      (
        refl,
        (λ _. _),
        (
          makes_in_parts (parts_of world) new world.hardware.board.events c.args.id None outcome.NothingInFlight world.invariants (driver_invariant world.driver) refl (answered_so g after (Ok None) is) refl,
          search,
          heard_so g after (Ok None) is,
          c.commit.ensures.counted.events,
          refl,
        ),
      ),
      _,
    )

pub returns-in-Err : goal.returns-in-Err
returns-in-Err g c =
    let world = c.args.self.now in
    let new = with_driver c.commit.new.self.board (state_of world.driver) in
    let after = (goal.at.returns-in-Err g c).After-commit in (
      (
        refl,
        (λ _. _),
        (
          inl (uncommitted (parts_of world) new refl c.args.id c.in-Err.why (answered_so g after (Err c.in-Err.why) c.in-Err.is)),
          search,
          heard_so g after (Err c.in-Err.why) c.in-Err.is,
          c.commit.ensures.counted.events,
          refl,
        ),
      ),
      _,
    )

pub returns-in-Read : goal.returns-in-Read
returns-in-Read g c =
    let world = c.args.self.now in
    let new = with_driver c.commit.new.self.board (state_of world.driver) in
    let after = (goal.at.returns-in-Read g c).After-commit in
    let made = c.in-Ok-Some.made in
    let is = c.in-Ok-Some.is ∙ ap (λ (o : Option MadeAt). Ok o) c.in-Ok-Some.field-0-is in
    let commits = answered_so g after (Ok (Some made)) is in
    let reply = outcome.Read (record { items = c.new.result.bytes.now }) in
    let same = ap (λ lent. lent.now) c.new.ensures in
    let gave = subst (λ (kind : AccessKind). GaveBytes kind c.commit.new.self.board.memory made c.bytes_of.result.now) (sym c.in-Read.is) c.bytes_of.ensures in (
      (
        refl,
        (λ _. _),
        (
          makes_in_parts (parts_of world) new world.hardware.board.events c.args.id (Some made) reply world.invariants (driver_invariant world.driver) refl commits
              (read_in_parts (parts_of world) new c.args.id made c.bytes_of.result.now reply refl commits c.in-Read.is c.bytes_of.ensures (_, refl, same)),
          search,
          subst (λ bytes. HearsOldest (oldest_number (row_of (flights_of world.hardware.board.iommu).rows c.args.id)) bytes (inside_of g.D.Disk.shown world) c.args.id (inside g.D.Disk.shown c.commit.new.self)) (sym same) (heard_so g after (Ok (Some made)) is c.bytes_of.result.now gave),
          c.commit.ensures.counted.events,
          refl,
        ),
      ),
      _,
    )

pub returns-in-Write : goal.returns-in-Write
returns-in-Write g c =
    let world = c.args.self.now in
    let new = with_driver c.commit.new.self.board (state_of world.driver) in
    let after = (goal.at.returns-in-Write g c).After-commit in
    let made = c.in-Ok-Some.made in
    let is = c.in-Ok-Some.is ∙ ap (λ (o : Option MadeAt). Ok o) c.in-Ok-Some.field-0-is in
    let commits = answered_so g after (Ok (Some made)) is in (
      (
        refl,
        (λ _. _),
        (
          makes_in_parts (parts_of world) new world.hardware.board.events c.args.id (Some made) (outcome.Wrote c.from.result) world.invariants (driver_invariant world.driver) refl commits
              (subst (λ (kind : AccessKind). TellsKind world.hardware.board.memory made kind (outcome.Wrote c.from.result)) (sym c.in-Write.is) (ap (λ n. outcome.Wrote n) c.from.ensures)),
          search,
          heard_so g after (Ok (Some made)) is [] (subst (λ (kind : AccessKind). GaveBytes kind c.commit.new.self.board.memory made []) (sym c.in-Write.is) refl),
          c.commit.ensures.counted.events,
          refl,
        ),
      ),
      _,
    )
