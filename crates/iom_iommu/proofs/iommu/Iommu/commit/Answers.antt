-- The frame of the oldest access is one of memory, and those of the others stay so.
use Rattle.std.proofs.Common.{subst, sym}
use Rattle.iom_inflight.specs.Flights.{row_of}
use Rattle.iom_inflight.specs.Calls.{IsReadyToCommit}
use Rattle.iom_inflight.proofs.InMemory.{ready_in_memory, makes_in_memory}
use Rattle.iom_iommu.proofs.MadeLemmas.{made_within}
use Rattle.iom_iommu.proofs.iommu.Iommu.commit.Goals as goal

pub make-requires : goal.make-requires
make-requires g c =
    subst (λ n. IsReadyToCommit n (row_of c.args.self.now.in_flight.rows c.args.device)) (sym c.requires.memory)
    (ready_in_memory c.args.self.now.frames c.args.self.now.in_flight.rows c.args.device c.requires.added c.args.self.now.inside)

pub invariant_of-self : goal.invariant_of-self
invariant_of-self g c = record {
  inside = makes_in_memory c.args.self.now.frames c.args.memory.now c.args.self.now.in_flight c.args.device c.make.result c.make.new.memory c.make.new.self c.make.ensures c.args.self.now.inside;
  cached = c.args.self.now.cached;
}

pub returns-clause-within : goal.returns-clause-within
returns-clause-within g c =
    made_within c.args.self.now.frames c.args.memory.now c.args.self.now.in_flight c.args.device c.make.result c.make.new.memory c.make.new.self c.facts.ensures c.args.self.now.inside c.make.ensures
