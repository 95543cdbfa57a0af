-- What is free for a table is free, and the other way round.
use Rattle.std.proofs.Common.{arith}
use Rattle.iom_driver.specs.Calls.{IsFreeFrame}
use Rattle.iom_driver.specs.StateOf.{state_of}
use Rattle.iom_table_frames.specs.Owners.{IsFreeInMemory}
use Rattle.iom_table_frames.proofs.CountLemmas.{AreSoMany-same}
use Rattle.iom_driver.proofs.driver.Driver.count_free.Goals as goal

pub count_free-requires : goal.count_free-requires
count_free-requires c = let sizes = c.args.self.now.invariants.sizes in omega (arith, sizes.owned)

pub returns : goal.returns
returns c =
    let driver = c.args.self.now in
    AreSoMany-same (IsFreeInMemory driver.owners driver.ledger) (IsFreeFrame (state_of driver)) c.count_free.result
    (λ n. (
      (λ h. record { inside = h.0; unreserved = h.1.unmarked; ungranted = h.1.ungranted }),
      (λ it. (it.inside, record { other = λ same. cc; unmarked = it.unreserved; ungranted = it.ungranted })),
    )) c.count_free.ensures
