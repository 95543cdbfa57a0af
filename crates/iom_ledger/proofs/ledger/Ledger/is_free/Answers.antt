use Rattle.std.proofs.Common.{refl}
use Rattle.iom_ledger.proofs.FreeLemmas.{row_free, row_unreached}
use Rattle.iom_ledger.proofs.ledger.Ledger.is_free.Goals as goal

pub returns-in-None-clause-shown : goal.returns-in-None-clause-shown
returns-in-None-clause-shown c = ((λ yes. c.in-None.ensures.unnamed refl), (λ free. refl))

pub returns-in-None-clause-free : goal.returns-in-None-clause-free
returns-in-None-clause-free c h agrees =
    let ledger = c.args.self.now in
    ((λ yes. (row_unreached ledger h agrees c.args.frame).0 ((row_free ledger c.args.frame).1 (c.in-None.ensures.unnamed refl))), (λ free. refl))

pub returns-in-Some-clause-shown : goal.returns-in-Some-clause-shown
returns-in-Some-clause-shown c = (
  (λ yes. c.in-Some.ensures.shown.0 (c.is_free.ensures.0 yes)),
  (λ free. c.is_free.ensures.1 (c.in-Some.ensures.shown.1 free)),
)

pub returns-in-Some-clause-free : goal.returns-in-Some-clause-free
returns-in-Some-clause-free c h agrees = (
  (λ yes. (c.in-Some.ensures.free h agrees).0 (c.is_free.ensures.0 yes)),
  (λ free. c.is_free.ensures.1 ((c.in-Some.ensures.free h agrees).1 free)),
)
