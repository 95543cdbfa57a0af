use Rattle.std.proofs.Common.{◌∙◌, sym, subst, arith, ◌<◌}
use Rattle.iom_driver.proofs.driver.Driver.is_free.Goals as goal

pub returns : goal.returns
returns c =
    let driver = c.args.self.now in (
      (λ true. record {
        inside = subst (λ n. c.args.frame < n) (sym driver.invariants.sizes.owned) (omega arith);
        unreserved = sym c.is_reserved.ensures ∙ c.if-is_reserved.false;
        ungranted = c.is_free.ensures.shown.0 true;
      }),
      (λ free. c.is_free.ensures.shown.1 free.ungranted),
    )
