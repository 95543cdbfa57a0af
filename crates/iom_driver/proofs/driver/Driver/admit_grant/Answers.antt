use Rattle.std.proofs.lemmas.Result.{err_from_is_err_and}
use Rattle.iom_driver.specs.Reasons.{granting_reasons}
use Rattle.iom_driver.specs.StateOf.{state_of}
use Rattle.iom_driver.proofs.driver.Driver.admit_grant.Goals as goal

pub returns-in_err-stage-clause-refused : goal.returns-in_err-stage-clause-refused
returns-in_err-stage-clause-refused c =
    let p = err_from_is_err_and c.from_residual.result c.from_residual.ensures.1 in
    rw (p.1, p.2) (c.in_err-stage.ensures.refused (granting_reasons (state_of c.args.self.now) c.args.id c.args.mapping.page c.args.mapping.frame))
