-- Its walk is of the same request.
use Rattle.std.proofs.Common.{refl}
use Rattle.iom_stepped_requests.specs.Standing.{request_of}
use Rattle.iom_stepped_requests.specs.declared.walk.Serving.TheVariants.{GoesOn}
use Rattle.iom_walks.proofs.OfRequest.{anew_is_of}
use Rattle.iom_walks.proofs.standing.Standing.begun_anew.Goals as goal

pub returns-in-GoesOn : goal.returns-in-GoesOn
returns-in-GoesOn c = record {
  request = anew_is_of c.args.ddtp (request_of c.args.self.walk) (GoesOn c.in-GoesOn.walk) c.in-GoesOn.ensures;
  len = refl;
  of_request = refl;
  begun = c.in-GoesOn.ensures;
}
