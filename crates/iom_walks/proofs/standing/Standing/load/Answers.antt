-- Its walk is of the same request.
use Rattle.std.proofs.Common.{refl}
use Rattle.iom_stepped_requests.specs.Standing.{request_of}
use Rattle.iom_stepped_requests.specs.declared.walk.Serving.TheVariants.{GoesOn}
use Rattle.iom_walks.proofs.OfRequest.{load_is_of}
use Rattle.iom_walks.proofs.standing.Standing.load.Goals as goal

pub returns-in-None-clause-of_request : goal.returns-in-None-clause-of_request
returns-in-None-clause-of_request g c =
    load_is_of (g.B.Bytes.frames_of c.args.memory.now) (g.C.TransCache.content c.args.translations.now) (request_of c.args.self.walk) (GoesOn c.args.self.walk) c.load.result.serving
    c.load.ensures.serving refl
