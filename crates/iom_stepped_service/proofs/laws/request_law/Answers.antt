use Rattle.iom_stepped_service.proofs.RequestLemmas.{answers_are_requests, runs_are_requests}
use Rattle.iom_stepped_service.proofs.laws.request_law.Goals as goal

pub returns : goal.returns
returns c = record { runs = runs_are_requests c.service_law.ensures; at_once = answers_are_requests c.service_law.ensures }
