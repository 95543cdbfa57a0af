use Rattle.std.proofs.Common.{codes}
use Rattle.iom_hardware_script.proofs.ClaimLemmas.{claim_found, last_claim}
use Rattle.iom_hardware_script.proofs.claims.claim_of.Goals as goal

pub returns-in-Some : goal.returns-in-Some
returns-in-Some c = claim_found (codes "take ") c.args.text.now c.in-Some.claim c.in-Some.ensures

pub returns-in-Some-grant : goal.returns-in-Some-grant
returns-in-Some-grant c = claim_found (codes "grant ") c.args.text.now c.in-Some-grant.claim c.in-Some-grant.ensures

pub returns-in-Some-ready : goal.returns-in-Some-ready
returns-in-Some-ready c = claim_found (codes "ready ") c.args.text.now c.in-Some-ready.claim c.in-Some-ready.ensures

pub returns-in-Some-release : goal.returns-in-Some-release
returns-in-Some-release c = claim_found (codes "release ") c.args.text.now c.in-Some-release.claim c.in-Some-release.ensures

pub returns-in-Some-done : goal.returns-in-Some-done
returns-in-Some-done c = claim_found (codes "done ") c.args.text.now c.in-Some-done.claim c.in-Some-done.ensures

pub returns-in-Some-hand_off : goal.returns-in-Some-hand_off
returns-in-Some-hand_off c = claim_found (codes "handoff ") c.args.text.now c.in-Some-hand_off.claim c.in-Some-hand_off.ensures

pub returns-in-None-hand_off : goal.returns-in-None-hand_off
returns-in-None-hand_off c =
    last_claim c.args.text.now c.trust.result c.in-None.ensures c.in-None-grant.ensures c.in-None-ready.ensures c.in-None-release.ensures c.in-None-done.ensures c.in-None-hand_off.ensures c.trust.ensures
