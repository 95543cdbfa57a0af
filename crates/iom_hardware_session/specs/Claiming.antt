-- What is claimed after a claim, by what is found of it, and why one isn't made.
use Rattle.std.specs.Prelude.{Bool, true, false, if◌then◌else◌}
use Rattle.iom_base.specs.GrantRights.{rights_of}
use Rattle.iom_claims.specs.Claimed.{Claimed, after_grant, after_release, after_done, after_mark}
use Rattle.iom_hardware_script.specs.declared.script.Claim.{Claim as Said}
use Rattle.iom_hardware_script.specs.declared.script.Claim.TheVariants as claim
use Rattle.iom_hardware_session.specs.declared.answer.ClaimAnswer.{ClaimAnswer}
use Rattle.iom_hardware_session.specs.declared.answer.ClaimAnswer.TheVariants as found

-- whether a claim is made that is answered so: also one that isn't true is what the driver believes
abbrev pub is_made : ClaimAnswer → Bool
is_made found.Good = true
is_made (found.Wrong why) = true
is_made (found.Released number) = true
is_made found.Trusted = true
is_made (found.Refused why) = false
is_made found.NoSuchClaim = false

-- whether it says that the claim is good, or wrong
abbrev pub is_judgement : ClaimAnswer → Bool
is_judgement found.Good = true
is_judgement (found.Wrong why) = true
is_judgement (found.Released number) = false
is_judgement found.Trusted = false
is_judgement (found.Refused why) = false
is_judgement found.NoSuchClaim = false

-- what is claimed after a claim that is made
abbrev pub after_claim : Said → Claimed → Claimed
after_claim (claim.Grant device page frame rights) before = after_grant (record { device = device; page = page; frame = frame; rights = rights_of rights }) before
after_claim (claim.Ready device page) before = before
after_claim (claim.Release device page) before = after_release device page before
after_claim (claim.Done number) before = after_done number before
after_claim (claim.HandOff frame) before = after_mark frame true before
after_claim (claim.Take frame) before = after_mark frame false before
after_claim (claim.Trust device) before = before

-- WHAT IS CLAIMED after a claim, by what is found of it
abbrev pub claimed_after : Said → ClaimAnswer → Claimed → Claimed
claimed_after said found before = if is_made found then after_claim said before else before
