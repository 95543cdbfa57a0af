-- The text of what is found of a claim.
use Rattle.std.specs.Prelude.{ℕ, List, ◌++◌, codes}
use Rattle.std.specs.Fmt.{decimal}
use Rattle.iom_base.specs.Refusals as refusals
use Rattle.iom_hardware_session.specs.declared.answer.ClaimAnswer.{ClaimAnswer}
use Rattle.iom_hardware_session.specs.declared.answer.ClaimAnswer.TheVariants.{Good, Wrong, Released, Trusted, Refused, NoSuchClaim}

-- WHAT A CLAIM IS ANSWERED, without a line feed: the whole of it, but for the words that say why it is wrong, which stand behind `wrong: `
abbrev pub claim_text : ClaimAnswer → List ℕ
claim_text Good = codes "good"
claim_text (Wrong why) = codes "wrong: "
claim_text (Released number) = codes "claim " ++ decimal number
claim_text Trusted = codes "ok"
claim_text (Refused why) = refusals.text_of why
claim_text NoSuchClaim = codes "refused 26 NoSuchClaim"
