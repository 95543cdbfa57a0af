-- A session of which nothing is wrong: no access was made against the claims, and none could have been.
use Rattle.std.specs.Prelude.{◌≡◌, ℕ, ◌==◌, ◌&&◌, Bool, false, List, [], ◌∷◌, Option, None, Some, ⊤}
use Rattle.std.specs.List.{list_any}
use Rattle.iom_claims.specs.Claimed.{Claimed, IsOpen}
use Rattle.iom_claims.specs.Shown.{ShowsClaimed}
use Rattle.iom_claims.specs.declared.grant.Grant.{Grant}
use Rattle.iom_hardware_script.specs.declared.script.Claim.{Claim as Said}
use Rattle.iom_hardware_script.specs.declared.script.Claim.TheVariants as claim
use Rattle.iom_hardware_script.specs.declared.script.HardwareLine.{HardwareLine}
use Rattle.iom_hardware_script.specs.declared.script.HardwareLine.TheVariants as line
use Rattle.iom_hardware_session.specs.declared.answer.Answer.{Answer}
use Rattle.iom_hardware_session.specs.declared.answer.Answer.TheVariants as answered
use Rattle.iom_hardware_session.specs.declared.answer.ClaimAnswer.{ClaimAnswer}
use Rattle.iom_hardware_session.specs.declared.answer.ClaimAnswer.TheVariants as found
use Rattle.iom_hardware_session.specs.Answered.{judgement_in}
use Rattle.iom_hardware_session.specs.declared.state.Session.{Session}
use Rattle.iom_hardware_session.specs.Claiming.{is_made}
use Rattle.iom_hardware_session.specs.Laws.{ComesToMake}
use Rattle.iom_hardware_session.specs.Lines.{IsAllowed, made_by}
use Rattle.iom_hardware_session.specs.Runs.{LineReply, claimed_then, GoThrough, is_any_reply_wrong}
use Rattle.iom_inflight.specs.declared.made.MadeAt.{MadeAt}
use Rattle.iom_ledger.specs.History.{May}

-- each access that the lines made is one that what was claimed by then allows
abbrev pub AccessesAreAllowed : Claimed → List LineReply → Type 0
AccessesAreAllowed before [] = ⊤
AccessesAreAllowed before (first ∷ others) = IsAllowed before (made_by first.stepped.answer) × AccessesAreAllowed (claimed_then first before) others

-- the line claims this, and it is good
abbrev pub IsGood : LineReply → Said → Type 0
IsGood reply said = (reply.said ≡ line.Claim said) × (reply.stepped.answer ≡ answered.Claim found.Good)

-- a claim by which the frame comes back: it is taken, or granted to a device
abbrev pub brings_back : ℕ → Said → Bool
brings_back frame (claim.Take own) = frame == own
brings_back frame (claim.Grant device page own rights) = frame == own
brings_back frame said = false

abbrev pub is_brought_back : ℕ → Said → Option ClaimAnswer → Bool
is_brought_back frame said None = false
is_brought_back frame said (Some answer) = is_made answer && brings_back frame said

abbrev pub comes_back_by : ℕ → HardwareLine → Answer → Bool
comes_back_by frame (line.Claim said) answer = is_brought_back frame said (judgement_in answer)
comes_back_by frame said answer = false

abbrev pub comes_back : ℕ → List LineReply → Bool
comes_back frame all = list_any (λ (reply : LineReply). comes_back_by frame reply.said reply.stepped.answer) all

-- NO ACCESS WAS MADE against the claims
abbrev pub AccessesAreClaimed : Type 0
AccessesAreClaimed = (old new : Session) (before after : Claimed) (all : List LineReply)
    → GoThrough old before all new after → is_any_reply_wrong all ≡ false → AccessesAreAllowed before all

-- AND NONE COULD HAVE BEEN to what was withdrawn and claimed to be done: from then on, whatever hardware and devices do by themselves, at each moment the device
-- makes no access to the frame but those that what is claimed by then allows
abbrev pub DoneStaysOutOfReach : Type 0
DoneStaysOutOfReach = (old new : Session) (before after : Claimed) (done : LineReply) (later : List LineReply) (number : ℕ) (grant : Grant) (made : MadeAt)
    → ShowsClaimed old.claims before → GoThrough old before (done ∷ later) new after → is_any_reply_wrong (done ∷ later) ≡ false
    → IsGood done (claim.Done number) → IsOpen before.history (record { number = number; grant = grant })
    → made.frame ≡ grant.frame → ComesToMake new grant.device made → May after.history grant.device made.frame made.kind

-- NOR TO A FRAME THAT WAS HANDED OFF: until it is taken or granted, no device makes any access there
abbrev pub HandedOffStaysUntouched : Type 0
HandedOffStaysUntouched = (old new : Session) (before after : Claimed) (handed : LineReply) (later : List LineReply) (frame id : ℕ) (made : MadeAt)
    → ShowsClaimed old.claims before → GoThrough old before (handed ∷ later) new after → is_any_reply_wrong (handed ∷ later) ≡ false
    → IsGood handed (claim.HandOff frame) → comes_back frame later ≡ false
    → made.frame ≡ frame → ¬ ComesToMake new id made
