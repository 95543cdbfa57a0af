-- What a good claim means, by what is found of it.
use Rattle.std.proofs.Common.{◌≡◌, ◌↔◌, ℕ, ◌<◌, List, true, false, Option, None, Some, IsSome, is_some, IfSome, Result, Ok, Err, OnOk, is_err, refl, subst, arith}
use Rattle.std.proofs.lemmas.Bool.{false≢true}
use Rattle.iom_base.specs.declared.access.AccessKind.{AccessKind}
use Rattle.iom_base.specs.declared.refusal.Refusal.{Refusal}
use Rattle.iom_base.specs.declared.refusal.Refusal.TheVariants as refusal
use Rattle.iom_claims.specs.Claimed.{Claimed, IsHeld, IsOpen, after_done}
use Rattle.iom_claims.specs.Rows.{Rows}
use Rattle.iom_claims.specs.Shown.{ShowsClaimed}
use Rattle.iom_claims.specs.declared.grant.Grant.{Grant}
use Rattle.iom_claims.specs.declared.grant.OpenClaim.{OpenClaim}
use Rattle.iom_board.specs.declared.board.Board.{Board}
use Rattle.iom_hardware_script.specs.declared.script.Claim.{Claim as Said}
use Rattle.iom_hardware_script.specs.declared.script.Claim.TheVariants as claim
use Rattle.iom_hardware_session.specs.Admitted.{CanBeMade, IsOpenClaim, IsJudged, ClaimIsAdmitted}
use Rattle.iom_hardware_session.specs.declared.answer.ClaimAnswer.{ClaimAnswer}
use Rattle.iom_hardware_session.specs.declared.answer.ClaimAnswer.TheVariants as found
use Rattle.iom_hardware_session.specs.Claiming.{is_judgement, after_claim, claimed_after}
use Rattle.iom_hardware_session.specs.Good.{IsCertain, HasClaimedWaysAlone, DoneIsGood}
use Rattle.iom_hardware_session.specs.Shown.{ShownHardware}
use Rattle.iom_hardware_session.specs.Wrong.{SomebodyHolds, SomebodyLingers, ReachesBeyond, DoneIsWrong, HandOffIsWrong, WrongMeans, IfWrong}
use Rattle.iom_ledger.specs.History.{Pair, May}
use Rattle.iom_reach.specs.Scene.{HardwareScene}
use Rattle.iom_way_survey.proofs.SafeLemmas.{reached_is_way}
use Rattle.iom_way_survey.specs.Surveys.{InventsNone, reaches_in_rows}
use Rattle.iom_way_survey.specs.declared.findings.Survey.{Survey}

-- that a claim is done: what it withdrew is this grant alone
pub done_good : (scene : HardwareScene) (claimed : Claimed) (number : ℕ) (own : Grant) (answer : ClaimAnswer)
    → IsCertain scene × HasClaimedWaysAlone scene (after_done number claimed) own.device own.frame
    → ((grant : Grant) → IsOpen claimed.history (record { number = number; grant = grant }) → Some own ≡ Some grant)
    → answer ≡ found.Good → DoneIsGood scene claimed (claimed_after (claim.Done number) answer claimed) number
done_good scene claimed number own answer certain only is =
    rw is (certain.0, λ grant opened. subst (λ (g : Grant). HasClaimedWaysAlone scene (after_done number claimed) g.device g.frame) (inside (only grant opened)) certain.1)
  where
    inside : {g : Grant} → Some own ≡ Some g → own ≡ g
    inside e = cc

-- what is shown where a call went well
pub went_well : {E : Type 0} {P : Type 0} (result : Result (Unit {0}) E) → is_err result ≡ false → OnOk result P → P
went_well (Ok done) fine holds = holds
went_well (Err why) fine holds = absurd (cc)

-- WHY A CLAIM IS WRONG

pub somebody_holds : (claimed : Claimed) (frame : ℕ) (found : Option Grant) → IfSome found (λ grant. (grant.frame ≡ frame) × IsHeld claimed.history grant) → is_some found ≡ true
    → SomebodyHolds claimed frame
somebody_holds claimed frame (Some grant) (same, held) some = (grant, same, held)
somebody_holds claimed frame None held some = absurd (cc)

pub somebody_lingers : (claimed : Claimed) (frame : ℕ) (found : Option OpenClaim) → IfSome found (λ own. (own.grant.frame ≡ frame) × IsOpen claimed.history own) → is_some found ≡ true
    → SomebodyLingers claimed frame
somebody_lingers claimed frame (Some own) (same, opened) some = (own, same, opened)
somebody_lingers claimed frame None opened some = absurd (cc)

pub reaches_beyond : (survey : Survey) (scene : HardwareScene) (claimed : Claimed) (device frame : ℕ) (kind : AccessKind) → InventsNone survey scene
    → (reaches_in_rows survey.devices.items device kind frame ≡ true) × ¬ May claimed.history device frame kind → ReachesBeyond scene claimed device frame kind
reaches_beyond survey scene claimed device frame kind invents (reached, never) = (reached_is_way survey scene device frame kind invents reached, never)

-- that a claim is done isn't: what it withdrew is this grant
pub done_wrong : (hardware : ShownHardware) (trusted : List ℕ) (claimed : Claimed) (number : ℕ) (own : Grant) (answer : ClaimAnswer) → is_judgement answer ≡ true
    → IsOpen claimed.history (record { number = number; grant = own }) → IfWrong answer (λ why. DoneIsWrong why hardware trusted (after_done number claimed) own.device own.frame)
    → IfWrong answer (λ why. WrongMeans (claim.Done number) why hardware trusted claimed (claimed_after (claim.Done number) answer claimed))
done_wrong hardware trusted claimed number own (found.Wrong why) made opened is = (own, opened, is)
done_wrong hardware trusted claimed number own found.Good made opened is = is
done_wrong hardware trusted claimed number own (found.Released n) made opened is = is
done_wrong hardware trusted claimed number own found.Trusted made opened is = is
done_wrong hardware trusted claimed number own (found.Refused why) made opened is = is
done_wrong hardware trusted claimed number own found.NoSuchClaim made opened is = is

-- that a frame is handed off
pub hand_off_wrong : (hardware : ShownHardware) (trusted : List ℕ) (claimed : Claimed) (number frame : ℕ) (answer : ClaimAnswer) → number ≡ frame → is_judgement answer ≡ true
    → IfWrong answer (λ why. HandOffIsWrong why hardware trusted claimed number)
    → IfWrong answer (λ why. WrongMeans (claim.HandOff frame) why hardware trusted claimed (claimed_after (claim.HandOff frame) answer claimed))
hand_off_wrong hardware trusted claimed number frame (found.Wrong why) same made is = subst (λ (f : ℕ). HandOffIsWrong why hardware trusted claimed f) same is
hand_off_wrong hardware trusted claimed number frame found.Good same made is = is
hand_off_wrong hardware trusted claimed number frame (found.Released n) same made is = is
hand_off_wrong hardware trusted claimed number frame found.Trusted same made is = is
hand_off_wrong hardware trusted claimed number frame (found.Refused why) same made is = is
hand_off_wrong hardware trusted claimed number frame found.NoSuchClaim same made is = is

-- WHICH CLAIMS ARE MADE

-- a claim that is judged can be made
pub judgement_admitted : (said : Said) (answer : ClaimAnswer) (hardware : Board) (before : Claimed) → is_judgement answer ≡ true → IsJudged said → CanBeMade said hardware before
    → ClaimIsAdmitted said answer hardware before
judgement_admitted said found.Good hardware before judges judged can = (judged, can)
judgement_admitted said (found.Wrong why) hardware before judges judged can = (judged, can)
judgement_admitted said (found.Released number) hardware before judges judged can = absurd (false≢true judges)
judgement_admitted said found.Trusted hardware before judges judged can = absurd (false≢true judges)
judgement_admitted said (found.Refused why) hardware before judges judged can = absurd (false≢true judges)
judgement_admitted said found.NoSuchClaim hardware before judges judged can = absurd (false≢true judges)

-- nothing was held where something is granted
pub vacant : (result : Result (Unit {0}) Refusal) (done : Unit {0}) (held : Option Pair) → result ≡ Ok done → ((result ≡ Err refusal.IovaBusy) ↔ IsSome held) → held ≡ None
vacant result done None ok busy = refl
vacant result done (Some pair) ok busy = let e = busy.1 refl in absurd (cc)

-- no claim is open under a number that wasn't given, nor under one that isn't found
pub not_given : (rows : Rows) (claimed : Claimed) (number : ℕ) → ShowsClaimed rows claimed → rows.last < number → ¬ IsOpenClaim claimed number
not_given rows claimed number shows above (grant, opened) =
    let counted = shows.counted in
    let given = shows.lingers.given (record { number = number; grant = grant }) ((shows.lingers.opens (record { number = number; grant = grant })).1 opened) in
    omega (arith, counted, given, above)

pub not_found : (claimed : Claimed) (number : ℕ) (result : Option Grant) → result ≡ None
    → ((grant : Grant) → (result ≡ Some grant) ↔ IsOpen claimed.history (record { number = number; grant = grant })) → ¬ IsOpenClaim claimed number
not_found claimed number result none found (grant, opened) = let some = (found grant).1 opened in cc

-- a claim that is judged is made
pub claimed_if_judged : (said : Said) (answer : ClaimAnswer) (before : Claimed) → is_judgement answer ≡ true → claimed_after said answer before ≡ after_claim said before
claimed_if_judged said found.Good before judges = refl
claimed_if_judged said (found.Wrong why) before judges = refl
claimed_if_judged said (found.Released number) before judges = absurd (false≢true judges)
claimed_if_judged said found.Trusted before judges = absurd (false≢true judges)
claimed_if_judged said (found.Refused why) before judges = absurd (false≢true judges)
claimed_if_judged said found.NoSuchClaim before judges = absurd (false≢true judges)
