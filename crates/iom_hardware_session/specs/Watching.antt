-- Claims that were good are judged again whenever software changes hardware.
use Rattle.std.specs.Prelude.{◌≡◌, ℕ, ◌==◌, Bool, false, not, ◌&&◌, List, [], ◌∷◌, ◌++◌, map, filter, slice_get, Option, None, Some, is_some, if◌then◌else◌}
use Rattle.iom_claims.specs.Claimed.{Claimed, IsOpen}
use Rattle.iom_claims.specs.declared.grant.Grant.{Grant}
use Rattle.iom_hardware_script.specs.declared.script.Claim.{Claim as Said}
use Rattle.iom_hardware_script.specs.declared.script.Claim.TheVariants as claim
use Rattle.iom_hardware_session.specs.declared.answer.ClaimAnswer.{ClaimAnswer}
use Rattle.iom_hardware_session.specs.declared.answer.ClaimAnswer.TheVariants as found
use Rattle.iom_hardware_session.specs.declared.answer.Wrong.{Wrong}
use Rattle.iom_hardware_session.specs.declared.watched.GoodClaim.{GoodClaim}
use Rattle.iom_hardware_session.specs.declared.watched.GoodClaim.TheVariants as good
use Rattle.iom_hardware_session.specs.declared.watched.Watched.{Watched}
use Rattle.iom_hardware_session.specs.Claiming.{is_made}
use Rattle.iom_hardware_session.specs.Good.{scene_with, IsCertain, IsUnused, HasClaimedWaysAlone}
use Rattle.iom_hardware_session.specs.Shown.{ShownHardware}
use Rattle.iom_hardware_session.specs.Wrong.{DoneIsWrong, HandOffIsWrong}
use Rattle.iom_reach.specs.Laws.{IsOutOfReach}
use Rattle.iom_reach.specs.Scene.{HardwareScene}

-- both are about the same frame, and of the same device where it is one's
abbrev pub is_about_same : GoodClaim → GoodClaim → Bool
is_about_same (good.Done number device frame) (good.Done its own on) = (device == own) && (frame == on)
is_about_same (good.Done number device frame) (good.HandedOff on) = false
is_about_same (good.HandedOff frame) (good.Done its own on) = false
is_about_same (good.HandedOff frame) (good.HandedOff on) = on == frame

-- it says that nobody uses this frame
abbrev pub is_frame_handed_off : ℕ → GoodClaim → Bool
is_frame_handed_off frame (good.Done number device on) = false
is_frame_handed_off frame (good.HandedOff on) = on == frame

-- those that are good still
abbrev pub still_good : List Watched → List Watched
still_good watched = filter (λ (own : Watched). not (is_some own.why)) watched

-- without the one that says that nobody uses the frame
abbrev pub without_frame : ℕ → List Watched → List Watched
without_frame frame watched = filter (λ (own : Watched). not (is_frame_handed_off frame own.claim)) watched

-- with a claim that is good now, in the place of one about the same
abbrev pub with_claim : GoodClaim → List Watched → List Watched
with_claim claim watched = filter (λ (own : Watched). not (is_about_same claim own.claim)) watched ++ (record { claim = claim; why = None }) ∷ []

-- what the claim says is so
abbrev pub IsStillSo : GoodClaim → HardwareScene → Claimed → Type 0
IsStillSo (good.Done number device frame) scene claimed = HasClaimedWaysAlone scene claimed device frame
IsStillSo (good.HandedOff frame) scene claimed = IsOutOfReach scene frame × IsUnused scene frame

-- why it isn't
abbrev pub IsNoMore : Wrong → GoodClaim → ShownHardware → List ℕ → Claimed → Type 0
IsNoMore why (good.Done number device frame) hardware trusted claimed = DoneIsWrong why hardware trusted claimed device frame
IsNoMore why (good.HandedOff frame) hardware trusted claimed = HandOffIsWrong why hardware trusted claimed frame

-- what is told of it is true
abbrev pub IsVerdictOf : Option Wrong → GoodClaim → ShownHardware → List ℕ → Claimed → Type 0
IsVerdictOf None claim hardware trusted claimed = IsCertain (scene_with hardware trusted) × IsStillSo claim (scene_with hardware trusted) claimed
IsVerdictOf (Some why) claim hardware trusted claimed = IsNoMore why claim hardware trusted claimed

-- what they claim
abbrev pub claims_of : List Watched → List GoodClaim
claims_of watched = map (λ (own : Watched). own.claim) watched

-- ALL WERE JUDGED AGAIN, as hardware stands and by what is claimed
pub record AreJudgedAgain (old new : List Watched) (hardware : ShownHardware) (trusted : List ℕ) (claimed : Claimed) : Type 0 where
  pub same : claims_of new ≡ claims_of old
  pub reply : (k : ℕ) (own : Watched) → slice_get new k ≡ Some own → IsVerdictOf own.why own.claim hardware trusted claimed

-- with it, where it is answered that it is good
abbrev pub with_if_good : ClaimAnswer → GoodClaim → List Watched → List Watched
with_if_good found.Good claim watched = with_claim claim watched
with_if_good (found.Wrong why) claim watched = watched
with_if_good (found.Released number) claim watched = watched
with_if_good found.Trusted claim watched = watched
with_if_good (found.Refused why) claim watched = watched
with_if_good found.NoSuchClaim claim watched = watched

-- what is watched after a claim that is done: what it withdrew
abbrev pub WatchesDone : ℕ → ClaimAnswer → Claimed → List Watched → List Watched → Type 0
WatchesDone number found.Good before old new =
    (grant : Grant) × IsOpen before.history (record { number = number; grant = grant }) × (new ≡ with_claim (good.Done number grant.device grant.frame) old)
WatchesDone number (found.Wrong why) before old new = new ≡ old
WatchesDone number (found.Released own) before old new = new ≡ old
WatchesDone number found.Trusted before old new = new ≡ old
WatchesDone number (found.Refused why) before old new = new ≡ old
WatchesDone number found.NoSuchClaim before old new = new ≡ old

-- WHAT IS WATCHED after a claim, by its answer and what was claimed before: a claim that is good, until its frame comes back
abbrev pub WatchesClaim : Said → ClaimAnswer → Claimed → List Watched → List Watched → Type 0
WatchesClaim (claim.Done number) answer before old new = WatchesDone number answer before old new
WatchesClaim (claim.HandOff frame) answer before old new = new ≡ with_if_good answer (good.HandedOff frame) old
WatchesClaim (claim.Take frame) answer before old new = new ≡ (if is_made answer then without_frame frame old else old)
WatchesClaim (claim.Grant device page frame rights) answer before old new = new ≡ (if is_made answer then without_frame frame old else old)
WatchesClaim (claim.Ready device page) answer before old new = new ≡ old
WatchesClaim (claim.Release device page) answer before old new = new ≡ old
WatchesClaim (claim.Trust device) answer before old new = new ≡ old
