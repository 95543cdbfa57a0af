-- A session of which nothing is wrong, line by line.
use Rattle.std.proofs.Common.{◌≡◌, inl, inr, ℕ, ◌||◌, Bool, true, false, List, [], ◌∷◌, ◌++◌, Option, None, Some, refl, sym, ap, subst, ◌∙◌}
use Rattle.std.specs.Bool.{⊤}
use Rattle.std.proofs.lemmas.Bool.{false≢true, or_parts}
use Rattle.iom_claims.proofs.HistoryLemmas.{claim_from}
use Rattle.iom_claims.specs.Claimed.{Claimed, IsOpen, after_done, after_mark}
use Rattle.iom_claims.specs.declared.grant.Grant.{Grant}
use Rattle.iom_claims.specs.Shown.{ShowsClaimed}
use Rattle.iom_board.specs.BoardParts.{board_parts}
use Rattle.iom_hardware_script.specs.declared.script.Claim.{Claim as Said}
use Rattle.iom_hardware_script.specs.declared.script.Claim.TheVariants as said
use Rattle.iom_hardware_script.specs.declared.script.HardwareLine.{HardwareLine}
use Rattle.iom_hardware_script.specs.declared.script.HardwareLine.TheVariants as line
use Rattle.iom_hardware_session.proofs.ClaimLemmas.{IsNotEndedWhere, IsKept, not_ended_where, same_open, claim_keeps, done_is_kept, hand_off_is_kept}
use Rattle.iom_hardware_session.proofs.EventLemmas.{UnchangedOrDoes, event_effect, load_effect}
use Rattle.iom_hardware_session.proofs.InvariantLemmas.{all_there, hardware_invariant}
use Rattle.iom_hardware_session.proofs.KeepLemmas.{ComesSooner, IsWatched, judged_holds, still_watched, stays_sooner, call_sooner, none_fewer, one_more, holds_sooner}
use Rattle.iom_hardware_session.specs.Answered.{judgement_in}
use Rattle.iom_hardware_session.specs.Events.{Unchanged}
use Rattle.iom_hardware_session.specs.Good.{GoodMeans}
use Rattle.iom_hardware_session.specs.Laws.{DoneStaysDone, HandedOffStaysFree, GoodAgainHolds}
use Rattle.iom_hardware_session.specs.Shown.{shown_in}
use Rattle.iom_hardware_session.specs.Lines.{LineEffect, Trusts, TrustsWhere, TrustsBy, IsAdmittedWhere, IsAdmittedLine, IsGoodWhere, IsGoodLine, WatchesClaimWhere, WatchesStep, WatchesWhere, WatchesBy, claimed_where, claimed_by, is_of_software}
use Rattle.iom_hardware_session.specs.Runs.{LineReply, claimed_then, LineGoesOn, GoThrough, is_wrong_claim, has_fallen, is_wrong, is_any_reply_wrong}
use Rattle.iom_hardware_session.specs.Sessions.{comes_back_by, comes_back, AccessesAreClaimed, DoneStaysOutOfReach, HandedOffStaysUntouched}
use Rattle.iom_hardware_session.specs.Watching.{still_good, WatchesDone}
use Rattle.iom_hardware_session.specs.declared.answer.Answer.{Answer}
use Rattle.iom_hardware_session.specs.declared.answer.Answer.TheVariants as answered
use Rattle.iom_hardware_session.specs.declared.answer.ClaimAnswer.{ClaimAnswer}
use Rattle.iom_hardware_session.specs.declared.answer.ClaimAnswer.TheVariants as found
use Rattle.iom_hardware_session.specs.declared.state.Session.{Session}
use Rattle.iom_hardware_session.specs.declared.watched.GoodClaim.{GoodClaim}
use Rattle.iom_hardware_session.specs.declared.watched.GoodClaim.TheVariants as good
use Rattle.iom_hardware_session.specs.declared.watched.Watched.{Watched}
use Rattle.iom_hardware_session.proofs.TurnLemmas.{AreFewer}
use Rattle.iom_way_survey.specs.Surveys.{is_id_among}

-- the line doesn't end what is claimed
abbrev IsNotEndedBy : GoodClaim → HardwareLine → Answer → Type 0
IsNotEndedBy (good.Done number device frame) said answer = ⊤
IsNotEndedBy (good.HandedOff frame) said answer = comes_back_by frame said answer ≡ false

abbrev AreNotEnded : GoodClaim → List LineReply → Type 0
AreNotEnded (good.Done number device frame) all = ⊤
AreNotEnded (good.HandedOff frame) all = comes_back frame all ≡ false

not_ended : (claim : GoodClaim) (first : LineReply) (others : List LineReply) → AreNotEnded claim (first ∷ others) → IsNotEndedBy claim first.said first.stepped.answer × AreNotEnded claim others
not_ended (good.Done number device frame) first others ends = (tt, tt)
not_ended (good.HandedOff frame) first others ends = or_parts (comes_back_by frame first.said first.stepped.answer) (comes_back frame others) ends

-- WHO IS TRUSTED

trusts_more : (own : Said) (answer : ClaimAnswer) (old new : List ℕ) → Trusts own answer old new → AreFewer (is_id_among old) (is_id_among new)
trusts_more (said.Trust device) found.Trusted old new is = one_more old new device is
trusts_more (said.Trust device) found.Good old new is = none_fewer old new is
trusts_more (said.Trust device) (found.Wrong why) old new is = none_fewer old new is
trusts_more (said.Trust device) (found.Released number) old new is = none_fewer old new is
trusts_more (said.Trust device) (found.Refused why) old new is = none_fewer old new is
trusts_more (said.Trust device) found.NoSuchClaim old new is = none_fewer old new is
trusts_more (said.Grant device page frame rights) answer old new is = none_fewer old new is
trusts_more (said.Ready device page) answer old new is = none_fewer old new is
trusts_more (said.Release device page) answer old new is = none_fewer old new is
trusts_more (said.Done number) answer old new is = none_fewer old new is
trusts_more (said.HandOff frame) answer old new is = none_fewer old new is
trusts_more (said.Take frame) answer old new is = none_fewer old new is

-- ONE LINE

-- nothing is claimed by a line of software
software_claims_nothing : (own : HardwareLine) (answer : Answer) (trusted : List ℕ) (before : Claimed) → is_of_software own answer trusted ≡ true
    → claimed_by own answer before ≡ before
software_claims_nothing (line.Event event) answer trusted before is = refl
software_claims_nothing (line.Load device) answer trusted before is = refl
software_claims_nothing (line.RegisterRead offset width) answer trusted before is = refl
software_claims_nothing (line.RegisterWrite offset width value) answer trusted before is = refl
software_claims_nothing (line.Claim own) answer trusted before is = absurd (false≢true is)
software_claims_nothing (line.Help help) answer trusted before is = refl

-- a claim, where it is judged
claim_line : DoneStaysDone → HandedOffStaysFree → (own : Said) (answer : Option ClaimAnswer) (claim : GoodClaim) (old new : Session) (before : Claimed) → ShowsClaimed old.claims before
    → board_parts new.hardware.board ≡ board_parts old.hardware.board → new.beside ≡ old.beside → TrustsWhere own answer old.trusted.items new.trusted.items → IsAdmittedWhere own answer old.hardware.board before
    → IsGoodWhere own answer (shown_in new) new.trusted.items before → WatchesClaimWhere own answer before (still_good old.watched.items) new.watched.items → is_wrong_claim answer ≡ false
    → IsNotEndedWhere claim own answer → IsKept claim old before → IsKept claim new (claimed_where own answer before)
claim_line unchanged free own None claim old new before shows same walks trusts admitted means watches fine ends (was, holds) = absurd admitted
claim_line unchanged free own (Some answer) claim old new before shows same walks trusts admitted means watches fine ends (was, holds) =
    claim_keeps unchanged free own answer claim old.hardware.board old.claims new before (still_good old.watched.items) shows admitted means watches fine (not_ended_where claim own answer ends) (still_watched claim old.watched.items was)
    (holds_sooner claim old new before (stays_sooner old new same walks (trusts_more own answer old.trusted.items new.trusted.items trusts)) holds)

not_ended_claim : (claim : GoodClaim) (own : Said) (answer : Answer) → IsNotEndedBy claim (line.Claim own) answer → IsNotEndedWhere claim own (judgement_in answer)
not_ended_claim (good.Done number device frame) own answer ends = tt
not_ended_claim (good.HandedOff frame) own answer ends = ends

-- where hardware stays
stays_line : (claim : GoodClaim) (old new : Session) (before : Claimed) → Unchanged (shown_in old) (shown_in new) → new.trusted.items ≡ old.trusted.items
    → new.watched.items ≡ still_good old.watched.items → IsKept claim old before → IsKept claim new before
stays_line claim old new before same trusts watches (was, holds) = (
  subst (λ (w : List Watched). IsWatched claim w) (sym watches) (still_watched claim old.watched.items was),
  holds_sooner claim old new before (stays_sooner old new same.parts same.beside (none_fewer old.trusted.items new.trusted.items trusts)) holds,
)

-- where hardware does something, or nothing
found_sooner : (old new : Session) → new.trusted.items ≡ old.trusted.items → UnchangedOrDoes old.trusted.items (shown_in old) (shown_in new) → ComesSooner old new
found_sooner old new trusts (inl (same, walks)) = stays_sooner old new same walks (none_fewer old.trusted.items new.trusted.items trusts)
found_sooner old new trusts (inr does) = call_sooner old new trusts does

-- a line that isn't of software
hard_line : DoneStaysDone → HandedOffStaysFree → (own : HardwareLine) (answer : Answer) (claim : GoodClaim) (old new : Session) (before : Claimed) → ShowsClaimed old.claims before
    → LineEffect own answer (shown_in old) (shown_in new) → TrustsBy own answer old.trusted.items new.trusted.items → IsAdmittedLine own answer old.hardware.board before → IsGoodLine own answer (shown_in new) new.trusted.items before
    → WatchesStep own answer before (still_good old.watched.items) new.watched.items → is_of_software own answer old.trusted.items ≡ false → is_wrong_claim (judgement_in answer) ≡ false
    → IsNotEndedBy claim own answer → IsKept claim old before → IsKept claim new (claimed_by own answer before)
hard_line unchanged free (line.Event event) answer claim old new before shows effect trusts admitted means watches soft fine ends (was, holds) = (
  subst (λ (w : List Watched). IsWatched claim w) (sym watches) (still_watched claim old.watched.items was),
  holds_sooner claim old new before
      (found_sooner old new trusts (event_effect old.trusted.items (shown_in old) (shown_in new) event answer soft (all_there old.hardware (hardware_invariant old)) effect)) holds,
)
hard_line unchanged free (line.Load device) answer claim old new before shows effect trusts admitted means watches soft fine ends (was, holds) = (
  subst (λ (w : List Watched). IsWatched claim w) (sym watches) (still_watched claim old.watched.items was),
  holds_sooner claim old new before (found_sooner old new trusts (load_effect old.trusted.items (shown_in old) (shown_in new) device answer effect)) holds,
)
hard_line unchanged free (line.RegisterRead offset width) answer claim old new before shows effect trusts admitted means watches soft fine ends kept =
    stays_line claim old new before effect.1 trusts watches kept
hard_line unchanged free (line.RegisterWrite offset width value) answer claim old new before shows effect trusts admitted means watches soft fine ends kept = absurd (false≢true (sym soft))
hard_line unchanged free (line.Claim own) answer claim old new before shows effect trusts admitted means watches soft fine ends kept =
    claim_line unchanged free own (judgement_in answer) claim old new before shows effect.parts effect.beside trusts admitted means watches fine (not_ended_claim claim own answer ends) kept
hard_line unchanged free (line.Help help) answer claim old new before shows effect trusts admitted means watches soft fine ends kept =
    stays_line claim old new before effect.1 trusts watches kept

-- nothing has fallen, no claim is wrong, and no access a violation
none_wrong : (reply : LineReply) → is_wrong reply ≡ false → (is_wrong_claim (judgement_in reply.stepped.answer) ≡ false) × (reply.stepped.violated ≡ false) × (has_fallen reply.watched ≡ false)
none_wrong reply fine =
    let parts = or_parts (is_wrong_claim (judgement_in reply.stepped.answer)) (reply.stepped.violated || has_fallen reply.watched) fine in
    let others = or_parts reply.stepped.violated (has_fallen reply.watched) parts.1 in
    (parts.0, others.0, others.1)

line_keeps : GoodAgainHolds → DoneStaysDone → HandedOffStaysFree → (claim : GoodClaim) (reply : LineReply) (old new : Session) (before : Claimed) → ShowsClaimed old.claims before
    → LineGoesOn old before reply new → is_wrong reply ≡ false → IsNotEndedBy claim reply.said reply.stepped.answer → IsKept claim old before → IsKept claim new (claimed_then reply before)
line_keeps again unchanged free claim reply old new before shows goes fine ends (was, holds) = by (is_of_software reply.said reply.stepped.answer old.trusted.items) refl goes.again
  where
    none : has_fallen new.watched.items ≡ false
    none = subst (λ (w : List Watched). has_fallen w ≡ false) goes.watched (none_wrong reply fine).2

    by : (b : Bool) → is_of_software reply.said reply.stepped.answer old.trusted.items ≡ b → WatchesWhere b reply.said reply.stepped.answer before old new → IsKept claim new (claimed_then reply before)
    by true soft judges =
        subst (λ (c : Claimed). IsKept claim new c) (sym (software_claims_nothing reply.said reply.stepped.answer old.trusted.items before soft))
        (judged_holds again claim (still_good old.watched.items) new.watched.items new before judges none (still_watched claim old.watched.items was))
    by false soft watches =
        hard_line unchanged free reply.said reply.stepped.answer claim old new before shows goes.effect goes.trusted goes.admitted goes.good watches soft (none_wrong reply fine).0 ends (was, holds)

-- MANY LINES

all_keep : GoodAgainHolds → DoneStaysDone → HandedOffStaysFree → (claim : GoodClaim) (all : List LineReply) (old new : Session) (before after : Claimed) → ShowsClaimed old.claims before
    → GoThrough old before all new after → is_any_reply_wrong all ≡ false → AreNotEnded claim all → IsKept claim old before → IsKept claim new after
all_keep again unchanged free claim [] old new before after shows (same, is) fine ends kept =
    subst (λ (s : Session). IsKept claim s after) (sym same) (subst (λ (c : Claimed). IsKept claim old c) (sym is) kept)
all_keep again unchanged free claim (first ∷ others) old new before after shows (between, goes, rest) fine ends kept =
    let fines = or_parts (is_wrong first) (is_any_reply_wrong others) fine in
    let (end, later) = not_ended claim first others ends in
    all_keep again unchanged free claim others between new (claimed_then first before) after goes.claimed rest fines.1 later
    (line_keeps again unchanged free claim first old between before shows goes fines.0 end kept)

pub accesses_are_claimed : AccessesAreClaimed
accesses_are_claimed old new before after [] goes fine = tt
accesses_are_claimed old new before after (first ∷ others) (between, goes, rest) fine =
    let fines = or_parts (is_wrong first) (is_any_reply_wrong others) fine in
    (goes.allowed (none_wrong first fines.0).1, accesses_are_claimed between new (claimed_then first before) after others rest fines.1)

-- the line at which something is claimed to be done
begins_done : DoneStaysDone → (own : HardwareLine) (answer : Answer) (number : ℕ) (grant : Grant) (old new : Session) (before : Claimed) → own ≡ line.Claim (said.Done number)
    → answer ≡ answered.Claim found.Good → ShowsClaimed old.claims before → IsOpen before.history (claim_from number grant) → IsGoodLine own answer (shown_in new) new.trusted.items before
    → WatchesBy own answer before old new → IsKept (good.Done number grant.device grant.frame) new (claimed_by own answer before)
begins_done unchanged own answer number grant old new before is fine shows opened means watches =
    let goods : found.Good ≡ found.Good → GoodMeans (said.Done number) (shown_in new) new.trusted.items before (after_done number before) =
    subst (λ (a : Answer). IsGoodLine (line.Claim (said.Done number)) a (shown_in new) new.trusted.items before) fine (subst (λ (l : HardwareLine). IsGoodLine l answer (shown_in new) new.trusted.items before) is means) in
    let (own_grant, own_open, watched) = as_done in
    let same = same_open old.claims before number own_grant grant shows own_open opened in
    subst (λ (c : Claimed). IsKept (good.Done number grant.device grant.frame) new c) (sym claims)
    (subst (λ (g : Grant). IsKept (good.Done number g.device g.frame) new (after_done number before)) same
    (done_is_kept unchanged number own_grant new before (still_good old.watched.items) own_open (goods refl) watched))
  where
    as_done : WatchesDone number found.Good before (still_good old.watched.items) new.watched.items
    as_done = subst (λ (a : Answer). WatchesBy (line.Claim (said.Done number)) a before old new) fine (subst (λ (l : HardwareLine). WatchesBy l answer before old new) is watches)

    claims : claimed_by own answer before ≡ after_done number before
    claims = ap (λ (l : HardwareLine). claimed_by l answer before) is ∙ ap (λ (a : Answer). claimed_by (line.Claim (said.Done number)) a before) fine

pub done_stays_out : GoodAgainHolds → DoneStaysDone → HandedOffStaysFree → DoneStaysOutOfReach
done_stays_out again unchanged free old new before after done later number grant made shows (between, goes, rest) fine (is, good_answer) opened at comes =
    let fines = or_parts (is_wrong done) (is_any_reply_wrong later) fine in
    let kept = begins_done unchanged done.said done.stepped.answer number grant old between before is good_answer shows opened goes.good goes.again in
    (all_keep again unchanged free (good.Done number grant.device grant.frame) later between new (claimed_then done before) after goes.claimed rest fines.1 tt kept).1 made at comes

-- the line at which a frame is handed off
begins_hand_off : HandedOffStaysFree → (own : HardwareLine) (answer : Answer) (frame : ℕ) (old new : Session) (before : Claimed) → own ≡ line.Claim (said.HandOff frame)
    → answer ≡ answered.Claim found.Good → IsGoodLine own answer (shown_in new) new.trusted.items before → WatchesBy own answer before old new → IsKept (good.HandedOff frame) new (claimed_by own answer before)
begins_hand_off free own answer frame old new before is fine means watches =
    let goods : found.Good ≡ found.Good → GoodMeans (said.HandOff frame) (shown_in new) new.trusted.items before (after_mark frame true before) =
    subst (λ (a : Answer). IsGoodLine (line.Claim (said.HandOff frame)) a (shown_in new) new.trusted.items before) fine (subst (λ (l : HardwareLine). IsGoodLine l answer (shown_in new) new.trusted.items before) is means) in
    hand_off_is_kept free frame new before (claimed_by own answer before) (still_good old.watched.items) (goods refl)
    (subst (λ (a : Answer). WatchesBy (line.Claim (said.HandOff frame)) a before old new) fine (subst (λ (l : HardwareLine). WatchesBy l answer before old new) is watches))

pub handed_off_stays_untouched : GoodAgainHolds → DoneStaysDone → HandedOffStaysFree → HandedOffStaysUntouched
handed_off_stays_untouched again unchanged free old new before after handed later frame id made shows (between, goes, rest) fine (is, good_answer) ends at comes =
    let fines = or_parts (is_wrong handed) (is_any_reply_wrong later) fine in
    let kept = begins_hand_off free handed.said handed.stepped.answer frame old between before is good_answer goes.good goes.again in
    (all_keep again unchanged free (good.HandedOff frame) later between new (claimed_then handed before) after goes.claimed rest fines.1 ends kept).1 id made at comes

-- one line more
pub through_more : (all : List LineReply) (reply : LineReply) (old between new : Session) (before after : Claimed) → GoThrough old before all between after → LineGoesOn between after reply new
    → GoThrough old before (all ++ reply ∷ []) new (claimed_then reply after)
through_more [] reply old between new before after (same, is) goes =
    (new, subst (λ (s : Session). LineGoesOn s before reply new) same (subst (λ (c : Claimed). LineGoesOn between c reply new) is goes), (refl, ap (λ (c : Claimed). claimed_then reply c) is))
through_more (first ∷ others) reply old between new before after (next, goes_first, rest) goes =
    (next, goes_first, through_more others reply next between new (claimed_then first before) after rest goes)
