-- A claim that was good holds on where something is claimed, and nothing is wrong.
use Rattle.std.proofs.Common.{◌≡◌, ℕ, ◌+◌, ◌<◌, ◌==◌, Bool, true, false, not, List, [], ◌∷◌, filter, Option, None, Some, IsSome, refl, sym, ap, subst, ◌∙◌, arith}
use Rattle.std.specs.Bool.{⊤}
use Rattle.std.proofs.lemmas.Bool.{false≢true, eqb-true, eq-eqb, and_parts, and_from, not_from_false}
use Rattle.std.proofs.lemmas.List.Elements.{Contains-push, Contains-append_left}
use Rattle.iom_base.specs.GrantRights.{rights_of}
use Rattle.iom_base.specs.declared.access.AccessKind.{AccessKind}
use Rattle.iom_claims.proofs.HistoryLemmas.{grant_from, claim_from}
use Rattle.iom_claims.proofs.ListLemmas.{contains_filter}
use Rattle.iom_base.specs.declared.grant_rights.GrantRights.{GrantRights}
use Rattle.iom_claims.specs.Claimed.{Claimed, IsOpen, after_grant, after_done, after_release, after_mark}
use Rattle.iom_claims.specs.declared.grant.Grant.{Grant}
use Rattle.iom_claims.specs.declared.grant.OpenClaim.{OpenClaim}
use Rattle.iom_claims.specs.Rows.{Rows}
use Rattle.iom_claims.specs.Shown.{ShowsClaimed}
use Rattle.iom_board.specs.declared.board.Board.{Board}
use Rattle.iom_hardware_script.specs.declared.script.Claim.{Claim as Said}
use Rattle.iom_hardware_script.specs.declared.script.Claim.TheVariants as said
use Rattle.iom_hardware_session.proofs.KeepLemmas.{IsWatched, AllowsStill, same_holds, holds_still}
use Rattle.iom_hardware_session.proofs.MayLemmas.{may_after_grant, may_after_release, may_after_done}
use Rattle.iom_hardware_session.specs.Admitted.{ClaimIsAdmitted}
use Rattle.iom_hardware_session.specs.Claiming.{claimed_after}
use Rattle.iom_hardware_session.specs.Good.{GoodMeans}
use Rattle.iom_hardware_session.specs.Laws.{DoneStaysDone, HandedOffStaysFree, HoldsOn}
use Rattle.iom_hardware_session.specs.Runs.{is_wrong_claim}
use Rattle.iom_hardware_session.specs.Sessions.{is_brought_back}
use Rattle.iom_hardware_session.specs.Shown.{shown_in}
use Rattle.iom_hardware_session.specs.Watching.{is_about_same, is_frame_handed_off, without_frame, with_claim, WatchesClaim}
use Rattle.iom_hardware_session.specs.declared.answer.ClaimAnswer.{ClaimAnswer}
use Rattle.iom_hardware_session.specs.declared.answer.ClaimAnswer.TheVariants as found
use Rattle.iom_hardware_session.specs.declared.state.Session.{Session}
use Rattle.iom_hardware_session.specs.declared.watched.GoodClaim.{GoodClaim}
use Rattle.iom_hardware_session.specs.declared.watched.GoodClaim.TheVariants as good
use Rattle.iom_hardware_session.specs.declared.watched.Watched.{Watched}
use Rattle.iom_ledger.specs.History.{Pair, May, held_at}

-- the claim isn't ended by this one: the frame that was handed off doesn't come back
abbrev pub IsNotEnded : GoodClaim → Said → ClaimAnswer → Type 0
IsNotEnded (good.Done number device frame) said answer = ⊤
IsNotEnded (good.HandedOff frame) said answer = is_brought_back frame said (Some answer) ≡ false

abbrev pub IsNotEndedWhere : GoodClaim → Said → Option ClaimAnswer → Type 0
IsNotEndedWhere (good.Done number device frame) said answer = ⊤
IsNotEndedWhere (good.HandedOff frame) said answer = is_brought_back frame said answer ≡ false

pub not_ended_where : (claim : GoodClaim) (said : Said) (answer : ClaimAnswer) → IsNotEndedWhere claim said (Some answer) → IsNotEnded claim said answer
not_ended_where (good.Done number device frame) said answer ends = tt
not_ended_where (good.HandedOff frame) said answer ends = ends

-- so of a claim by which this frame comes back
abbrev IsNotBack : GoodClaim → ℕ → Type 0
IsNotBack (good.Done number device frame) own = ⊤
IsNotBack (good.HandedOff frame) own = (frame == own) ≡ false

-- WHAT IS WATCHED

-- claims about the same
about_other : (claim own new : GoodClaim) → is_about_same claim own ≡ true → is_about_same new own ≡ true → is_about_same new claim ≡ true
about_other (good.Done n d f) (good.Done m e g) (good.Done l c h) same there =
    let parts = and_parts (d == e) (f == g) same in
    let others = and_parts (c == e) (h == g) there in
    and_from (c == d) (h == f) (eq-eqb c d (eqb-true c e others.0 ∙ sym (eqb-true d e parts.0))) (eq-eqb h f (eqb-true h g others.1 ∙ sym (eqb-true f g parts.1)))
about_other (good.Done n d f) (good.Done m e g) (good.HandedOff h) same there = absurd (false≢true there)
about_other (good.Done n d f) (good.HandedOff g) new same there = absurd (false≢true same)
about_other (good.HandedOff f) (good.Done m e g) new same there = absurd (false≢true same)
about_other (good.HandedOff f) (good.HandedOff g) (good.Done l c h) same there = absurd (false≢true there)
about_other (good.HandedOff f) (good.HandedOff g) (good.HandedOff h) same there = eq-eqb f h (sym (eqb-true g f same) ∙ eqb-true g h there)

about_back : (claim own : GoodClaim) → is_about_same own claim ≡ true → is_about_same claim own ≡ true
about_back (good.Done n d f) (good.Done m e g) same =
    let parts = and_parts (e == d) (g == f) same in
    and_from (d == e) (f == g) (eq-eqb d e (sym (eqb-true e d parts.0))) (eq-eqb f g (sym (eqb-true g f parts.1)))
about_back (good.Done n d f) (good.HandedOff g) same = absurd (false≢true same)
about_back (good.HandedOff f) (good.Done m e g) same = absurd (false≢true same)
about_back (good.HandedOff f) (good.HandedOff g) same = eq-eqb g f (sym (eqb-true f g same))

-- a claim about another stays watched beside a new one; one about the same is the new one
beside_new : (claim new : GoodClaim) (watched : List Watched) → is_about_same new claim ≡ false → IsWatched claim watched → IsWatched claim (with_claim new watched)
beside_new claim new watched other (own, there, same, fine) =
    (own, Contains-append_left (filter kept watched) ((record { claim = new; why = None }) ∷ []) own (contains_filter kept watched own there passes), same, fine)
  where
    kept : Watched → Bool
    kept w = not (is_about_same new w.claim)

    by : (b : Bool) → is_about_same new own.claim ≡ b → not b ≡ true
    by false e = refl
    by true e = absurd (false≢true (sym other ∙ about_other claim own.claim new same e))

    passes : kept own ≡ true
    passes = by (is_about_same new own.claim) refl

is_new : (claim new : GoodClaim) (watched : List Watched) → is_about_same new claim ≡ true → IsWatched claim (with_claim new watched)
is_new claim new watched same = (record { claim = new; why = None }, Contains-push (filter (λ (w : Watched). not (is_about_same new w.claim)) watched) (record { claim = new; why = None }), about_back claim new same, refl)

-- a claim that isn't a hand-off of this frame stays
not_of_frame : (claim own : GoodClaim) (frame : ℕ) → is_about_same claim own ≡ true → is_frame_handed_off frame claim ≡ false → is_frame_handed_off frame own ≡ false
not_of_frame (good.Done n d f) (good.Done m e g) frame same none = refl
not_of_frame (good.Done n d f) (good.HandedOff g) frame same none = absurd (false≢true same)
not_of_frame (good.HandedOff f) (good.Done m e g) frame same none = absurd (false≢true same)
not_of_frame (good.HandedOff f) (good.HandedOff g) frame same none = subst (λ (h : ℕ). (h == frame) ≡ false) (sym (eqb-true g f same)) none

beside_frame : (claim : GoodClaim) (frame : ℕ) (watched : List Watched) → is_frame_handed_off frame claim ≡ false → IsWatched claim watched → IsWatched claim (without_frame frame watched)
beside_frame claim frame watched none (own, there, same, fine) =
    (own, contains_filter (λ (w : Watched). not (is_frame_handed_off frame w.claim)) watched own there (not_from_false (is_frame_handed_off frame own.claim) (not_of_frame claim own.claim frame same none)), same, fine)

watched_as : (claim : GoodClaim) (old new : List Watched) → new ≡ old → IsWatched claim old → IsWatched claim new
watched_as claim old new same is = subst (λ (w : List Watched). IsWatched claim w) (sym same) is

not_handed_off : (claim : GoodClaim) (frame : ℕ) → IsNotBack claim frame → is_frame_handed_off frame claim ≡ false
not_handed_off (good.Done number device own) frame none = refl
not_handed_off (good.HandedOff own) frame none = none

not_granted : (claim : GoodClaim) (device page frame : ℕ) (rights : GrantRights) → IsNotEnded claim (said.Grant device page frame rights) found.Good → IsNotBack claim frame
not_granted (good.Done number d f) device page frame rights ends = tt
not_granted (good.HandedOff own) device page frame rights ends = ends

not_taken : (claim : GoodClaim) (frame : ℕ) → IsNotEnded claim (said.Take frame) found.Good → IsNotBack claim frame
not_taken (good.Done number d f) frame ends = tt
not_taken (good.HandedOff own) frame ends = ends

-- WHAT IS CLAIMED

allows_grant : (claim : GoodClaim) (grant : Grant) (before : Claimed) → held_at before.history grant.device grant.page ≡ None → AllowsStill claim before (after_grant grant before)
allows_grant (good.Done number device frame) grant before none = λ kind may. may_after_grant before.history grant device frame kind none may
allows_grant (good.HandedOff frame) grant before none = tt

allows_release : (claim : GoodClaim) (rows : Rows) (before : Claimed) (device page : ℕ) → ShowsClaimed rows before → IsSome (held_at before.history device page)
    → AllowsStill claim before (after_release device page before)
allows_release (good.Done number d f) rows before device page shows held = λ kind may. by (held_at before.history device page) refl held kind may
  where
    by : (there : Option Pair) → held_at before.history device page ≡ there → IsSome there → (kind : AccessKind) → May before.history d f kind → May (after_release device page before).history d f kind
    by None is some kind may = absurd (false≢true some)
    by (Some pair) is some kind may =
        may_after_release before.history (grant_from device page pair) (before.last + 1) d f kind is (shows.unused (before.last + 1) (above before.last)) may
      where
        above : (n : ℕ) → n < n + 1
        above n = omega arith
allows_release (good.HandedOff frame) rows before device page shows held = tt

-- a mark changes nothing of who may reach what
allows_mark : (claim : GoodClaim) (frame : ℕ) (mark : Bool) (before : Claimed) → AllowsStill claim before (after_mark frame mark before)
allows_mark (good.Done number device own) frame mark before = λ kind may. may
allows_mark (good.HandedOff own) frame mark before = tt

-- one claim at most is open under a number
pub same_open : (rows : Rows) (before : Claimed) (number : ℕ) (one other : Grant) → ShowsClaimed rows before → IsOpen before.history (claim_from number one)
    → IsOpen before.history (claim_from number other) → one ≡ other
same_open rows before number one other shows opened is_open =
    let same : claim_from number one ≡ claim_from number other =
    shows.lingers.single (claim_from number one) (claim_from number other) ((shows.lingers.opens (claim_from number one)).1 opened) ((shows.lingers.opens (claim_from number other)).1 is_open) refl in
    ap (λ (c : OpenClaim). c.grant) same

-- another claim is done
allows_done : (claim : GoodClaim) (rows : Rows) (before : Claimed) (number : ℕ) (grant : Grant) → ShowsClaimed rows before → IsOpen before.history (claim_from number grant)
    → is_about_same (good.Done number grant.device grant.frame) claim ≡ false → AllowsStill claim before (after_done number before)
allows_done (good.Done its d f) rows before number grant shows opened other = λ kind may.
    may_after_done before.history number d f kind (λ its_grant is_open (devices, frames). none its_grant is_open devices frames) may
  where
    none : (its_grant : Grant) → IsOpen before.history (claim_from number its_grant) → its_grant.device ≡ d → its_grant.frame ≡ f → ⊥
    none its_grant is_open devices frames =
        let grants = same_open rows before number grant its_grant shows opened is_open in
        false≢true (sym other ∙ and_from (grant.device == d) (grant.frame == f)
        (eq-eqb grant.device d (ap (λ (g : Grant). g.device) grants ∙ devices)) (eq-eqb grant.frame f (ap (λ (g : Grant). g.frame) grants ∙ frames)))
allows_done (good.HandedOff frame) rows before number grant shows opened other = tt

-- the claim is watched, and holds on
abbrev pub IsKept : GoodClaim → Session → Claimed → Type 0
IsKept claim session claimed = IsWatched claim session.watched.items × HoldsOn claim session claimed

-- A CLAIM THAT IS DONE is kept from then on
pub done_is_kept : DoneStaysDone → (number : ℕ) (grant : Grant) (new : Session) (before : Claimed) (watched : List Watched) → IsOpen before.history (claim_from number grant)
    → GoodMeans (said.Done number) (shown_in new) new.trusted.items before (after_done number before) → new.watched.items ≡ with_claim (good.Done number grant.device grant.frame) watched
    → IsKept (good.Done number grant.device grant.frame) new (after_done number before)
done_is_kept unchanged number grant new before watched opened means is = (
  watched_as (good.Done number grant.device grant.frame) (with_claim (good.Done number grant.device grant.frame) watched) new.watched.items is
      (is_new (good.Done number grant.device grant.frame) (good.Done number grant.device grant.frame) watched
      (and_from (grant.device == grant.device) (grant.frame == grant.frame) (eq-eqb grant.device grant.device refl) (eq-eqb grant.frame grant.frame refl))),
  λ made at comes. unchanged new before number grant made means opened at comes,
)

-- A FRAME THAT IS HANDED OFF is kept
pub hand_off_is_kept : HandedOffStaysFree → (frame : ℕ) (new : Session) (before after : Claimed) (watched : List Watched) → GoodMeans (said.HandOff frame) (shown_in new) new.trusted.items before after
    → new.watched.items ≡ with_claim (good.HandedOff frame) watched → IsKept (good.HandedOff frame) new after
hand_off_is_kept free frame new before after watched means is = (
  watched_as (good.HandedOff frame) (with_claim (good.HandedOff frame) watched) new.watched.items is
      (is_new (good.HandedOff frame) (good.HandedOff frame) watched (eq-eqb frame frame refl)),
  λ id made at comes. free new before after frame id made means at comes,
)

-- of a claim, by whether the new one is about the same
beside_done : DoneStaysDone → (claim : GoodClaim) (rows : Rows) (number : ℕ) (grant : Grant) (new : Session) (before : Claimed) (watched : List Watched) → ShowsClaimed rows before
    → IsOpen before.history (claim_from number grant) → GoodMeans (said.Done number) (shown_in new) new.trusted.items before (after_done number before)
    → new.watched.items ≡ with_claim (good.Done number grant.device grant.frame) watched → IsWatched claim watched → HoldsOn claim new before → IsKept claim new (after_done number before)
beside_done unchanged claim rows number grant new before watched shows opened means is was holds = by (is_about_same (good.Done number grant.device grant.frame) claim) refl
  where
    by : (b : Bool) → is_about_same (good.Done number grant.device grant.frame) claim ≡ b → IsKept claim new (after_done number before)
    by true same = (
      watched_as claim (with_claim (good.Done number grant.device grant.frame) watched) new.watched.items is (is_new claim (good.Done number grant.device grant.frame) watched same),
      same_holds claim (good.Done number grant.device grant.frame) new (after_done number before) (about_back claim (good.Done number grant.device grant.frame) same)
          (done_is_kept unchanged number grant new before watched opened means is).1,
    )
    by false other = (
      watched_as claim (with_claim (good.Done number grant.device grant.frame) watched) new.watched.items is (beside_new claim (good.Done number grant.device grant.frame) watched other was),
      holds_still claim new before (after_done number before) (allows_done claim rows before number grant shows opened other) holds,
    )

beside_hand_off : HandedOffStaysFree → (claim : GoodClaim) (frame : ℕ) (new : Session) (before : Claimed) (watched : List Watched)
    → GoodMeans (said.HandOff frame) (shown_in new) new.trusted.items before (after_mark frame true before) → new.watched.items ≡ with_claim (good.HandedOff frame) watched → IsWatched claim watched
    → HoldsOn claim new before → IsKept claim new (after_mark frame true before)
beside_hand_off free claim frame new before watched means is was holds = by (is_about_same (good.HandedOff frame) claim) refl
  where
    by : (b : Bool) → is_about_same (good.HandedOff frame) claim ≡ b → IsKept claim new (after_mark frame true before)
    by true same = (
      watched_as claim (with_claim (good.HandedOff frame) watched) new.watched.items is (is_new claim (good.HandedOff frame) watched same),
      same_holds claim (good.HandedOff frame) new (after_mark frame true before) (about_back claim (good.HandedOff frame) same)
          (hand_off_is_kept free frame new before (after_mark frame true before) watched means is).1,
    )
    by false other = (
      watched_as claim (with_claim (good.HandedOff frame) watched) new.watched.items is (beside_new claim (good.HandedOff frame) watched other was),
      holds_still claim new before (after_mark frame true before) (allows_mark claim frame true before) holds,
    )

-- ANY CLAIM, where it isn't wrong, leaves what was good
pub claim_keeps : DoneStaysDone → HandedOffStaysFree → (own : Said) (answer : ClaimAnswer) (claim : GoodClaim) (hardware : Board) (rows : Rows) (new : Session) (before : Claimed) (watched : List Watched)
    → ShowsClaimed rows before → ClaimIsAdmitted own answer hardware before → (answer ≡ found.Good → GoodMeans own (shown_in new) new.trusted.items before (claimed_after own answer before))
    → WatchesClaim own answer before watched new.watched.items → is_wrong_claim (Some answer) ≡ false → IsNotEnded claim own answer → IsWatched claim watched → HoldsOn claim new before
    → IsKept claim new (claimed_after own answer before)
claim_keeps unchanged free (said.Grant device page frame rights) found.Good claim hardware rows new before watched shows admitted means is fine ends was holds = (
  watched_as claim (without_frame frame watched) new.watched.items is (beside_frame claim frame watched (not_handed_off claim frame (not_granted claim device page frame rights ends)) was),
  holds_still claim new before (claimed_after (said.Grant device page frame rights) found.Good before)
      (allows_grant claim (record { device = device; page = page; frame = frame; rights = rights_of rights }) before admitted.1.3) holds,
)
claim_keeps unchanged free (said.Grant device page frame rights) (found.Wrong why) claim hardware rows new before watched shows admitted means is fine ends was holds = absurd (false≢true (sym fine))
claim_keeps unchanged free (said.Grant device page frame rights) (found.Released given) claim hardware rows new before watched shows admitted means is fine ends was holds = absurd admitted.0
claim_keeps unchanged free (said.Grant device page frame rights) found.Trusted claim hardware rows new before watched shows admitted means is fine ends was holds = absurd admitted.0
claim_keeps unchanged free (said.Grant device page frame rights) (found.Refused why) claim hardware rows new before watched shows admitted means is fine ends was holds = (watched_as claim watched new.watched.items is was, holds)
claim_keeps unchanged free (said.Grant device page frame rights) found.NoSuchClaim claim hardware rows new before watched shows admitted means is fine ends was holds = absurd admitted
claim_keeps unchanged free (said.Ready device page) found.Good claim hardware rows new before watched shows admitted means is fine ends was holds = (watched_as claim watched new.watched.items is was, holds)
claim_keeps unchanged free (said.Ready device page) (found.Wrong why) claim hardware rows new before watched shows admitted means is fine ends was holds = absurd (false≢true (sym fine))
claim_keeps unchanged free (said.Ready device page) (found.Released given) claim hardware rows new before watched shows admitted means is fine ends was holds = absurd admitted.0
claim_keeps unchanged free (said.Ready device page) found.Trusted claim hardware rows new before watched shows admitted means is fine ends was holds = absurd admitted.0
claim_keeps unchanged free (said.Ready device page) (found.Refused why) claim hardware rows new before watched shows admitted means is fine ends was holds = (watched_as claim watched new.watched.items is was, holds)
claim_keeps unchanged free (said.Ready device page) found.NoSuchClaim claim hardware rows new before watched shows admitted means is fine ends was holds = absurd admitted
claim_keeps unchanged free (said.Release device page) found.Good claim hardware rows new before watched shows admitted means is fine ends was holds = absurd admitted.0
claim_keeps unchanged free (said.Release device page) (found.Wrong why) claim hardware rows new before watched shows admitted means is fine ends was holds = absurd (false≢true (sym fine))
claim_keeps unchanged free (said.Release device page) (found.Released given) claim hardware rows new before watched shows admitted means is fine ends was holds = (watched_as claim watched new.watched.items is was, holds_still claim new before (after_release device page before) (allows_release claim rows before device page shows admitted.1.1) holds)
claim_keeps unchanged free (said.Release device page) found.Trusted claim hardware rows new before watched shows admitted means is fine ends was holds = absurd admitted.0
claim_keeps unchanged free (said.Release device page) (found.Refused why) claim hardware rows new before watched shows admitted means is fine ends was holds = (watched_as claim watched new.watched.items is was, holds)
claim_keeps unchanged free (said.Release device page) found.NoSuchClaim claim hardware rows new before watched shows admitted means is fine ends was holds = absurd admitted
claim_keeps unchanged free (said.Done number) found.Good claim hardware rows new before watched shows admitted means is fine ends was holds = let (grant, opened, same) = is in beside_done unchanged claim rows number grant new before watched shows opened (means refl) same was holds
claim_keeps unchanged free (said.Done number) (found.Wrong why) claim hardware rows new before watched shows admitted means is fine ends was holds = absurd (false≢true (sym fine))
claim_keeps unchanged free (said.Done number) (found.Released given) claim hardware rows new before watched shows admitted means is fine ends was holds = absurd admitted.0
claim_keeps unchanged free (said.Done number) found.Trusted claim hardware rows new before watched shows admitted means is fine ends was holds = absurd admitted.0
claim_keeps unchanged free (said.Done number) (found.Refused why) claim hardware rows new before watched shows admitted means is fine ends was holds = (watched_as claim watched new.watched.items is was, holds)
claim_keeps unchanged free (said.Done number) found.NoSuchClaim claim hardware rows new before watched shows admitted means is fine ends was holds = (watched_as claim watched new.watched.items is was, holds)
claim_keeps unchanged free (said.HandOff frame) found.Good claim hardware rows new before watched shows admitted means is fine ends was holds = beside_hand_off free claim frame new before watched (means refl) is was holds
claim_keeps unchanged free (said.HandOff frame) (found.Wrong why) claim hardware rows new before watched shows admitted means is fine ends was holds = absurd (false≢true (sym fine))
claim_keeps unchanged free (said.HandOff frame) (found.Released given) claim hardware rows new before watched shows admitted means is fine ends was holds = absurd admitted.0
claim_keeps unchanged free (said.HandOff frame) found.Trusted claim hardware rows new before watched shows admitted means is fine ends was holds = absurd admitted.0
claim_keeps unchanged free (said.HandOff frame) (found.Refused why) claim hardware rows new before watched shows admitted means is fine ends was holds = (watched_as claim watched new.watched.items is was, holds)
claim_keeps unchanged free (said.HandOff frame) found.NoSuchClaim claim hardware rows new before watched shows admitted means is fine ends was holds = absurd admitted
claim_keeps unchanged free (said.Take frame) found.Good claim hardware rows new before watched shows admitted means is fine ends was holds = (
  watched_as claim (without_frame frame watched) new.watched.items is (beside_frame claim frame watched (not_handed_off claim frame (not_taken claim frame ends)) was),
  holds_still claim new before (after_mark frame false before) (allows_mark claim frame false before) holds,
)
claim_keeps unchanged free (said.Take frame) (found.Wrong why) claim hardware rows new before watched shows admitted means is fine ends was holds = absurd (false≢true (sym fine))
claim_keeps unchanged free (said.Take frame) (found.Released given) claim hardware rows new before watched shows admitted means is fine ends was holds = absurd admitted.0
claim_keeps unchanged free (said.Take frame) found.Trusted claim hardware rows new before watched shows admitted means is fine ends was holds = absurd admitted.0
claim_keeps unchanged free (said.Take frame) (found.Refused why) claim hardware rows new before watched shows admitted means is fine ends was holds = (watched_as claim watched new.watched.items is was, holds)
claim_keeps unchanged free (said.Take frame) found.NoSuchClaim claim hardware rows new before watched shows admitted means is fine ends was holds = absurd admitted
claim_keeps unchanged free (said.Trust device) found.Good claim hardware rows new before watched shows admitted means is fine ends was holds = absurd admitted.0
claim_keeps unchanged free (said.Trust device) (found.Wrong why) claim hardware rows new before watched shows admitted means is fine ends was holds = absurd (false≢true (sym fine))
claim_keeps unchanged free (said.Trust device) (found.Released given) claim hardware rows new before watched shows admitted means is fine ends was holds = absurd admitted.0
claim_keeps unchanged free (said.Trust device) found.Trusted claim hardware rows new before watched shows admitted means is fine ends was holds = (watched_as claim watched new.watched.items is was, holds)
claim_keeps unchanged free (said.Trust device) (found.Refused why) claim hardware rows new before watched shows admitted means is fine ends was holds = (watched_as claim watched new.watched.items is was, holds)
claim_keeps unchanged free (said.Trust device) found.NoSuchClaim claim hardware rows new before watched shows admitted means is fine ends was holds = absurd admitted
