-- A claim that was good holds on, where nothing is wrong: what it takes of one line.
use Rattle.std.proofs.Common.{◌≡◌, ℕ, zero, suc, ◌==◌, true, false, not, List, [], ◌∷◌, ◌++◌, Contains, slice_get, Option, None, Some, is_some, refl, sym, ap, subst, ◌∙◌}
use Rattle.std.specs.Bool.{⊤}
use Rattle.std.specs.List.{list_any}
use Rattle.std.proofs.lemmas.Bool.{false≢true, eqb-true, and_parts, or_left}
use Rattle.std.proofs.lemmas.List.Folds.{list_any-append}
use Rattle.iom_base.specs.declared.access.AccessKind.{AccessKind}
use Rattle.iom_claims.proofs.ListLemmas.{contains_filter, any_from_passing}
use Rattle.iom_claims.specs.Claimed.{Claimed}
use Rattle.iom_board.specs.BoardParts.{BoardParts, board_parts}
use Rattle.iom_hardware_session.proofs.InvariantLemmas.{invariant_by}
use Rattle.iom_hardware_session.proofs.BesideTurnLemmas.{DoesByCall, came_before, fewer_come}
use Rattle.iom_hardware_session.proofs.TurnLemmas.{AreFewer}
use Rattle.iom_hardware_session.specs.Laws.{Comes, ComesToMake, HoldsOn, GoodAgainHolds}
use Rattle.iom_hardware_session.specs.Runs.{has_fallen}
use Rattle.iom_hardware_session.specs.Shown.{shown_in}
use Rattle.iom_hardware_session.specs.Watching.{is_about_same, still_good, claims_of, IsVerdictOf, AreJudgedAgain}
use Rattle.iom_hardware_session.specs.declared.answer.Wrong.{Wrong}
use Rattle.iom_hardware_session.specs.declared.beside.Beside.{Beside}
use Rattle.iom_hardware_session.specs.declared.state.Session.{Session}
use Rattle.iom_hardware_session.specs.declared.watched.GoodClaim.{GoodClaim}
use Rattle.iom_hardware_session.specs.declared.watched.GoodClaim.TheVariants as good
use Rattle.iom_hardware_session.specs.declared.watched.Watched.{Watched}
use Rattle.iom_hardware_ways.proofs.ListLemmas.{get_contains}
use Rattle.iom_inflight.specs.declared.made.MadeAt.{MadeAt}
use Rattle.iom_ledger.specs.History.{May}
use Rattle.iom_way_survey.proofs.WayLemmas.{contains_get}
use Rattle.iom_way_survey.specs.Surveys.{is_id_among}

-- WHAT IS WATCHED

-- a claim about the same is watched, and good
abbrev pub IsWatched : GoodClaim → List Watched → Type 0
IsWatched claim watched = (own : Watched) × Contains watched own × (is_about_same claim own.claim ≡ true) × (own.why ≡ None)

-- what holds on of a claim holds on of each about the same
pub same_holds : (claim own : GoodClaim) (session : Session) (claimed : Claimed) → is_about_same claim own ≡ true → HoldsOn own session claimed → HoldsOn claim session claimed
same_holds (good.Done number device frame) (good.Done its own on) session claimed same holds =
    let parts = and_parts (device == own) (frame == on) same in
    let devices = eqb-true device own parts.0 in
    λ made at comes.
    subst (λ (d : ℕ). May claimed.history d made.frame made.kind) (sym devices)
    (holds made (at ∙ eqb-true frame on parts.1) (subst (λ (d : ℕ). ComesToMake session d made) devices comes))
same_holds (good.Done number device frame) (good.HandedOff on) session claimed same holds = absurd (false≢true same)
same_holds (good.HandedOff frame) (good.Done its own on) session claimed same holds = absurd (false≢true same)
same_holds (good.HandedOff frame) (good.HandedOff on) session claimed same holds = λ id made at comes. holds id made (at ∙ sym (eqb-true on frame same)) comes

-- nothing that is watched has fallen
none_fallen : (watched : List Watched) (own : Watched) → has_fallen watched ≡ false → Contains watched own → own.why ≡ None
none_fallen watched own none there = by own.why refl
  where
    by : (why : Option Wrong) → own.why ≡ why → why ≡ None
    by None is = refl
    by (Some wrong) is = absurd (false≢true (sym none ∙ any_from_passing (λ (w : Watched). is_some w.why) watched own there (ap (λ (w : Option Wrong). is_some w) is)))

-- what claims so stands at the same place
claim_at : (old new : List Watched) (k : ℕ) (own : Watched) → claims_of new ≡ claims_of old → slice_get old k ≡ Some own
    → (other : Watched) × (slice_get new k ≡ Some other) × (other.claim ≡ own.claim)
claim_at [] new k own same at = absurd (cc)
claim_at (first ∷ others) [] k own same at = absurd (cc)
claim_at (first ∷ others) (head ∷ rest) zero own same at = (head, refl, heads same ∙ ap (λ (w : Watched). w.claim) (inside at))
  where
    heads : head.claim ∷ claims_of rest ≡ first.claim ∷ claims_of others → head.claim ≡ first.claim
    heads e = cc

    inside : Some first ≡ Some own → first ≡ own
    inside e = cc
claim_at (first ∷ others) (head ∷ rest) (suc k) own same at = claim_at others rest k own (tails same) at
  where
    tails : head.claim ∷ claims_of rest ≡ first.claim ∷ claims_of others → claims_of rest ≡ claims_of others
    tails e = cc

-- where all are judged again, and none has fallen, each holds on
pub judged_holds : GoodAgainHolds → (claim : GoodClaim) (old new : List Watched) (session : Session) (claimed : Claimed) → AreJudgedAgain old new (shown_in session) session.trusted.items claimed
    → has_fallen new ≡ false → IsWatched claim old → IsWatched claim new × HoldsOn claim session claimed
judged_holds holds claim old new session claimed judged none (own, within_old, same, fine) =
    let (k, below, at) = contains_get old own within_old in
    let (other, there, claims) = claim_at old new k own judged.same at in
    let within = get_contains new k other there in
    let why = none_fallen new other none within in
    let reply : IsVerdictOf None other.claim (shown_in session) session.trusted.items claimed =
    subst (λ (w : Option Wrong). IsVerdictOf w other.claim (shown_in session) session.trusted.items claimed) why (judged.reply k other there) in
    let about = subst (λ (c : GoodClaim). is_about_same claim c ≡ true) (sym claims) same in
    ((other, within, about, why), same_holds claim other.claim session claimed about (holds session claimed other.claim reply))

-- what is good stays where others drop out
pub still_watched : (claim : GoodClaim) (watched : List Watched) → IsWatched claim watched → IsWatched claim (still_good watched)
still_watched claim watched (own, there, same, fine) =
    (own, contains_filter (λ (w : Watched). not (is_some w.why)) watched own there (ap (λ (w : Option Wrong). not (is_some w)) fine), same, fine)

-- WHAT MAY COME

-- whatever may come from the one might have come sooner, from the other
abbrev pub ComesSooner : Session → Session → Type 0
ComesSooner old new = (id : ℕ) (made : MadeAt) → ComesToMake new id made → ComesToMake old id made

pub stays_sooner : (old new : Session) → board_parts new.hardware.board ≡ board_parts old.hardware.board → new.beside ≡ old.beside
    → AreFewer (is_id_among old.trusted.items) (is_id_among new.trusted.items) → ComesSooner old new
stays_sooner old new same same_beside fewer = λ id made comes.
    fewer_come (is_id_among old.trusted.items) (is_id_among new.trusted.items) (board_parts old.hardware.board) old.beside id made fewer
    (subst (λ (beside : Beside). Comes (is_id_among new.trusted.items) (board_parts old.hardware.board) beside id made) same_beside
    (subst (λ (parts : BoardParts). Comes (is_id_among new.trusted.items) parts new.beside id made) same comes))

pub call_sooner : (old new : Session) → new.trusted.items ≡ old.trusted.items
    → DoesByCall (is_id_among old.trusted.items) (board_parts old.hardware.board) old.beside (board_parts new.hardware.board) new.beside → ComesSooner old new
call_sooner old new same does = λ id made comes.
    came_before (is_id_among old.trusted.items) old.hardware.board.events new.hardware.board.events id made (board_parts old.hardware.board) (board_parts new.hardware.board) old.beside new.beside (invariant_by old)
    new.invariants does
    (subst (λ (trusted : List ℕ). Comes (is_id_among trusted) (board_parts new.hardware.board) new.beside id made) same comes)

-- who was trusted is
pub none_fewer : (old new : List ℕ) → new ≡ old → AreFewer (is_id_among old) (is_id_among new)
none_fewer old new same = λ id among. subst (λ (trusted : List ℕ). is_id_among trusted id ≡ true) (sym same) among

pub one_more : (old new : List ℕ) (device : ℕ) → new ≡ old ++ device ∷ [] → AreFewer (is_id_among old) (is_id_among new)
one_more old new device same = λ id among.
    subst (λ (trusted : List ℕ). is_id_among trusted id ≡ true) (sym same)
    (list_any-append (λ own. own == id) old (device ∷ []) ∙ or_left (is_id_among old id) (list_any (λ own. own == id) (device ∷ [])) among)

pub holds_sooner : (claim : GoodClaim) (old new : Session) (claimed : Claimed) → ComesSooner old new → HoldsOn claim old claimed → HoldsOn claim new claimed
holds_sooner (good.Done number device frame) old new claimed sooner holds = λ made at comes. holds made at (sooner device made comes)
holds_sooner (good.HandedOff frame) old new claimed sooner holds = λ id made at comes. holds id made at (sooner id made comes)

-- WHAT IS CLAIMED

-- what the claim says that the device may reach it still may
abbrev pub AllowsStill : GoodClaim → Claimed → Claimed → Type 0
AllowsStill (good.Done number device frame) before after = (kind : AccessKind) → May before.history device frame kind → May after.history device frame kind
AllowsStill (good.HandedOff frame) before after = ⊤

pub holds_still : (claim : GoodClaim) (session : Session) (before after : Claimed) → AllowsStill claim before after → HoldsOn claim session before → HoldsOn claim session after
holds_still (good.Done number device frame) session before after still holds = λ made at comes.
    subst (λ (f : ℕ). May after.history device f made.kind) (sym at)
    (still made.kind (subst (λ (f : ℕ). May before.history device f made.kind) at (holds made at comes)))
holds_still (good.HandedOff frame) session before after still holds = holds

-- what is claimed stays
pub allows_same : (claim : GoodClaim) (before after : Claimed) → after ≡ before → AllowsStill claim before after
allows_same (good.Done number device frame) before after same = λ kind may. subst (λ (c : Claimed). May c.history device frame kind) (sym same) may
allows_same (good.HandedOff frame) before after same = tt
