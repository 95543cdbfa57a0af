-- What follows of good claims, by the laws of hardware of either pace.
use Rattle.std.proofs.Common.{ℕ, Bool, List, sym, subst}
use Rattle.iom_base.specs.declared.access.AccessKind.{AccessKind}
use Rattle.iom_block_devices.specs.Shown.{ShownBlock}
use Rattle.iom_claims.specs.Claimed.{after_done}
use Rattle.iom_board.specs.BoardParts.{BoardParts, board_parts}
use Rattle.iom_hardware.specs.Inside.{inside}
use Rattle.iom_hardware_session.specs.Beside.{WalksAreSound}
use Rattle.iom_hardware_session.specs.Good.{scene_by, scene_in, HasClaimedWaysAlone}
use Rattle.iom_hardware_session.specs.declared.beside.Beside.{Beside}
use Rattle.iom_hardware_session.specs.declared.beside.Beside.TheVariants.{Nothing, UnderWay, Pointers}
use Rattle.iom_hardware_session.specs.declared.watched.GoodClaim.TheVariants as good
use Rattle.iom_hardware_session.specs.Laws.{Comes, DoneStaysDone, HandedOffStaysFree, GoodAgainHolds}
use Rattle.iom_hardware_ways.specs.Laws.{GoodClaimsHold, FreeStaysFree}
use Rattle.iom_inflight.specs.declared.made.MadeAt.{MadeAt}
use Rattle.iom_ledger.specs.History.{History, May}
use Rattle.iom_pointer_ways.specs.Laws.{PointedFreeStaysFree, PointedGoodClaimsHold, MakesAfter as MakesByPointers}
use Rattle.iom_pointers.specs.declared.features.Features.{Features}
use Rattle.iom_pointers.specs.declared.pointer.Pointer.{Pointer}
use Rattle.iom_reach.specs.Laws.{IsOutOfReach}
use Rattle.iom_reach.specs.Safe.{IsSafe, AreTimely}
use Rattle.iom_reach.specs.Ways.{Way}
use Rattle.iom_stepped_ways.specs.Laws.{MakesAfter, ScenesCover, SteppedFreeStaysFree, SteppedGoodClaimsHold}
use Rattle.iom_stepped_ways.specs.Scenes.{stepped_scene}
use Rattle.iom_virtio_blk.specs.MemoryDisks.{disk_state}
use Rattle.iom_walks.specs.Walks.{WalkRow}
use Rattle.iom_way_survey.specs.Surveys.{is_id_among}

-- WHAT COMES where walks take several events comes after its scene
came_after : ScenesCover → (trusted : ℕ → Bool) (parts : BoardParts) (blocks : List ShownBlock) (rows : List WalkRow) (id : ℕ) (made : MadeAt) → WalksAreSound parts blocks (UnderWay rows)
    → Comes trusted parts (UnderWay rows) id made → MakesAfter trusted (stepped_scene trusted parts rows) id made
came_after covers trusted parts blocks rows id made sound (calls, (events, between, between_rows, new, turns, commits)) = record {
  old = parts;
  rows = rows;
  covers = covers trusted parts rows sound.walks sound.kinds;
  calls = calls;
  events = events;
  between = between;
  between_rows = between_rows;
  turns = turns;
  new = new;
  makes = commits;
}

-- the same where pointers to tables are cached
came_by : (features : Features) (trusted : ℕ → Bool) (parts : BoardParts) (pointers : List Pointer) (id : ℕ) (made : MadeAt) → Comes trusted parts (Pointers features pointers) id made
    → MakesByPointers features.napot trusted parts pointers id made
came_by features trusted parts pointers id made (calls, (events, between, between_pointers, new, turns, commits)) =
    record { calls = calls; events = events; between = between; between_pointers = between_pointers; turns = turns; new = new; makes = commits }

module _ (holds : GoodClaimsHold) (stepped_holds : SteppedGoodClaimsHold) (pointed_holds : PointedGoodClaimsHold) (free : FreeStaysFree) (stepped_free : SteppedFreeStaysFree)
    (pointed_free : PointedFreeStaysFree) (covers : ScenesCover) where
  -- what is claimed allows what comes, where it allows each way
  allowed : (trusted : ℕ → Bool) (claimed : History) (parts : BoardParts) (blocks : List ShownBlock) (beside : Beside) (id : ℕ) (made : MadeAt) → WalksAreSound parts blocks beside
      → IsSafe (scene_by trusted parts beside) → AreTimely (scene_by trusted parts beside)
      → ((kind : AccessKind) → Way (scene_by trusted parts beside) id made.frame kind → May claimed id made.frame kind) → Comes trusted parts beside id made → May claimed id made.frame made.kind
  allowed trusted claimed parts blocks Nothing id made sound safe timely ways (calls, (events, between, new, turns, makes)) =
      holds trusted claimed calls events id made parts between new safe timely ways turns makes
  allowed trusted claimed parts blocks (UnderWay rows) id made sound safe timely ways comes =
      stepped_holds trusted claimed (stepped_scene trusted parts rows) id made safe timely ways (came_after covers trusted parts blocks rows id made sound comes)
  allowed trusted claimed parts blocks (Pointers features pointers) id made sound safe timely ways comes =
      pointed_holds features.napot trusted claimed parts pointers id made safe timely ways (came_by features trusted parts pointers id made comes)

  -- and nothing comes where there is no way
  untouched : (trusted : ℕ → Bool) (parts : BoardParts) (blocks : List ShownBlock) (beside : Beside) (id : ℕ) (made : MadeAt) → WalksAreSound parts blocks beside
      → IsSafe (scene_by trusted parts beside) → AreTimely (scene_by trusted parts beside) → IsOutOfReach (scene_by trusted parts beside) made.frame → ¬ Comes trusted parts beside id made
  untouched trusted parts blocks Nothing id made sound safe timely reach (calls, (events, between, new, turns, makes)) =
      free trusted calls events id made parts between new safe timely reach turns makes
  untouched trusted parts blocks (UnderWay rows) id made sound safe timely reach comes =
      stepped_free trusted (stepped_scene trusted parts rows) id made safe timely reach (came_after covers trusted parts blocks rows id made sound comes)
  untouched trusted parts blocks (Pointers features pointers) id made sound safe timely reach comes =
      pointed_free features.napot trusted parts pointers id made safe timely reach (came_by features trusted parts pointers id made comes)

  pub done_stays : DoneStaysDone
  done_stays session before number grant made ((safe, timely), each) opened same comes =
      allowed (is_id_among session.trusted.items) (after_done number before).history (board_parts session.hardware.board) (inside disk_state session.hardware).blocks session.beside grant.device made
      session.sound safe timely
      (subst (λ (f : ℕ). HasClaimedWaysAlone (scene_in session) (after_done number before) grant.device f) (sym same) (each grant opened)) comes

  pub handed_off_stays : HandedOffStaysFree
  handed_off_stays session before after frame id made ((safe, timely), nobodys, reach, unused) same comes =
      untouched (is_id_among session.trusted.items) (board_parts session.hardware.board) (inside disk_state session.hardware).blocks session.beside id made session.sound safe timely
      (subst (λ (f : ℕ). IsOutOfReach (scene_in session) f) (sym same) reach) comes

  pub good_again_holds : GoodAgainHolds
  good_again_holds session claimed (good.Done number device frame) ((safe, timely), alone) = λ made same comes.
      allowed (is_id_among session.trusted.items) claimed.history (board_parts session.hardware.board) (inside disk_state session.hardware).blocks session.beside device made
      session.sound safe timely
      (subst (λ (f : ℕ). HasClaimedWaysAlone (scene_in session) claimed device f) (sym same) alone) comes
  good_again_holds session claimed (good.HandedOff frame) ((safe, timely), (reach, unused)) = λ id made same comes.
      untouched (is_id_among session.trusted.items) (board_parts session.hardware.board) (inside disk_state session.hardware).blocks session.beside id made session.sound safe timely
      (subst (λ (f : ℕ). IsOutOfReach (scene_in session) f) (sym same) reach) comes
