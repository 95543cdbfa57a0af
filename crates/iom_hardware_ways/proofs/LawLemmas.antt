-- The laws over lists of calls.
use Rattle.std.proofs.Common.{◌≡◌, ◌∙◌, ◌+◌, ◌++◌, inl, inr, ℕ, Bool, List, [], ◌∷◌, map, Contains, Some, Ok, sym, ap, subst}
use Rattle.iom_fabric.specs.declared.fabric.OnLink.{OnLink}
use Rattle.iom_board.specs.Commits.{MakesAccess}
use Rattle.iom_board.specs.BoardParts.{BoardParts, board_parts}
use Rattle.iom_board.specs.PowerOn.{IsBoardAtPowerOn}
use Rattle.iom_board.specs.declared.board.Board.{Board}
use Rattle.iom_inflight.specs.declared.made.MadeAt.{MadeAt}
use Rattle.iom_registers.specs.Queues.{directory_mode, directory_root}
use Rattle.iom_registers.specs.declared.registers.Registers.{Registers}
use Rattle.iom_reach.specs.Memory.{Tables, WalkStep}
use Rattle.iom_reach.specs.Transitions.{Make, ComesAbout}
use Rattle.iom_reach.specs.Safe.{IsRead, IsSafe, AreTimely}
use Rattle.iom_reach.specs.Scene.{AddressSpace, Off, At, Message, Question, Answer, PartialWalk, DirectoryWalk, Place}
use Rattle.iom_reach.specs.Ways.{WalkBegins, AtRoot, PartWay}
use Rattle.iom_reach.proofs.LawLemmas.{turns_add_no_way, accesses_had_ways}
use Rattle.iom_hardware_ways.specs.Calls.{HardwareCall, DoInTurn}
use Rattle.iom_hardware_ways.specs.Laws.{AreTransitions, CallsAddNoWay, MakesIn, MadeAccessesHadWays, QuietStaysQuiet, GoodClaimsHold, FreeStaysFree, BeginsSafe}
use Rattle.iom_hardware_ways.specs.Scenes.{directory_by, waiting_places, message_of, scene_of}
use Rattle.iom_hardware_ways.proofs.CallLemmas.{calls_are_transitions}
use Rattle.iom_hardware_ways.proofs.FlightLemmas.{makes}
use Rattle.iom_hardware_ways.proofs.ListLemmas.{in_none}
use Rattle.iom_hardware_ways.proofs.Turns.{in_turn}

-- a list of calls is a list of transitions
pub all_occur : (trusted : ℕ → Bool) (calls : List HardwareCall) (events : ℕ) (old new : BoardParts) → DoInTurn trusted events old calls new
    → AreTransitions trusted old new
all_occur trusted [] events old new same = ([], ap (scene_of trusted) same)
all_occur trusted (first ∷ others) events old new (invariants, harmless, (between, effect, later)) =
    let (some, now) = calls_are_transitions trusted first events old between invariants effect harmless in
    let (rest, then) = all_occur trusted others (events + 1) between new later in
    (some ++ rest, in_turn some rest (scene_of trusted old) (scene_of trusted between) (scene_of trusted new) now then)

pub calls_add_no_way : CallsAddNoWay
calls_add_no_way trusted calls events old new safe timely turns =
    let (transitions, all) = all_occur trusted calls events old new turns in
    turns_add_no_way transitions (scene_of trusted old) (scene_of trusted new) safe timely all

-- a commit that makes an access is one
pub made_so : (trusted : ℕ → Bool) (old : BoardParts) (id : ℕ) (made : MadeAt) (new : BoardParts) → MakesIn trusted old id made new
    → ComesAbout (Make id (record { frame = made.frame; kind = made.kind })) (scene_of trusted old) (scene_of trusted new)
made_so trusted old id made new (inl absent, harmless) = absurd (let never = absent.answered in cc)
made_so trusted old id made new (inr (inl other), harmless) = absurd (let never = other.answered in cc)
made_so trusted old id made new (inr (inr so), harmless) =
    let reply : Ok (Some made) ≡ Ok so.given = so.answered in
    let same : so.given ≡ Some made = cc in
    makes trusted old id made new (subst (λ given. MakesAccess id old given new) same so.call) harmless

pub accesses_had_ways_in : MadeAccessesHadWays
accesses_had_ways_in trusted calls events id made old between new safe timely turns makes =
    let (transitions, all) = all_occur trusted calls events old between turns in
    accesses_had_ways transitions id (record { frame = made.frame; kind = made.kind }) (scene_of trusted old) (scene_of trusted between) (scene_of trusted new) safe timely all
    (made_so trusted between id made new makes)

pub quiet_stays_quiet : QuietStaysQuiet
quiet_stays_quiet trusted may calls events id made old between new safe timely quiet turns makes =
    quiet made.kind (accesses_had_ways_in trusted calls events id made old between new safe timely turns makes)

pub good_claims_hold : GoodClaimsHold
good_claims_hold trusted claimed calls events id made old between new safe timely good turns makes =
    good made.kind (accesses_had_ways_in trusted calls events id made old between new safe timely turns makes)

pub free_stays_free : FreeStaysFree
free_stays_free trusted calls events id made old between new safe timely free turns makes =
    free id made.kind (accesses_had_ways_in trusted calls events id made old between new safe timely turns makes)

-- POWER-ON

off_at : (tables : Tables) → Off ≡ At tables → ⊥
off_at tables same = cc

module _ (trusted : ℕ → Bool) (frames : ℕ) (disks : List ℕ) (hardware : Board) (on : IsBoardAtPowerOn frames disks hardware) where
  no_directory : (tables : Tables) → (scene_of trusted (board_parts hardware)).directory ≡ At tables → ⊥
  no_directory tables at = off_at tables (sym (ap (λ (r : Registers). directory_by (directory_mode r) (directory_root r)) on.iommu.registers) ∙ at)

  none_begins : (space : AddressSpace) (table : ℕ) (steps_to : ℕ → List WalkStep) → WalkBegins (scene_of trusted (board_parts hardware)) space table steps_to → ⊥
  none_begins space table steps_to (AtRoot device context tables (plugged, inl ((tree, at), stands)) is decide root all) = no_directory tree at
  none_begins space table steps_to (AtRoot device context tables (plugged, inr (page, steps, there, ends)) is decide root all) =
      in_none {X = DirectoryWalk} (record { device = device; table = page; steps = steps }) there
  none_begins space table steps_to (PartWay device there) = in_none {X = PartialWalk} (record { device = device; space = space; table = table; steps_to = steps_to }) there

  none_read : (frame : ℕ) → IsRead (scene_of trusted (board_parts hardware)) frame → ⊥
  none_read frame (inl (space, table, steps_to, page, begins, reads)) = none_begins space table steps_to begins
  none_read frame (inr (inl (inl (device, tables, plugged, at, reads)))) = no_directory tables at
  none_read frame (inr (inl (inr (walk, there, reads)))) = in_none {X = DirectoryWalk} walk there
  none_read frame (inr (inr (offset, there))) =
      in_none {X = Place} (record { frame = frame; offset = offset }) (subst (λ (r : Registers). Contains (waiting_places r) (record { frame = frame; offset = offset })) on.iommu.registers there)

  no_message : (message : Message) → Contains (map message_of hardware.fabric) message → ⊥
  no_message message there = in_none message (subst (λ (f : List OnLink). Contains (map message_of f) message) on.fabric there)

  pub begins_safe_at : IsSafe (scene_of trusted (board_parts hardware)) × AreTimely (scene_of trusted (board_parts hardware))
  begins_safe_at = (
    (λ frame read written. none_read frame read),
    record {
      asked = λ device epoch page caches there. absurd (no_message (Question device epoch page) there);
      answered = λ device epoch page mapping caches there. absurd (no_message (Answer device epoch page mapping) there);
    },
  )

pub begins_safe : BeginsSafe
begins_safe trusted frames disks hardware on = begins_safe_at trusted frames disks hardware on
