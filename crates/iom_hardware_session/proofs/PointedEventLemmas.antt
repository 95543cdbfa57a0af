-- What comes of a line of devices or hardware that caches pointers to tables: a request is walked ahead, the board does something by a call or nothing, and
-- pointers are forgotten.
use Rattle.std.proofs.Common.{◌≡◌, ◌↔◌, ◌∙◌, ◌⊎◌, inl, inr, ℕ, not, Bool, true, List, Contains, Option, None, Some, is_some, sym, subst}
use Rattle.iom_base.specs.declared.device_kind.DeviceKind.{DeviceKind}
use Rattle.iom_board.specs.BoardParts.{BoardParts, board_parts}
use Rattle.iom_board.specs.declared.board.Board.{Board}
use Rattle.iom_device.specs.Caches.{kind_in}
use Rattle.iom_device_dir.specs.declared.context.Context.{Context}
use Rattle.iom_hardware_session.specs.Answered.{fetch_in}
use Rattle.iom_hardware_session.specs.EventsPointed.{GoesAhead, IsQuestionServed, left_by}
use Rattle.iom_hardware_session.specs.declared.answer.Answer.{Answer}
use Rattle.iom_hardware_ways.proofs.ListLemmas.{filter_among}
use Rattle.iom_hardware_ways.specs.Calls.{HardwareCall, CallEffect}
use Rattle.iom_iommu.specs.declared.fetched.Fetched.{Fetched}
use Rattle.iom_iommu.specs.declared.fetched.Fetched.TheVariants as fetched
use Rattle.iom_machine.specs.declared.event.Event.{Event}
use Rattle.iom_pointed_board.specs.Roots.{context_found}
use Rattle.iom_pointed_board.specs.Starts.{WalksAhead}
use Rattle.iom_pointers.specs.Pointers.{is_covered}
use Rattle.iom_pointers.specs.declared.features.Features.{Features}
use Rattle.iom_pointers.specs.declared.pointer.Pointer.{Pointer}
use Rattle.iom_stepped_requests.specs.declared.request.Request.{Request}
use Rattle.iom_stepped_ways.specs.Calls.{WritesUntrusted}
use Rattle.iom_way_survey.specs.Surveys.{is_id_among}

-- a request of a device that is plugged in is walked ahead, or all stays
abbrev pub GoesAheadAt : Features → BoardParts → List Pointer → BoardParts → List Pointer → Type 0
GoesAheadAt features old pointers between between_pointers =
    ((between ≡ old) × (between_pointers ≡ pointers))
    ⊎ ((request : Request) × (kind : DeviceKind) × (kind_in old.devices request.device ≡ Some kind) × WalksAhead features old pointers request between between_pointers)

-- the board stays, or does something by a call, and no device that is trusted writes
abbrev pub DoesPlainly : (ℕ → Bool) → BoardParts → BoardParts → Type 0
DoesPlainly trusted between new = (new ≡ between) ⊎ ((done : HardwareCall) × CallEffect done between new × WritesUntrusted trusted done)

-- one, and then the other; pointers may be forgotten
abbrev pub DoesByPointers : Features → (ℕ → Bool) → BoardParts → List Pointer → BoardParts → List Pointer → Type 0
DoesByPointers features trusted old pointers new new_pointers =
    (between : BoardParts) × (between_pointers : List Pointer) × GoesAheadAt features old pointers between between_pointers × DoesPlainly trusted between new
    × ((pointer : Pointer) → Contains new_pointers pointer → Contains between_pointers pointer)

-- WHAT A FETCH LEAVES was there
left_among : (answer : Option Fetched) (pointers : List Pointer) (pointer : Pointer) → Contains (left_by answer pointers) pointer → Contains pointers pointer
left_among None pointers pointer there = there
left_among (Some (fetched.Did command)) pointers pointer there = filter_among (λ own. not (is_covered command own)) pointers pointer there
left_among (Some fetched.Waiting) pointers pointer there = there
left_among (Some fetched.Empty) pointers pointer there = there
left_among (Some fetched.Stopped) pointers pointer there = there

-- AN EVENT, by what is done at the board
pub pointed_by : (features : Features) (trusted : List ℕ) (said : Event) (answer : Answer) (old between new : Board) (pointers between_pointers new_pointers : List Pointer)
    → GoesAhead features said old pointers between between_pointers → new_pointers ≡ left_by (fetch_in answer) between_pointers
    → DoesPlainly (is_id_among trusted) (board_parts between) (board_parts new) → DoesByPointers features (is_id_among trusted) (board_parts old) pointers (board_parts new) new_pointers
pointed_by features trusted said answer old between new pointers between_pointers new_pointers goes left does = (
  board_parts between,
  between_pointers,
  ahead goes,
  does,
  (λ pointer there. left_among (fetch_in answer) between_pointers pointer (subst (λ (own : List Pointer). Contains own pointer) left there)),
)
  where
    ahead : GoesAhead features said old pointers between between_pointers → GoesAheadAt features (board_parts old) pointers (board_parts between) between_pointers
    ahead (inl (request, (kind, plugged), asks, walks)) = inr (request, kind, plugged, walks)
    ahead (inr (none, same, stays)) = inl (same, stays)

-- A QUESTION IS SERVED of a device that is plugged in, whose context has EN_ATS
pub question_served : (board : Board) (device : ℕ) (context : Context) (kind : Option DeviceKind) (is_there : Bool) → context_found (board_parts board) device ≡ Some context
    → context.en_ats ≡ true → kind ≡ kind_in board.devices.items device → is_there ≡ is_some kind → (is_there ≡ true) ↔ IsQuestionServed board device
question_served board device context None is_there found lets named there = (
  λ is. absurd (cc),
  λ served. let none : ◌≡◌ {A = Option DeviceKind} None (Some served.kind) = named ∙ served.plugged in absurd (cc),
)
question_served board device context (Some kind) is_there found lets named there =
    (λ is. record { kind = kind; plugged = sym named; context = context; found = found; lets = lets }, λ served. there)
