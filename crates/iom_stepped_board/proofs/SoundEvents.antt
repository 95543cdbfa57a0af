-- What stays true of what is under way beside a board, when a command is taken, an access is made, or a device is reset.
use Rattle.std.proofs.Common.{◌≡◌, ◌==◌, ◌<◌, ◌≤◌, ◌⊎◌, ◌∙◌, ◌++◌, ◌∷◌, [], inl, inr, ℕ, Bool, true, false, List, length, map, suc, Option, Some, None, IsSome, Result, slice_get, remove, refl, sym, ap, subst, arith}
use Rattle.std.proofs.lemmas.Bool.Decides.{eqb_tells}
use Rattle.iom_base.specs.declared.device_kind.NewDevice.{NewDevice}
use Rattle.iom_board.specs.Plugging.{LosesDisk, PutsDiskIntoDevice, StandsBehindOthers, newly_plugged}
use Rattle.iom_inflight.specs.Flights as flights
use Rattle.iom_inflight.proofs.Rows as flight_rows
use Rattle.iom_walks.proofs.Rows as walk_rows
use Rattle.iom_base.specs.declared.refusal.Refusal.{Refusal}
use Rattle.iom_board.specs.BoardParts.{BoardParts}
use Rattle.iom_ats_cache.specs.Cache.{Cache}
use Rattle.iom_board.specs.Commits.{CommitsOldestAccess, GivesUpFence, ResetsAnyDevice, TakesCommand}
use Rattle.iom_board.specs.Deliveries.{DeliversAtPlace, MessageArrives, MessageArrivesIfAny, TakesCompletion, with_delivery}
use Rattle.iom_board.specs.Messages.{AsksTranslation, ClaimsCompletion, CopiesMessage, LosesMessage, with_message}
use Rattle.iom_board.specs.declared.answers.Delivered.{Delivered}
use Rattle.iom_board.specs.declared.answers.Delivered.TheVariants.{Answered, Invalidated, Ignored, Closed, NotClosed}
use Rattle.iom_board.proofs.DeviceLists.{ids_has, ids_set}
use Rattle.iom_board.specs.Invariant.{device_ids, flight_ids, BoardInvariant}
use Rattle.iom_board.proofs.SoundPlugging.{gone_keeps, reset_keeps}
use Rattle.iom_command_queue.specs.declared.entry.QueueEntry.{QueueEntry}
use Rattle.iom_command_queue.specs.declared.entry.QueueEntry.TheVariants as stands
use Rattle.iom_device.specs.Caches.{with_has_disk}
use Rattle.iom_device.specs.Calls.{with_block_reset, with_reset}
use Rattle.iom_fabric.specs.declared.fabric.OnLink.{OnLink}
use Rattle.iom_fabric.specs.declared.message.Message.{Message}
use Rattle.iom_fabric.specs.declared.message.Message.TheVariants as sent
use Rattle.iom_fabric.specs.declared.message.Translation.{Translation}
use Rattle.iom_fabric.specs.declared.message.Translation.TheVariants.{Page, Refused}
use Rattle.iom_fabric.specs.declared.fabric.Repeat.{Repeat}
use Rattle.iom_device.specs.declared.device.Device.{Device}
use Rattle.iom_inflight.specs.Flights.{Flights, FlightRow, count_in}
use Rattle.iom_inflight.specs.declared.made.MadeAt.{MadeAt}
use Rattle.iom_iommu.specs.OwnIommu.{Iommu}
use Rattle.iom_iommu.specs.Parts.{flights_of, registers_of}
use Rattle.iom_iommu.specs.Effects.{FetchesByAnswer, StopsFetching, StopsAtEntry}
use Rattle.iom_iommu.specs.Fetches.{head_entry}
use Rattle.iom_iommu.specs.Questions.{AnswersQuestion}
use Rattle.iom_iommu.specs.Timeouts.{TimesFenceOut}
use Rattle.iom_iommu.proofs.ByAnswer.{by_answer}
use Rattle.iom_iommu.specs.declared.fetched.Fetched.{Fetched}
use Rattle.iom_iommu.specs.declared.fetched.Fetched.TheVariants.{Did, Waiting, Empty, Stopped}
use Rattle.iom_registers.specs.Queues.{is_processing_commands}
use Rattle.iom_walks.specs.Calls.{Adds, given_up}
use Rattle.iom_walks.specs.Walks.{UnderWay, WalkRow, new_row, row_of, under_way_in, under_way_of}
use Rattle.iom_stepped_board.specs.Beside.{AreBeside, walk_ids}
use Rattle.iom_stepped_board.proofs.BesideLemmas.{first_same, given_up_beside, made_beside, none_under_way, stays}

-- A COMMAND IS TAKEN: accesses in flight stay
stopped_flights : (memory : List (List ℕ)) (old iommu : Iommu) (entry : Option QueueEntry) → StopsAtEntry memory entry old iommu → flights_of iommu ≡ flights_of old
stopped_flights memory old iommu None stops = absurd stops
stopped_flights memory old iommu (Some stands.Outside) same = ap (λ (i : Iommu). flights_of i) same
stopped_flights memory old iommu (Some (stands.Illegal reason)) same = ap (λ (i : Iommu). flights_of i) same
stopped_flights memory old iommu (Some (stands.Command command)) (held, place, same) = ap (λ (i : Iommu). flights_of i) same

flights_by_answer : (old : List (List ℕ)) (before : Iommu) (memory : List (List ℕ)) (iommu : Iommu) (fetched : Fetched) → FetchesByAnswer old before fetched memory iommu
    → flights_of iommu ≡ flights_of before
flights_by_answer old before memory iommu (Did command) (on, at, free, place, stored, left) = left.flights
flights_by_answer old before memory iommu Waiting (on, waits, unchanged, same) = ap (λ (i : Iommu). flights_of i) same
flights_by_answer old before memory iommu Empty (on, none, unchanged, same) = ap (λ (i : Iommu). flights_of i) same
flights_by_answer old before memory iommu Stopped (stops, unchanged) = by (is_processing_commands (registers_of before)) stops
  where
    by : (on : Bool) → StopsFetching on old before iommu → flights_of iommu ≡ flights_of before
    by false same = ap (λ (i : Iommu). flights_of i) same
    by true stops = stopped_flights old before iommu (head_entry old (registers_of before)) stops

pub fetched_flights : (old : BoardParts) (fetched : Fetched) (new : BoardParts) → TakesCommand old fetched new → flights_of new.iommu ≡ flights_of old.iommu
fetched_flights old fetched new takes =
    flights_by_answer old.memory old.iommu new.memory new.iommu fetched (by_answer old.memory new.memory old.iommu new.iommu fetched takes.call)

-- a board that stayed
same_beside : (old new : BoardParts) (rows : List WalkRow) → AreBeside old rows → new ≡ old → AreBeside new rows
same_beside old new rows beside same = subst (λ (parts : BoardParts). AreBeside parts rows) (sym same) beside

-- AN ACCESS IS MADE
pub commit_beside : (old new : BoardParts) (rows : List WalkRow) (id : ℕ) (answer : Result (Option MadeAt) Refusal) → AreBeside old rows → CommitsOldestAccess old id answer new → AreBeside new rows
commit_beside old new rows id answer beside commits = elim commits [
  | inl none ↦ same_beside old new rows beside none.same
  | inr (inl wrong) ↦ same_beside old new rows beside wrong.same
  | inr (inr does) ↦ made_beside old new rows id does.given old.memory new.memory beside (ap device_ids does.call.devices) does.call.call.makes
]

-- A DEVICE IS RESET: its request is given up
reset_stays : (old new : BoardParts) (rows : List WalkRow) (events id : ℕ) (answer : Result (Unit {0}) Refusal) → BoardInvariant old events → AreBeside old rows → ResetsAnyDevice old id answer new
    → AreBeside new rows
reset_stays old new rows events id answer invariants beside resets = elim resets [
  | inl none ↦ same_beside old new rows beside none.same
  | inr (inl wrong) ↦ same_beside old new rows beside wrong.same
  | inr (inr does) ↦
      subst (λ (parts : BoardParts). AreBeside parts rows) (sym does.call.cleared)
      (stays old (record old { devices = with_reset old.devices id }) rows beside (reset_keeps old events id invariants).ids refl)
]

pub reset_beside : (old new : BoardParts) (rows : List WalkRow) (events id : ℕ) (answer : Result (Unit {0}) Refusal) → BoardInvariant old events → AreBeside old rows → ResetsAnyDevice old id answer new
    → AreBeside new (given_up rows (row_of rows id))
reset_beside old new rows events id answer invariants beside resets = given_up_beside new rows id (reset_stays old new rows events id answer invariants beside resets)

-- A DISK GOES, and a block device is reset: its request is given up
gone_stays : (old new : BoardParts) (rows : List WalkRow) (events id : ℕ) (answer : Result (Unit {0}) Refusal) → BoardInvariant old events → AreBeside old rows → LosesDisk old id answer new
    → AreBeside new rows
gone_stays old new rows events id answer invariants beside loses = elim loses [
  | inl none ↦ same_beside old new rows beside none.same
  | inr (inl wrong) ↦ same_beside old new rows beside wrong.same
  | inr (inr does) ↦
      subst (λ (parts : BoardParts). AreBeside parts rows) (sym does.call.gone)
      (stays old (record old { devices = with_block_reset (with_has_disk old.devices id false) id }) rows beside (gone_keeps old events id invariants).ids refl)
]

pub gone_beside : (old new : BoardParts) (rows : List WalkRow) (events id : ℕ) (answer : Result (Unit {0}) Refusal) → BoardInvariant old events → AreBeside old rows → LosesDisk old id answer new
    → AreBeside new (given_up rows (row_of rows id))
gone_beside old new rows events id answer invariants beside loses = given_up_beside new rows id (gone_stays old new rows events id answer invariants beside loses)

-- A DISK IS PUT INTO A DEVICE
pub medium_beside : (disks : List ℕ) (old new : BoardParts) (rows : List WalkRow) (id disk : ℕ) (answer : Result (Unit {0}) Refusal) (left : List ℕ) → AreBeside old rows
    → PutsDiskIntoDevice disks old id disk answer new left → AreBeside new rows
medium_beside disks old new rows id disk answer left beside puts = elim puts [
  | inl none ↦ same_beside old new rows beside none.0.same
  | inr (inl wrong) ↦ same_beside old new rows beside wrong.0.same
  | inr (inr (inl cannot)) ↦ same_beside old new rows beside cannot.same
  | inr (inr (inr takes)) ↦
      subst (λ (parts : BoardParts). AreBeside parts rows) (sym takes.put)
      (stays old (record old { devices = with_has_disk old.devices id true }) rows beside (ids_has old.devices id true) refl)
]

-- A MESSAGE IS SENT, LOST OR REPEATED
fabric_beside : (old new : BoardParts) (fabric : List OnLink) (rows : List WalkRow) → AreBeside old rows → new ≡ record old { fabric = fabric } → AreBeside new rows
fabric_beside old new fabric rows beside is = subst (λ (parts : BoardParts). AreBeside parts rows) (sym is) (stays old (record old { fabric = fabric }) rows beside refl refl)

pub ask_beside : (old new : BoardParts) (rows : List WalkRow) (id page : ℕ) (answer : Result Bool Refusal) → AreBeside old rows → AsksTranslation old id page answer new → AreBeside new rows
ask_beside old new rows id page answer beside asks = elim asks [
  | inl none ↦ same_beside old new rows beside none.same
  | inr (inl wrong) ↦ same_beside old new rows beside wrong.same
  | inr (inr does) ↦ fabric_beside old new _ rows beside does.call.sent
]

pub forge_beside : (old new : BoardParts) (rows : List WalkRow) (id serial : ℕ) (answer : Result Bool Refusal) → AreBeside old rows → ClaimsCompletion old id serial answer new → AreBeside new rows
forge_beside old new rows id serial answer beside claims = elim claims [
  | inl none ↦ same_beside old new rows beside none.same
  | inr (inl wrong) ↦ same_beside old new rows beside wrong.same
  | inr (inr does) ↦ fabric_beside old new _ rows beside does.call.sent
]

pub lost_beside : (old new : BoardParts) (rows : List WalkRow) (place : ℕ) (found : Bool) → AreBeside old rows → LosesMessage old place found new → AreBeside new rows
lost_beside old new rows place found beside loses = fabric_beside old new _ rows beside loses.lost

pub copied_beside : (old new : BoardParts) (rows : List WalkRow) (place : ℕ) (repeat : Repeat) → AreBeside old rows → CopiesMessage old place repeat new → AreBeside new rows
copied_beside old new rows place repeat beside copies = fabric_beside old new _ rows beside copies.copied

-- A FENCE IS GIVEN UP
timed_out_flights : (old new : Iommu) (has_effect : Bool) → TimesFenceOut old has_effect new → flights_of new ≡ flights_of old
timed_out_flights old new true (can, is) = ap (λ (i : Iommu). flights_of i) is
timed_out_flights old new false (cannot, is) = ap (λ (i : Iommu). flights_of i) is

pub timeout_beside : (old new : BoardParts) (rows : List WalkRow) (has_effect : Bool) → AreBeside old rows → GivesUpFence old has_effect new → AreBeside new rows
timeout_beside old new rows has_effect beside gives =
    stays old new rows beside (ap device_ids gives.devices) (timed_out_flights old.iommu new.iommu has_effect gives.call)

-- A MESSAGE ARRIVES
told_flights : (memory now : List (List ℕ)) (old new : Iommu) (id page : ℕ) (answer : Translation) → AnswersQuestion memory old id page answer now new → flights_of new ≡ flights_of old
told_flights memory now old new id page (Page frame rights) tells = ap (λ parts. parts.flights) tells.0.rest
told_flights memory now old new id page (Refused cause) tells = ap (λ parts. parts.flights) tells.rest

delivery_beside : (old new : BoardParts) (rows : List WalkRow) (device : ℕ) (cache : Option Cache) (fabric : List OnLink) → AreBeside old rows → new ≡ with_delivery old device cache fabric
    → AreBeside new rows
delivery_beside old new rows device cache fabric beside is =
    subst (λ (parts : BoardParts). AreBeside parts rows) (sym is) (stays old (with_delivery old device cache fabric) rows beside (ids_set old.devices device cache) refl)

completed_beside : (old new : BoardParts) (rows : List WalkRow) (device serial : ℕ) (others : List OnLink) (closed : Bool) → AreBeside old rows → TakesCompletion old device serial others closed new
    → AreBeside new rows
completed_beside old new rows device serial others closed beside takes =
    stays old new rows beside (ap device_ids takes.devices) (ap (λ (i : Iommu). flights_of i) takes.call.left)

arrives_beside : (old new : BoardParts) (rows : List WalkRow) (device : ℕ) (message : Message) (others : List OnLink) (delivered : Delivered) → AreBeside old rows
    → MessageArrives message old device others delivered new → AreBeside new rows
arrives_beside old new rows device (sent.Ask epoch page) others (Answered answer) beside asks =
    stays old new rows beside (ap device_ids asks.devices) (told_flights old.memory new.memory old.iommu new.iommu device page answer asks.call)
arrives_beside old new rows device (sent.Ask epoch page) others _ beside never = absurd never
arrives_beside old new rows device (sent.Answer epoch page answer) others delivered beside takes = delivery_beside old new rows device takes.after others beside takes.rest
arrives_beside old new rows device (sent.InvReq serial range) others (Invalidated named) beside (same, (done, after, obeys, is)) =
    delivery_beside old new rows device after (with_message others device done) beside is
arrives_beside old new rows device (sent.InvReq serial range) others Ignored beside (after, obeys, is) = delivery_beside old new rows device after others beside is
arrives_beside old new rows device (sent.InvReq serial range) others _ beside never = absurd never
arrives_beside old new rows device (sent.InvDone serial) others (Closed named) beside (same, takes) = completed_beside old new rows device serial others true beside takes
arrives_beside old new rows device (sent.InvDone serial) others (NotClosed named) beside (same, takes) = completed_beside old new rows device serial others false beside takes
arrives_beside old new rows device (sent.InvDone serial) others _ beside never = absurd never

arrives_if_any : (old new : BoardParts) (rows : List WalkRow) (found : Option OnLink) (others : List OnLink) (delivered : Delivered) → AreBeside old rows
    → MessageArrivesIfAny found old others delivered new → AreBeside new rows
arrives_if_any old new rows None others delivered beside none = same_beside old new rows beside none.1
arrives_if_any old new rows (Some on) others delivered beside arrives = arrives_beside old new rows on.device on.message others delivered beside arrives

pub delivered_beside : (old new : BoardParts) (rows : List WalkRow) (place : ℕ) (delivered : Delivered) → AreBeside old rows → DeliversAtPlace old place delivered new → AreBeside new rows
delivered_beside old new rows place delivered beside delivers = arrives_if_any old new rows (slice_get old.fabric place) (remove old.fabric place) delivered beside delivers

-- A DEVICE IS PLUGGED IN
no_walk : (rows : List WalkRow) (others : List FlightRow) (id : ℕ) → walk_ids rows ≡ flight_ids others → flights.row_of others id ≡ None → row_of rows id ≡ None
no_walk [] [] id same none = refl
no_walk [] (other ∷ others) id same none = cc
no_walk (row ∷ rows) [] id same none = cc
no_walk (row ∷ rows) (other ∷ others) id same none =
    let both = first_same row.device other.device (walk_ids rows) (flight_ids others) same in
    elim (eqb_tells other.device id) [
      | inl here ↦ let never : ◌≡◌ {A = Option FlightRow} (Some other) None = rw here.0 at none in cc
      | inr differs ↦
          let apart : (row.device == id) ≡ false = ap (λ n. n == id) both.0 ∙ differs.0 in
          rw apart (no_walk rows others id both.1 (rw differs.0 at none))
    ]

length_walks : (rows : List WalkRow) (others : List FlightRow) → walk_ids rows ≡ flight_ids others → length rows ≡ length others
length_walks [] [] same = refl
length_walks [] (other ∷ others) same = cc
length_walks (row ∷ rows) [] same = cc
length_walks (row ∷ rows) (other ∷ others) same = ap suc (length_walks rows others (first_same row.device other.device (walk_ids rows) (flight_ids others) same).1)

pub walk_added : (disks : List ℕ) (old new : BoardParts) (rows new_rows : List WalkRow) (events id : ℕ) (what : NewDevice) (left : List ℕ) (added : Bool) → BoardInvariant old events
    → AreBeside old rows → StandsBehindOthers disks old id what new left → Adds rows id added new_rows → Adds rows id true new_rows
walk_added disks old new rows new_rows events id what left true invariants beside adds walks = walks
walk_added disks old new rows new_rows events id what left false invariants beside adds walks = absurd (by walks.0)
  where
    ids : walk_ids rows ≡ flight_ids (flights_of old.iommu).rows
    ids = beside.ids ∙ sym invariants.rows

    row : row_of rows id ≡ None
    row = no_walk rows (flights_of old.iommu).rows id ids adds.row.flights.0

    few : length (flights_of old.iommu).rows < 16
    few = adds.row.flights.1

    by : IsSome (row_of rows id) ⊎ (16 ≤ length rows) → ⊥
    by (inl some) = (let is : IsSome {T = WalkRow} None = subst (λ (o : Option WalkRow). IsSome o) row some in cc)
    by (inr many) = (let long = length_walks rows (flights_of old.iommu).rows ids in omega (arith, many, long, few))

map_pushed : {X Y : Type 0} (f : X → Y) (xs : List X) (x : X) → map f (xs ++ x ∷ []) ≡ map f xs ++ f x ∷ []
map_pushed f [] x = refl
map_pushed f (y ∷ ys) x = ap (λ zs. f y ∷ zs) (map_pushed f ys x)

pub plugged_beside : (disks : List ℕ) (old new : BoardParts) (rows new_rows : List WalkRow) (id : ℕ) (what : NewDevice) (left : List ℕ) → AreBeside old rows
    → StandsBehindOthers disks old id what new left → Adds rows id true new_rows → AreBeside new new_rows
plugged_beside disks old new rows new_rows id what left beside adds walks =
    let rows_now : (flights_of new.iommu).rows ≡ (flights_of old.iommu).rows ++ flights.new_row id ∷ [] = ap (λ (f : Flights). f.rows) adds.row.flights.2 in
    let ids_now : walk_ids new_rows ≡ walk_ids rows ++ id ∷ [] = ap walk_ids walks.2 ∙ map_pushed (λ (row : WalkRow). row.device) rows (new_row id) in
    let devices_now : device_ids new.devices ≡ device_ids old.devices ++ id ∷ [] = ap device_ids adds.devices ∙ map_pushed (λ (d : Device). d.id) old.devices (newly_plugged id what) in
    record {
      ids = ids_now ∙ ap (λ (ids : List ℕ). ids ++ id ∷ []) beside.ids ∙ sym devices_now;
      room = λ other some. elim (eqb_tells other id) [
        | inl e ↦
            let idle : under_way_of new_rows id ≡ None = ap (λ (rs : List WalkRow). under_way_of rs id) walks.2 ∙ ap under_way_in (walk_rows.row_of_new rows (new_row id) walks.0) in
            none_under_way (under_way_of new_rows id) idle (subst (λ (d : ℕ). IsSome (under_way_of new_rows d)) e.1 some)
        | inr ne ↦
            let was : under_way_of new_rows other ≡ under_way_of rows other =
            ap (λ (rs : List WalkRow). under_way_of rs other) walks.2 ∙ ap under_way_in (walk_rows.row_of_append_other rows (new_row id) other ne.1) in
            let flies : flights.row_of (flights_of new.iommu).rows other ≡ flights.row_of (flights_of old.iommu).rows other =
            ap (λ (rs : List FlightRow). flights.row_of rs other) rows_now ∙ flight_rows.row_of_append_other (flights_of old.iommu).rows (flights.new_row id) other ne.1 in
            subst (λ (row : Option FlightRow). count_in row < 8) (sym flies) (beside.room other (subst (λ (found : Option UnderWay). IsSome found) was some))
      ];
    }
