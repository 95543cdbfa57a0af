-- That what is under way is sound is a fact: it has one proof at most, so a struct that has it can carry it.
-- For such structs alone; no public contract cites these.
use Rattle.std.specs.Prelude.{ℕ, List, [], ◌∷◌, Option, None, Some}
use Rattle.std.specs.Coded.{Unit-prop}
use Rattle.std.proofs.Props.{props}
use Rattle.iom_base.specs.declared.access.AccessKind.{AccessKind}
use Rattle.iom_base.specs.declared.access.AccessKind.TheVariants.{Read, Write}
use Rattle.iom_block_devices.specs.Shown.{ShownBlock}
use Rattle.iom_board.specs.BoardParts.{BoardParts}
use Rattle.iom_hardware_session.specs.Beside.{AreSoundBeside, WalksAreSound}
use Rattle.iom_hardware_session.specs.declared.beside.Beside.{Beside}
use Rattle.iom_hardware_session.specs.declared.beside.Beside.TheVariants as beside
use Rattle.iom_inflight.specs.Invariant.{CarriesBytes}
use Rattle.iom_stepped_requests.specs.declared.request.Answer.{Answer}
use Rattle.iom_stepped_requests.specs.declared.request.Answer.TheVariants.{AsItIs, Cached, Reaches, Faults}
use Rattle.iom_stepped_requests.specs.declared.request.Request.{Request}
use Rattle.iom_stepped_requests.specs.declared.walk.RequestWalk.TheVariants.{InDirectory, InTables}
use Rattle.iom_stepped_requests.specs.declared.walk.Serving.{Serving}
use Rattle.iom_stepped_requests.specs.declared.walk.Serving.TheVariants.{GoesOn, Served}
use Rattle.iom_stepped_ways.specs.Scenes.{IsForKind}
use Rattle.iom_walks.specs.Invariant.{AreDistinct, IsOfRequest, IsServedAtMost, NamesNoFrame, RowInvariant, RowsInvariant, UnderWayInvariant}
use Rattle.iom_walks.specs.Walks.{UnderWay, WalkRow}

distinct_prop : (rows : List WalkRow) → IsProp (AreDistinct rows)
distinct_prop [] = Unit-prop
distinct_prop (row ∷ rows) = let rest = distinct_prop rows in hlevel (props, rest)

of_request_prop : (request : Request) (serving : Serving) → IsProp (IsOfRequest request serving)
of_request_prop request (GoesOn walk) = hlevel props
of_request_prop request (Served answer) = Unit-prop

no_frame_prop : (answer : Answer) → IsProp (NamesNoFrame answer)
no_frame_prop AsItIs = Unit-prop
no_frame_prop (Cached translation) = hlevel props
no_frame_prop (Reaches walked) = hlevel props
no_frame_prop (Faults fault) = Unit-prop

served_prop : (serving : Serving) → IsProp (IsServedAtMost serving)
served_prop (GoesOn walk) = Unit-prop
served_prop (Served answer) = no_frame_prop answer

carries_prop : (kind : AccessKind) (len : ℕ) (bytes : List ℕ) → IsProp (CarriesBytes kind len bytes)
carries_prop Read len bytes = hlevel props
carries_prop Write len bytes = hlevel props

under_way_prop : (device : ℕ) (bytes : List ℕ) (under_way : UnderWay) → IsProp (UnderWayInvariant device bytes under_way)
under_way_prop device bytes under_way = hlevel (props, of_request_prop, served_prop, carries_prop)

row_prop : (device : ℕ) (bytes : List ℕ) (under_way : Option UnderWay) → IsProp (RowInvariant device bytes under_way)
row_prop device bytes None = Unit-prop
row_prop device bytes (Some under_way) = under_way_prop device bytes under_way

rows_prop : (rows : List WalkRow) → IsProp (RowsInvariant rows)
rows_prop [] = Unit-prop
rows_prop (row ∷ rows) = let first = row_prop row.device row.bytes row.under_way in let rest = rows_prop rows in hlevel (props, first, rest)

kind_prop : (request : Request) (serving : Serving) → IsProp (IsForKind request serving)
kind_prop request (GoesOn (InDirectory own anew walk)) = hlevel props
kind_prop request (GoesOn (InTables own context translated walk)) = hlevel props
kind_prop request (Served answer) = hlevel props

sound_beside_prop : (parts : BoardParts) (blocks : List ShownBlock) (rows : List WalkRow) → IsProp (AreSoundBeside parts blocks rows)
sound_beside_prop parts blocks rows = hlevel (props, distinct_prop, rows_prop, kind_prop)

pub walks_are_sound_prop : (parts : BoardParts) (blocks : List ShownBlock) (own : Beside) → IsProp (WalksAreSound parts blocks own)
walks_are_sound_prop parts blocks beside.Nothing = Unit-prop
walks_are_sound_prop parts blocks (beside.UnderWay rows) = sound_beside_prop parts blocks rows
walks_are_sound_prop parts blocks (beside.Pointers features pointers) = Unit-prop
