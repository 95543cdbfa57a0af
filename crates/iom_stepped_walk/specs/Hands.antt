-- What a walk of tables may still come to: the table in hand, and the second stage from whose root later ones begin (RISC-V Privileged Architecture, sections 12.3.2
-- and 15.5).
use Rattle.std.specs.Prelude.{ℕ, ◌/◌, Option, None, Some}
use Rattle.iom_base.specs.Sizes.{page_size}
use Rattle.iom_stage_walk.specs.Both.{guest_address}
use Rattle.iom_stepped_walk.specs.Positions.{address_of}
use Rattle.iom_stepped_walk.specs.declared.guest.Both.{Both}
use Rattle.iom_stepped_walk.specs.declared.hand.SecondTables.{SecondTables}
use Rattle.iom_stepped_walk.specs.declared.hand.TableInHand.{TableInHand}
use Rattle.iom_stepped_walk.specs.declared.place.Place.{Place}
use Rattle.iom_stepped_walk.specs.declared.tables.TableWalk.{TableWalk}
use Rattle.iom_stepped_walk.specs.declared.tables.TableWalk.TheVariants.{InFirstStage, InSecondStage, ToGuestEntry, InGuestTable, ToGuestPage}

-- the place, on the way to this address
abbrev pub held_at : Place → ℕ → TableInHand
held_at place address = record { table = place.table; level = place.level; is_wide = place.is_wide; page = address / page_size }

-- THE TABLE IN HAND; none at an entry of a guest's table
abbrev pub hand_of : TableWalk → Option TableInHand
hand_of (InFirstStage asked place) = Some (held_at place asked.address)
hand_of (InSecondStage asked place) = Some (held_at place asked.address)
hand_of (ToGuestEntry both entry place) = Some (held_at place (address_of entry both.asked.address))
hand_of (InGuestTable both entry frame) = None
hand_of (ToGuestPage both page place) = Some (held_at place (guest_address page.number both.asked.address))

abbrev pub second_of : Both → SecondTables
second_of both = record { size = both.size; root = both.second }

-- THE SECOND STAGE whose tables are walked from the root for the page, while the guest's may name any
abbrev pub to_come_of : TableWalk → Option SecondTables
to_come_of (InFirstStage asked place) = None
to_come_of (InSecondStage asked place) = None
to_come_of (ToGuestEntry both entry place) = Some (second_of both)
to_come_of (InGuestTable both entry frame) = Some (second_of both)
to_come_of (ToGuestPage both page place) = None
