-- The words of the clauses, passed on from where they are defined.
-- For the functions of this crate alone.
pub use Rattle.iom_base.specs.Bytes.{with_bytes}
pub use Rattle.iom_base.specs.Calls.{IsGrantable}
pub use Rattle.iom_base.specs.Sizes.{page_size}
pub use Rattle.iom_base.specs.declared.owner.Owner.{Owner}
pub use Rattle.iom_base.specs.declared.owner.Owner.TheVariants.{System, OneDevice}
pub use Rattle.iom_kept_state.specs.Frames.{frames_in, kept_at, ChangesFrame, bytes_kept, frame_kept}
pub use Rattle.iom_kept_state.specs.Grants.{IsPastOf, pages_by, is_confirmed_in, frame_at_place}
unfoldable pub use Rattle.iom_kept_state.specs.Grants.{held_by, lingering_by}
pub use Rattle.iom_kept_state.specs.States.{state_of}
pub use Rattle.iom_ledger.specs.History.{History, held_at, confirmed_from, Pair, Holds, lingering_at, confirms, Lingers, May, NoneMayReach}
pub use Rattle.iom_ledger.specs.declared.entry.HistoryEntry.TheVariants.{Granted, Released, AllReleased, Confirmed}
pub use Rattle.iom_machine.specs.Frames.{is_reserved, reserved_for, with_frame, bytes_of, stored, IsFree, IsFreeBesides, IsFreeRun, FewerThan}
pub use Rattle.iom_machine.specs.Judging.{attachment_in, is_of_left_in}
pub use Rattle.iom_machine.specs.Leaving.{has_left, once_confirmed, device_once_confirmed, given_back, with_left}
pub use Rattle.iom_machine.specs.PowerOn.{empty_frame, opening}
pub use Rattle.iom_machine.specs.Refusals.{attachment_of, is_attached}
pub use Rattle.iom_machine.specs.Requests.{LingersSomewhere}
pub use Rattle.iom_machine.specs.Returning.{frames_returned, MayGiveBack, MayGiveBackOf, with_returned}
pub use Rattle.iom_machine.specs.Tickets.{last_confirmed}
pub use Rattle.iom_machine.specs.declared.state.Device.{Device}
pub use Rattle.iom_machine.specs.declared.state.Frame.{Frame}
pub use Rattle.std.specs.List.{list_any}
pub use Rattle.std.specs.Option.{option_and_then, option_copied}
