-- The words of the clauses, passed on from where they are defined.
-- For the judge's own functions alone.
pub use Rattle.iom_base.specs.Accesses.{HasBytes, MayWant, at_frame}
pub use Rattle.iom_base.specs.DeviceIds.{id_limit}
pub use Rattle.iom_base.specs.DeviceKinds.{has_cache}
pub use Rattle.iom_base.specs.Disks.{is_among, is_missing, without_disk}
pub use Rattle.iom_base.specs.Refusals.{first_that_applies}
pub use Rattle.iom_base.specs.Rights.{allows}
pub use Rattle.iom_base.specs.Spans.{FitsInPage}
pub use Rattle.iom_base.specs.declared.rights.Rights.{Rights}
pub use Rattle.iom_kept_state.specs.Grants.{IsPastOf, is_confirmed_in}
unfoldable pub use Rattle.iom_kept_state.specs.Grants.{held_by, lingering_by}
pub use Rattle.iom_kept_state.specs.States.{Decides, state_of, DecidesUnchanged}
pub use Rattle.iom_ledger.specs.History.{History, May, confirms, confirmed_from, Lingers}
pub use Rattle.iom_machine.specs.BlockDevices.{MayInsert, Inserts, MaySet, MayBe, Begins, TakesStep, with_disk}
pub use Rattle.iom_machine.specs.Quarantining.{quarantined_under, attached_again}
pub use Rattle.iom_machine.specs.Devices.{DeviceMay, device_of}
pub use Rattle.iom_machine.specs.Frames.{IsFree}
pub use Rattle.iom_machine.specs.Judging.{StandsAt}
pub use Rattle.iom_machine.specs.Leaving.{leaving_under}
pub use Rattle.iom_machine.specs.Machine.{Acts, Plugs, Attaches, Detaches, Grants, Releases, GivesBytes, MakesWrite, Makes, ChosenStep, Polls, Pokes, ShowsBytes, Peeks, TellsFree, Quarantines, Revives}
pub use Rattle.iom_machine.specs.Messages.{Delivers}
pub use Rattle.iom_machine.specs.Questions.{MayShow, IsForEachKind, MayTellFormerly, MayTellUnderTicket, MayTell}
pub use Rattle.iom_machine.specs.Refusals.{MayRefusePlug, MayRefuseAttach, MayRefuseGrant, MayFindNoPlace, plug_reasons, attach_reasons, detach_reasons, grant_reasons, release_reasons, quarantine_reasons, revive_reasons, frame_reasons, poke_reasons, attachment_of, is_detached, is_leaving, is_quarantined, is_attached, may_still_reach, table_limit_at, is_held, is_lingering, has_grants}
pub use Rattle.iom_machine.specs.Requests.{MayAcceptFormerly, MayAcceptUnderTicket, MayFaultUnderTicket, IsPageFaultOf, IsPageFaultOfEither, cause_without_context, LingersSomewhere, IsBusy, IsForwarded, HoldsFor, HoldsNoneFor, LingersFor, MayAccept, MayFault, MayAcceptInOneStage, MayAnswer, state_after}
pub use Rattle.iom_machine.specs.Returning.{MayGiveBack, with_returned}
pub use Rattle.iom_machine.specs.ThroughCache.{MayHaveCached, MayGoThrough, MayAnswerThroughCache, state_after_cached}
pub use Rattle.iom_machine.specs.Tickets.{IsLastPending, MayTakeTicket, AreNextTickets, ArePending, MayConfirm, pending_tickets}
pub use Rattle.iom_machine.specs.Translated.{MayLackContext, MayFindNoContext, MayFaultTranslated, MayAnswerTranslated}
pub use Rattle.iom_machine.specs.declared.outcome.Outcome.TheVariants.{Refused, Accepted}
pub use Rattle.iom_machine.specs.declared.state.Attachment.TheVariants.{Attached, Detached}
pub use Rattle.iom_machine.specs.declared.state.Device.{Device}
pub use Rattle.iom_virtqueue.specs.Layouts.{layout_of}
pub use Rattle.std.specs.Option.{option_copied, option_map_or}
