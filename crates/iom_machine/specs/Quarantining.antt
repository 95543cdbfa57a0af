-- Devices that are quarantined, and those that are attached again afterwards. Until the ticket of a quarantine is confirmed the device may be served as in its
-- former mode (`MayAcceptUnderTicket` in Requests.antt); a device that is attached again holds nothing.
use Rattle.std.specs.Prelude.{ℕ}
use Rattle.iom_machine.specs.declared.state.Attachment.{Attachment}
use Rattle.iom_machine.specs.declared.state.Attachment.TheVariants.{Detached, Attached, Quarantined, Leaving}

-- what is attached is quarantined under the ticket
abbrev pub quarantined_under : ℕ → Attachment → Attachment
quarantined_under ticket Detached = Detached
quarantined_under ticket (Attached mode ats) = Quarantined ticket mode ats
quarantined_under ticket (Quarantined own mode ats) = Quarantined own mode ats
quarantined_under ticket (Leaving own mode ats) = Leaving own mode ats

-- what is quarantined is attached as it was before
abbrev pub attached_again : Attachment → Attachment
attached_again Detached = Detached
attached_again (Attached mode ats) = Attached mode ats
attached_again (Quarantined ticket mode ats) = Attached mode ats
attached_again (Leaving ticket mode ats) = Leaving ticket mode ats
