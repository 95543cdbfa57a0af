-- A line says the event whose text it is.
use Rattle.std.proofs.Common.{Bool, true, false, inl, inr, refl, arith}
use Rattle.std.specs.Fmt.{decimal}
use Rattle.iom_base.specs.declared.grant_rights.GrantRights.{GrantRights}
use Rattle.iom_base.specs.declared.grant_rights.GrantRights.TheVariants.{ReadOnly, ReadWrite}
use Rattle.iom_base.specs.declared.mode.Mode.{Mode}
use Rattle.iom_base.specs.declared.mode.Mode.TheVariants.{First, Second, Both}
use Rattle.iom_base.specs.declared.size.Size.TheVariants.{Sv39, Sv48}
use Rattle.iom_base.specs.declared.device_kind.NewDevice.{NewDevice}
use Rattle.iom_base.specs.declared.device_kind.NewDevice.TheVariants.{Raw, Ats, Block, CachedBlock}
use Rattle.iom_machine.specs.declared.event.Event.{Event}
use Rattle.iom_machine.specs.declared.event.Event.TheVariants as events
use Rattle.iom_script.specs.Digits.{hex_of}
use Rattle.iom_script.specs.Grammar.{IsEventLine}
use Rattle.iom_script.specs.Words.{IsRight, IsMode, IsAttaching, IsKind}
use Rattle.iom_event_text.specs.Texts.{device_text, address_text, right_text, mode_text, attaching_text, kind_text, event_text, IsSayable, HasDiskInRange, IsInRange}
use Rattle.iom_event_text.proofs.HexLemmas.{is_address}

is_right : (rights : GrantRights) → IsRight (right_text rights) rights
is_right ReadOnly = inl (refl, refl)
is_right ReadWrite = inr (refl, refl)

is_mode : (mode : Mode) → IsMode (mode_text mode) mode
is_mode (First Sv39) = refl
is_mode (Second Sv39) = refl
is_mode (Both Sv39) = refl
is_mode (First Sv48) = refl
is_mode (Second Sv48) = refl
is_mode (Both Sv48) = refl

is_attaching : (mode : Mode) (ats : Bool) → IsAttaching (attaching_text mode ats) mode ats
is_attaching mode false = is_mode mode
is_attaching mode true = (mode_text mode, is_mode mode, refl)

is_kind : (new : NewDevice) → HasDiskInRange new → IsKind (kind_text new) new
is_kind Raw fits = refl
is_kind Ats fits = refl
is_kind (Block disk) fits = (decimal disk, (fits, refl), refl)
is_kind (CachedBlock disk) fits = (decimal disk, (fits, refl), refl)

-- so much of the event can be said as a line says
pub is_event_line : (event : Event) → IsSayable event → IsInRange event → IsEventLine (event_text event) event
is_event_line (events.Plug device new) named fits = (device_text device, kind_text new, (named, refl), is_kind new fits, refl)
is_event_line (events.Medium device disk) named fits = (device_text device, decimal disk, (named, refl), (fits, refl), refl)
is_event_line (events.Attach device mode ats) named fits = (device_text device, attaching_text mode ats, (named, refl), is_attaching mode ats, refl)
is_event_line (events.Grant device page frame rights) named fits = (device_text device, decimal page, decimal frame, right_text rights, (named, refl), (fits.0, refl), (fits.1, refl), is_right rights, refl)
is_event_line (events.Detach device) named fits = (device_text device, (named, refl), refl)
is_event_line (events.Quarantine device) named fits = (device_text device, (named, refl), refl)
is_event_line (events.Revive device) named fits = (device_text device, (named, refl), refl)
is_event_line (events.Reset device) named fits = (device_text device, (named, refl), refl)
is_event_line (events.Step device) named fits = (device_text device, (named, refl), refl)
is_event_line (events.Status device) named fits = (device_text device, (named, refl), refl)
is_event_line (events.Commit device) named fits = (device_text device, (named, refl), refl)
is_event_line (events.Release device page) named fits = (device_text device, decimal page, (named, refl), (fits, refl), refl)
is_event_line (events.Forge device serial) named fits = (device_text device, decimal serial, (named, refl), (fits, refl), refl)
is_event_line (events.Ask device page) named fits = (device_text device, decimal page, (named, refl), ((omega (arith, fits), refl), fits), refl)
is_event_line events.Restart named fits = refl
is_event_line events.Fetch named fits = refl
is_event_line events.Timeout named fits = refl
is_event_line events.Poll named fits = refl
is_event_line events.Faults named fits = refl
is_event_line (events.Read device address len) named fits = (device_text device, address_text address, decimal len, (named, refl), is_address address fits.0, (fits.1, refl), refl)
is_event_line (events.ReadTranslated device address len) named fits = (device_text device, address_text address, decimal len, (named, refl), is_address address fits.0, (fits.1, refl), refl)
is_event_line (events.ReadThroughCache device address len) named fits = (device_text device, address_text address, decimal len, (named, refl), is_address address fits.0, (fits.1, refl), refl)
is_event_line (events.Write device address bytes) named fits = (device_text device, address_text address, hex_of bytes, (named.0, refl), is_address address fits.0, (named.1.0, named.1.1, fits.1, refl), refl)
is_event_line (events.WriteTranslated device address bytes) named fits = (device_text device, address_text address, hex_of bytes, (named.0, refl), is_address address fits.0, (named.1.0, named.1.1, fits.1, refl), refl)
is_event_line (events.WriteThroughCache device address bytes) named fits = (device_text device, address_text address, hex_of bytes, (named.0, refl), is_address address fits.0, (named.1.0, named.1.1, fits.1, refl), refl)
is_event_line (events.Deliver place) named fits = (decimal place, (fits, refl), refl)
is_event_line (events.Drop place) named fits = (decimal place, (fits, refl), refl)
is_event_line (events.Repeat place) named fits = (decimal place, (fits, refl), refl)
is_event_line (events.Queue device size descriptors available used) named fits = (device_text device, decimal size, address_text descriptors, address_text available, address_text used, (named, refl), (fits.0, refl), is_address descriptors fits.1, is_address available fits.2, is_address used fits.3, refl)
is_event_line (events.Poke address bytes) named fits = (address_text address, hex_of bytes, is_address address fits.0, (named.0, named.1, fits.1, refl), refl)
is_event_line (events.Peek address len) named fits = (address_text address, decimal len, is_address address fits.0, (fits.1, refl), refl)
is_event_line (events.Free frame) named fits = (decimal frame, (fits, refl), refl)
