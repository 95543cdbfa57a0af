-- The text by which a line says an event, and which events a line can say.
use Rattle.std.specs.Prelude.{ℕ, ◌^◌, ◌<◌, ◌≤◌, ⊤, Bool, true, false, List, ◌++◌, All, length, codes}
use Rattle.std.specs.Fmt.{decimal}
use Rattle.iom_base.specs.declared.grant_rights.GrantRights.{GrantRights}
use Rattle.iom_base.specs.declared.grant_rights.GrantRights.TheVariants.{ReadOnly, ReadWrite}
use Rattle.iom_base.specs.declared.mode.Mode.{Mode}
use Rattle.iom_base.specs.declared.mode.Mode.TheVariants.{First, Second, Both}
use Rattle.iom_base.specs.declared.size.Size.TheVariants.{Sv39, Sv48}
use Rattle.iom_base.specs.declared.device_kind.NewDevice.{NewDevice}
use Rattle.iom_base.specs.declared.device_kind.NewDevice.TheVariants.{Raw, Ats, Block, CachedBlock}
use Rattle.iom_machine.specs.declared.event.Event.{Event}
use Rattle.iom_machine.specs.declared.event.Event.TheVariants as events
use Rattle.iom_script.specs.Digits.{hex_digits, hex_of, hexadecimal}
use Rattle.iom_script.specs.Words.{◌␣◌}

-- a device: six hexadecimal digits
abbrev pub device_text : ℕ → List ℕ
device_text device = hex_digits 6 device

-- an address: `0x` and its digits without leading zeros
abbrev pub address_text : ℕ → List ℕ
address_text address = codes "0x" ++ hexadecimal address

abbrev pub right_text : GrantRights → List ℕ
right_text ReadOnly = codes "r"
right_text ReadWrite = codes "rw"

abbrev pub mode_text : Mode → List ℕ
mode_text (First Sv39) = codes "first"
mode_text (Second Sv39) = codes "second"
mode_text (Both Sv39) = codes "both"
mode_text (First Sv48) = codes "first48"
mode_text (Second Sv48) = codes "second48"
mode_text (Both Sv48) = codes "both48"

abbrev pub attaching_text : Mode → Bool → List ℕ
attaching_text mode false = mode_text mode
attaching_text mode true = mode_text mode ␣ codes "ats"

abbrev pub kind_text : NewDevice → List ℕ
kind_text Raw = codes "raw"
kind_text Ats = codes "ats"
kind_text (Block disk) = codes "blk" ␣ decimal disk
kind_text (CachedBlock disk) = codes "ablk" ␣ decimal disk

-- a word and a device; and a number, or an address with what is read or written there
abbrev pub named_text : List ℕ → ℕ → List ℕ
named_text word device = word ␣ device_text device

abbrev pub pair_text : List ℕ → ℕ → ℕ → List ℕ
pair_text word device number = word ␣ device_text device ␣ decimal number

abbrev pub read_text : List ℕ → ℕ → ℕ → ℕ → List ℕ
read_text word device address len = word ␣ device_text device ␣ address_text address ␣ decimal len

abbrev pub write_text : List ℕ → ℕ → ℕ → List ℕ → List ℕ
write_text word device address bytes = word ␣ device_text device ␣ address_text address ␣ hex_of bytes

-- THE LINE OF AN EVENT, without its line feed
abbrev pub event_text : Event → List ℕ
event_text (events.Plug device new) = codes "device" ␣ device_text device ␣ kind_text new
event_text (events.Medium device disk) = pair_text (codes "medium") device disk
event_text (events.Attach device mode ats) = codes "attach" ␣ device_text device ␣ attaching_text mode ats
event_text (events.Detach device) = named_text (codes "detach") device
event_text (events.Grant device page frame rights) = codes "grant" ␣ device_text device ␣ decimal page ␣ decimal frame ␣ right_text rights
event_text (events.Release device page) = pair_text (codes "release") device page
event_text (events.Quarantine device) = named_text (codes "quarantine") device
event_text (events.Revive device) = named_text (codes "revive") device
event_text events.Restart = codes "restart"
event_text events.Fetch = codes "fetch"
event_text events.Timeout = codes "timeout"
event_text events.Poll = codes "poll"
event_text events.Faults = codes "faults"
event_text (events.Read device address len) = read_text (codes "read") device address len
event_text (events.Write device address bytes) = write_text (codes "write") device address bytes
event_text (events.ReadTranslated device address len) = read_text (codes "tread") device address len
event_text (events.WriteTranslated device address bytes) = write_text (codes "twrite") device address bytes
event_text (events.ReadThroughCache device address len) = read_text (codes "aread") device address len
event_text (events.WriteThroughCache device address bytes) = write_text (codes "awrite") device address bytes
event_text (events.Ask device page) = pair_text (codes "ask") device page
event_text (events.Forge device serial) = pair_text (codes "forge") device serial
event_text (events.Deliver place) = codes "deliver" ␣ decimal place
event_text (events.Drop place) = codes "drop" ␣ decimal place
event_text (events.Repeat place) = codes "repeat" ␣ decimal place
event_text (events.Reset device) = named_text (codes "reset") device
event_text (events.Queue device size descriptors available used) =
    codes "queue" ␣ device_text device ␣ decimal size ␣ address_text descriptors ␣ address_text available ␣ address_text used
event_text (events.Step device) = named_text (codes "step") device
event_text (events.Status device) = named_text (codes "status") device
event_text (events.Commit device) = named_text (codes "commit") device
event_text (events.Poke address bytes) = codes "poke" ␣ address_text address ␣ hex_of bytes
event_text (events.Peek address len) = codes "peek" ␣ address_text address ␣ decimal len
event_text (events.Free frame) = codes "free" ␣ decimal frame

-- six hexadecimal digits name the device
abbrev pub IsNamed : ℕ → Type 0
IsNamed device = device < 2 ^ 24

-- a line can name so many bytes
abbrev pub AreNameable : List ℕ → Type 0
AreNameable bytes = (1 ≤ length bytes) × (length bytes ≤ 4096)

-- A line can say the event: its device has a name, and its bytes are some, and few.
abbrev pub IsSayable : Event → Type 0
IsSayable (events.Plug device new) = IsNamed device
IsSayable (events.Medium device disk) = IsNamed device
IsSayable (events.Attach device mode ats) = IsNamed device
IsSayable (events.Detach device) = IsNamed device
IsSayable (events.Grant device page frame rights) = IsNamed device
IsSayable (events.Release device page) = IsNamed device
IsSayable (events.Quarantine device) = IsNamed device
IsSayable (events.Revive device) = IsNamed device
IsSayable (events.Read device address len) = IsNamed device
IsSayable (events.Write device address bytes) = IsNamed device × AreNameable bytes
IsSayable (events.ReadTranslated device address len) = IsNamed device
IsSayable (events.WriteTranslated device address bytes) = IsNamed device × AreNameable bytes
IsSayable (events.ReadThroughCache device address len) = IsNamed device
IsSayable (events.WriteThroughCache device address bytes) = IsNamed device × AreNameable bytes
IsSayable (events.Ask device page) = IsNamed device
IsSayable (events.Forge device serial) = IsNamed device
IsSayable (events.Reset device) = IsNamed device
IsSayable (events.Queue device size descriptors available used) = IsNamed device
IsSayable (events.Step device) = IsNamed device
IsSayable (events.Status device) = IsNamed device
IsSayable (events.Commit device) = IsNamed device
IsSayable (events.Poke address bytes) = AreNameable bytes
IsSayable _ = ⊤

-- the number of its disk is one of 64 bits
abbrev pub HasDiskInRange : NewDevice → Type 0
HasDiskInRange Raw = ⊤
HasDiskInRange Ats = ⊤
HasDiskInRange (Block disk) = disk < 2 ^ 64
HasDiskInRange (CachedBlock disk) = disk < 2 ^ 64

-- its numbers are such as there are, of 64 bits each, a page of 52, and bytes
abbrev pub IsInRange : Event → Type 0
IsInRange (events.Plug device new) = HasDiskInRange new
IsInRange (events.Medium device disk) = disk < 2 ^ 64
IsInRange (events.Grant device page frame rights) = (page < 2 ^ 64) × (frame < 2 ^ 64)
IsInRange (events.Release device page) = page < 2 ^ 64
IsInRange (events.Read device address len) = (address < 2 ^ 64) × (len < 2 ^ 64)
IsInRange (events.Write device address bytes) = (address < 2 ^ 64) × All (λ byte. byte < 256) bytes
IsInRange (events.ReadTranslated device address len) = (address < 2 ^ 64) × (len < 2 ^ 64)
IsInRange (events.WriteTranslated device address bytes) = (address < 2 ^ 64) × All (λ byte. byte < 256) bytes
IsInRange (events.ReadThroughCache device address len) = (address < 2 ^ 64) × (len < 2 ^ 64)
IsInRange (events.WriteThroughCache device address bytes) = (address < 2 ^ 64) × All (λ byte. byte < 256) bytes
IsInRange (events.Ask device page) = page < 2 ^ 52
IsInRange (events.Forge device serial) = serial < 2 ^ 64
IsInRange (events.Deliver place) = place < 2 ^ 64
IsInRange (events.Drop place) = place < 2 ^ 64
IsInRange (events.Repeat place) = place < 2 ^ 64
IsInRange (events.Queue device size descriptors available used) = (size < 2 ^ 64) × (descriptors < 2 ^ 64) × (available < 2 ^ 64) × (used < 2 ^ 64)
IsInRange (events.Poke address bytes) = (address < 2 ^ 64) × All (λ byte. byte < 256) bytes
IsInRange (events.Peek address len) = (address < 2 ^ 64) × (len < 2 ^ 64)
IsInRange (events.Free frame) = frame < 2 ^ 64
IsInRange _ = ⊤
