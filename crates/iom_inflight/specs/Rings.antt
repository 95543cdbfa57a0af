-- For the invariant of `Row` alone: how the accesses of a device stand in two rings, what describes them in one, the bytes of the writes in the other.
use Rattle.std.specs.Prelude.{◌≡◌, ℕ, ◌+◌, ◌*◌, ◌≤◌, nat_le, Bool, ◌&&◌, List, [], ◌∷◌, length, take, drop}
use Rattle.iom_base.specs.declared.access.AccessKind.{AccessKind}
use Rattle.iom_base.specs.declared.access.AccessKind.TheVariants.{Read, Write}
use Rattle.iom_base.specs.Sizes.{page_size, in_flight_limit}
use Rattle.circular_buffer.specs.Buffer.{Buffer}
use Rattle.iom_inflight.specs.declared.header.AccessHeader.{AccessHeader}
use Rattle.iom_inflight.specs.Flights.{NumberedAccess, is_same_kind}

-- how many bytes an access keeps: those of a write
abbrev pub kept_bytes : AccessKind → ℕ → ℕ
kept_bytes Read len = 0
kept_bytes Write len = len

-- an access with the bytes that it keeps
abbrev pub access_with : AccessHeader → List ℕ → NumberedAccess
access_with a bytes = record {
  accepted = record { access = record { address = a.address; len = a.len; kind = a.kind; bytes = bytes }; frame = a.frame };
  number = a.number;
}

-- the accesses, each with its bytes off the front
abbrev pub accesses_with_bytes : List AccessHeader → List ℕ → List NumberedAccess
accesses_with_bytes [] bytes = []
accesses_with_bytes (a ∷ later) bytes =
    access_with a (take (kept_bytes a.kind a.len) bytes) ∷ accesses_with_bytes later (drop (kept_bytes a.kind a.len) bytes)

-- how many bytes all of them keep
abbrev pub bytes_kept : List AccessHeader → ℕ
bytes_kept [] = 0
bytes_kept (a ∷ later) = kept_bytes a.kind a.len + bytes_kept later

-- no access keeps more bytes than a page has
abbrev pub AreShort : List AccessHeader → Type 0
AreShort [] = Unit {0}
AreShort (a ∷ later) = (kept_bytes a.kind a.len ≤ page_size) × AreShort later

-- what `is_awaited` says, without the bytes
abbrev pub is_header_awaited : ℕ → AccessKind → AccessHeader → Bool
is_header_awaited before kind a = is_same_kind a.kind kind && nat_le a.number before

-- the rings have their room, and the bytes are those of the writes
pub record AreRings (waiting : Buffer AccessHeader) (bytes : Buffer ℕ) : Type 0 where
  pub places : waiting.capacity ≡ in_flight_limit
  pub room : bytes.capacity ≡ in_flight_limit * page_size
  pub short : AreShort waiting.items
  pub all_kept : length bytes.items ≡ bytes_kept waiting.items
