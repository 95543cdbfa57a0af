-- The bytes of a chain's buffers, one buffer after another (virtio 1.2, section 2.7.4.2).
use Rattle.std.specs.Prelude.{ℕ, ◌+◌, ◌-◌, nat_lt, min, List, [], ◌∷◌, Option, Some, None, option_map, if◌then◌else◌}
use Rattle.iom_virtqueue.specs.declared.descriptor.Link.{Link}
use Rattle.iom_virtqueue.specs.declared.spans.Piece.{Piece}
use Rattle.iom_virtqueue.specs.Accesses.{wrapped, cut}

-- where byte number n of these buffers lies, and how many bytes its buffer has from there on
abbrev pub rest_of : List Link → ℕ → Option Piece
rest_of [] n = None
rest_of (link ∷ rest) n =
    if nat_lt n link.descriptor.len
    then Some (record { address = wrapped (link.descriptor.address + n); len = link.descriptor.len - n })
    else rest_of rest (n - link.descriptor.len)

-- at most so many bytes from there on, cut at the end of the buffer and of the page
abbrev pub cut_to : ℕ → Piece → Piece
cut_to most piece = record { address = piece.address; len = min most (cut piece.address piece.len) }

-- the piece of these buffers that begins at byte number n
abbrev pub piece_of : List Link → ℕ → ℕ → Option Piece
piece_of links n most = option_map (cut_to most) (rest_of links n)
