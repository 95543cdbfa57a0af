-- Which features a driver may take (virtio 1.2, sections 2.2, 5.2.3 and 6).
use Rattle.std.specs.Prelude.{ℕ, ◌+◌, ◌^◌, ◌==◌, Bool, true, false, Option, Some, None, if◌then◌else◌}

-- VIRTIO_F_VERSION_1 and VIRTIO_F_ACCESS_PLATFORM
abbrev pub required : ℕ
required = 2 ^ 32 + 2 ^ 33

-- and VIRTIO_BLK_F_FLUSH
abbrev pub offered : ℕ
offered = 2 ^ 32 + 2 ^ 33 + 2 ^ 9

-- the first two must be taken, the third may be: whether it is, or none where these features can't be taken
abbrev pub flush_of : ℕ → Option Bool
flush_of features = if features == offered then Some true else (if features == required then Some false else None)
