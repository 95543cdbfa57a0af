-- Accesses that a block device wants, of which those that write a sector's bytes name their place in it.
use Rattle.std.specs.Prelude.{ℕ, List, take, drop}
use Rattle.iom_virtqueue.specs.Accesses.{Access, wanted_access_of, writes}
use Rattle.iom_virtio_blk.specs.declared.want.WantedAccess.{WantedAccess}
use Rattle.iom_virtio_blk.specs.declared.want.WantedAccess.TheVariants.{Small, OfSector}

-- the access, where this is the sector at hand
abbrev pub access_wanted : List ℕ → WantedAccess → Access
access_wanted sector (Small want) = wanted_access_of want
access_wanted sector (OfSector address from len) = writes address (take len (drop from sector))
