-- Where a split virtqueue may lie (virtio 1.2, section 2.7).
use Rattle.std.specs.Prelude.{◌≡◌, ◌%◌, ◌≤◌, ℕ}
use Rattle.iom_virtqueue.specs.declared.layout.Layout.{Layout}

-- the size is a power of two from 1 to 256, that is, a divisor of 256; the parts have their alignments
pub record IsLayout (layout : Layout) : Type 0 where
  pub some : 1 ≤ layout.size
  pub most : layout.size ≤ 256
  pub power : 256 % layout.size ≡ 0
  pub descriptor_table : layout.descriptor_table % 16 ≡ 0
  pub available_ring : layout.available_ring % 2 ≡ 0
  pub used_ring : layout.used_ring % 4 ≡ 0

abbrev pub layout_of : ℕ → ℕ → ℕ → ℕ → Layout
layout_of size descriptor_table available_ring used_ring =
    record { size = size; descriptor_table = descriptor_table; available_ring = available_ring; used_ring = used_ring }
