-- Numbers as the fields of a context have them.
use Rattle.std.specs.Prelude.{◌≡◌, ℕ, ◌*◌, ◌/◌, ◌%◌, ◌^◌, ◌<◌}
use Rattle.std.proofs.Common.{lit<, arith}
use Rattle.std.proofs.Math.Nat.{mod-lt}
use Rattle.iom_device_dir.specs.declared.values.GuestRoot.{GuestRoot}
use Rattle.iom_device_dir.specs.declared.values.Pscid.{Pscid}

-- the identifier of an address space in the bits of a word from a bit on: 20 bits
abbrev pub address_space_from : ℕ → ℕ → Pscid
address_space_from low word = record { number = word / 2 ^ low % 2 ^ 20; in_range = mod-lt (word / 2 ^ low) (lit< tt) }

pub root_fits : (n : ℕ) → 4 * (n / 4 % 2 ^ 42) < 2 ^ 44
root_fits n = omega arith

pub root_is_aligned : (n : ℕ) → 4 * (n / 4 % 2 ^ 42) % 4 ≡ 0
root_is_aligned n = omega arith

-- the root of a second stage in the page of this number, where that has 44 bits and is a multiple of 4
abbrev pub guest_root_from : ℕ → GuestRoot
guest_root_from n = record { number = 4 * (n / 4 % 2 ^ 42); in_range = root_fits n; aligned = root_is_aligned n }
