-- The words of an encoded command, field by field, over plain numbers.
use Rattle.std.proofs.Common.{◌≡◌, ◌+◌, ◌*◌, ◌/◌, ◌%◌, ◌^◌, ◌<◌, ℕ, arith}
use Rattle.iom_command_queue.specs.Bits.{bits_of}

-- IOTINVAL: head is opcode and func3, then AV, PSCID, PSCV, GV and GSCID
pub record IotinvalBits (word head av pscid pscv gv gscid : ℕ) : Type 0 where
  pub whole : word < 2 ^ 64
  pub opcode : bits_of word 6 0 ≡ head % 128
  pub func3 : bits_of word 9 7 ≡ head / 128
  pub av_is : bits_of word 10 10 ≡ av
  pub reserved_low : bits_of word 11 11 ≡ 0
  pub pscid_is : bits_of word 31 12 ≡ pscid
  pub pscv_is : bits_of word 32 32 ≡ pscv
  pub gv_is : bits_of word 33 33 ≡ gv
  pub reserved_middle : bits_of word 43 34 ≡ 0
  pub gscid_is : bits_of word 59 44 ≡ gscid
  pub reserved_high : bits_of word 63 60 ≡ 0

pub iotinval_bits : (word head av pscid pscv gv gscid : ℕ) → head < 2 ^ 10 → av < 2 → pscid < 2 ^ 20 → pscv < 2 → gv < 2 → gscid < 2 ^ 16
    → word ≡ head + av * 2 ^ 10 + pscid * 2 ^ 12 + pscv * 2 ^ 32 + gv * 2 ^ 33 + gscid * 2 ^ 44
    → IotinvalBits word head av pscid pscv gv gscid
unfolding bits_of
iotinval_bits word head av pscid pscv gv gscid h a p v g s e = record {
  whole = omega arith;
  opcode = omega arith;
  func3 = omega arith;
  av_is = omega arith;
  reserved_low = omega arith;
  pscid_is = omega arith;
  pscv_is = omega arith;
  gv_is = omega arith;
  reserved_middle = omega arith;
  gscid_is = omega arith;
  reserved_high = omega arith;
}

-- a second word that has a page in its bits 61:10
pub record AddressBits (word page : ℕ) : Type 0 where
  pub whole : word < 2 ^ 64
  pub low : bits_of word 9 0 ≡ 0
  pub page_is : bits_of word 61 10 ≡ page
  pub high : bits_of word 63 62 ≡ 0

pub address_bits : (word page : ℕ) → page < 2 ^ 52 → word ≡ page * 2 ^ 10 → AddressBits word page
unfolding bits_of
address_bits word page p e = record { whole = omega arith; low = omega arith; page_is = omega arith; high = omega arith }

-- IOFENCE.C
pub record FenceBits (word av wsi pr pw number : ℕ) : Type 0 where
  pub whole : word < 2 ^ 64
  pub opcode : bits_of word 6 0 ≡ 2
  pub func3 : bits_of word 9 7 ≡ 0
  pub av_is : bits_of word 10 10 ≡ av
  pub wsi_is : bits_of word 11 11 ≡ wsi
  pub pr_is : bits_of word 12 12 ≡ pr
  pub pw_is : bits_of word 13 13 ≡ pw
  pub reserved : bits_of word 31 14 ≡ 0
  pub number_is : bits_of word 63 32 ≡ number

pub fence_bits : (word av wsi pr pw number : ℕ) → av < 2 → wsi < 2 → pr < 2 → pw < 2 → number < 2 ^ 32
    → word ≡ 2 + av * 2 ^ 10 + wsi * 2 ^ 11 + pr * 2 ^ 12 + pw * 2 ^ 13 + number * 2 ^ 32
    → FenceBits word av wsi pr pw number
unfolding bits_of
fence_bits word av wsi pr pw number a w r p n e = record {
  whole = omega arith;
  opcode = omega arith;
  func3 = omega arith;
  av_is = omega arith;
  wsi_is = omega arith;
  pr_is = omega arith;
  pw_is = omega arith;
  reserved = omega arith;
  number_is = omega arith;
}

pub record FenceAddressBits (word address : ℕ) : Type 0 where
  pub whole : word < 2 ^ 64
  pub address_is : 4 * bits_of word 61 0 ≡ address
  pub address_over_four : bits_of word 61 0 ≡ address / 4
  pub high : bits_of word 63 62 ≡ 0

pub fence_address_bits : (word address : ℕ) → address < 2 ^ 64 → address % 4 ≡ 0 → word ≡ address / 4 → FenceAddressBits word address
unfolding bits_of
fence_address_bits word address f a e = record { whole = omega arith; address_is = omega arith; address_over_four = omega arith; high = omega arith }

-- IODIR.INVAL_DDT
pub record DirectoryBits (word dv did : ℕ) : Type 0 where
  pub whole : word < 2 ^ 64
  pub opcode : bits_of word 6 0 ≡ 3
  pub func3 : bits_of word 9 7 ≡ 0
  pub reserved_low : bits_of word 32 10 ≡ 0
  pub dv_is : bits_of word 33 33 ≡ dv
  pub reserved_high : bits_of word 39 34 ≡ 0
  pub did_is : bits_of word 63 40 ≡ did

pub directory_bits : (word dv did : ℕ) → dv < 2 → did < 2 ^ 24 → word ≡ 3 + dv * 2 ^ 33 + did * 2 ^ 40 → DirectoryBits word dv did
unfolding bits_of
directory_bits word dv did v d e = record {
  whole = omega arith;
  opcode = omega arith;
  func3 = omega arith;
  reserved_low = omega arith;
  dv_is = omega arith;
  reserved_high = omega arith;
  did_is = omega arith;
}

-- ATS.INVAL
pub record AtsBits (word device : ℕ) : Type 0 where
  pub whole : word < 2 ^ 64
  pub opcode : bits_of word 6 0 ≡ 4
  pub func3 : bits_of word 9 7 ≡ 0
  pub reserved_low : bits_of word 32 10 ≡ 0
  pub dsv_is : bits_of word 33 33 ≡ 1
  pub reserved_high : bits_of word 39 34 ≡ 0
  pub device_is : bits_of word 55 40 + 2 ^ 16 * bits_of word 63 56 ≡ device

pub ats_bits : (word device : ℕ) → device < 2 ^ 24 → word ≡ 4 + 1 * 2 ^ 33 + device % 2 ^ 16 * 2 ^ 40 + device / 2 ^ 16 * 2 ^ 56 → AtsBits word device
unfolding bits_of
ats_bits word device d e = record {
  whole = omega arith;
  opcode = omega arith;
  func3 = omega arith;
  reserved_low = omega arith;
  dsv_is = omega arith;
  reserved_high = omega arith;
  device_is = omega arith;
}

pub record PayloadBits (word everything page : ℕ) : Type 0 where
  pub whole : word < 2 ^ 64
  pub global : bits_of word 0 0 ≡ 0
  pub reserved : bits_of word 10 1 ≡ 0
  pub everything_is : bits_of word 11 11 ≡ everything
  pub page_is : bits_of word 63 12 ≡ page

pub payload_bits : (word everything page : ℕ) → everything < 2 → page < 2 ^ 52 → word ≡ everything * 2 ^ 11 + page * 2 ^ 12 → PayloadBits word everything page
unfolding bits_of
payload_bits word everything page s p e = record { whole = omega arith; global = omega arith; reserved = omega arith; everything_is = omega arith; page_is = omega arith }
