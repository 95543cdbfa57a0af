-- What page tables and walks of them speak of.
use Rattle.std.specs.Prelude.{ℕ}
use Rattle.iom_base.specs.declared.access.AccessKind.{AccessKind}
use Rattle.iom_base.specs.declared.access.AccessKind.TheVariants.{Read, Write}
use Rattle.iom_base.specs.declared.cause.Cause.{Cause}
use Rattle.iom_base.specs.declared.cause.Cause.TheVariants.{ReadAccessFault, WriteAccessFault}

-- the bytes of an entry of a page table
abbrev pub entry_size : ℕ
entry_size = 8

-- the entries of a page table that fills a frame
abbrev pub table_entries : ℕ
table_entries = 512

-- a load or an access outside memory
abbrev pub access_fault_of : AccessKind → Cause
access_fault_of Read = ReadAccessFault
access_fault_of Write = WriteAccessFault
