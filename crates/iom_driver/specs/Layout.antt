-- The four fixed frames at the end of memory.
use Rattle.std.specs.Prelude.{◌≡◌, ℕ, ◌+◌, ◌-◌, ◌*◌, ◌^◌, ◌≤◌, List, Option, Some, slice_get}
use Rattle.iom_base.specs.Sizes.{page_size}
use Rattle.iom_base.specs.declared.owner.Owner.{Owner}
use Rattle.iom_base.specs.declared.owner.Owner.TheVariants.{System}

-- the frame of the command queue, of the fault queue, of the completion word, and of the root of the device directory
abbrev pub command_frame : ℕ → ℕ
command_frame frames = frames - 1

abbrev pub fault_frame : ℕ → ℕ
fault_frame frames = frames - 2

abbrev pub completion_frame : ℕ → ℕ
completion_frame frames = frames - 3

abbrev pub directory_frame : ℕ → ℕ
directory_frame frames = frames - 4

-- the address of the completion word, the first four bytes of its frame
abbrev pub completion_address : ℕ → ℕ
completion_address frames = page_size * completion_frame frames

-- how many entries the command queue has: as many as fill its frame
abbrev pub queue_entries : ℕ
queue_entries = 256

-- and how many the fault queue
abbrev pub record_entries : ℕ
record_entries = 128

-- what is written to ddtp, cqb and fqb (IOMMU specification, chapter 5): the page of the directory's root, with iommu_mode 2, 3 or 4 for one, two or
-- three levels; and the page of each queue, with LOG2SZ-1
abbrev pub ddtp_of : ℕ → ℕ → ℕ
ddtp_of frames levels = 2 ^ 10 * directory_frame frames + levels + 1

abbrev pub cqb_of : ℕ → ℕ
cqb_of frames = 2 ^ 10 * command_frame frames + 7

abbrev pub fqb_of : ℕ → ℕ
fqb_of frames = 2 ^ 10 * fault_frame frames + 6

-- a device directory has one to three levels (IOMMU specification, section 2.1, "Device-Directory-Table (DDT)")
abbrev pub IsLevels : ℕ → Type 0
IsLevels levels = (1 ≤ levels) × (levels ≤ 3)

-- the fixed frames are the system's
pub record AreFixed (owners : List (Option Owner)) (frames : ℕ) : Type 0 where
  pub command : slice_get owners (command_frame frames) ≡ Some (Some System)
  pub fault : slice_get owners (fault_frame frames) ≡ Some (Some System)
  pub completion : slice_get owners (completion_frame frames) ≡ Some (Some System)
  pub directory : slice_get owners (directory_frame frames) ≡ Some (Some System)
