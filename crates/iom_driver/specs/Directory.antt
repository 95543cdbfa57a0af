-- The device directory: a context for each attached device, and for no other id.
use Rattle.std.specs.Prelude.{◌≡◌, ◌≢◌, ℕ, ◌<◌, ◌==◌, Bool, List, length, Option, None, Some, Result, Ok, Err, slice_get, if◌then◌else◌}
use Rattle.iom_base.specs.declared.cause.Cause.{Cause}
use Rattle.iom_base.specs.declared.cause.Cause.TheVariants.{DirectoryEntryNotValid}
use Rattle.iom_base.specs.declared.owner.Owner.{Owner}
use Rattle.iom_base.specs.declared.owner.Owner.TheVariants.{System}
use Rattle.iom_device_dir.specs.declared.context.Context.{Context}
use Rattle.iom_device_dir.specs.declared.stages.FirstStage.TheVariants as first
use Rattle.iom_device_dir.specs.declared.stages.SecondStage.TheVariants as second
use Rattle.iom_device_dir.specs.Located.{path_end_from}
use Rattle.iom_device_dir.specs.Paths.{ids_below}
use Rattle.iom_base.specs.PageNumbers.{page_from}
use Rattle.iom_base.specs.declared.mode.Mode.{Mode}
use Rattle.iom_base.specs.declared.mode.Mode.TheVariants.{First, Second, Both}
use Rattle.iom_device_dir.specs.Values.{address_space_from, guest_root_from}
use Rattle.iom_directory_build.specs.Pages.{IsDirectory, HasPage, HasWholePath, root_level}
use Rattle.iom_registers.specs.declared.directory.DirectoryMode.{DirectoryMode}
use Rattle.iom_registers.specs.declared.directory.DirectoryMode.TheVariants.{OneLevel, TwoLevels, ThreeLevels}
use Rattle.iom_registers.specs.declared.registers.Registers.{Registers}
use Rattle.iom_registers.specs.Queues.{directory_mode, directory_root}
use Rattle.iom_driver.specs.declared.device.Device.{Device}
use Rattle.iom_driver.specs.declared.device.Stages.{Stages}
use Rattle.iom_driver.specs.Devices.{stages_of, owned_stages_of}
use Rattle.iom_driver.specs.Layout.{command_frame, fault_frame, completion_frame, directory_frame}

-- The context of a device that is attached in a mode, with a root and an address-space number, with ATS or without. In both stages the root of the
-- first is the guest physical page 0, and the guest's tables are of the size of those of the second.
abbrev pub context_in : Mode → ℕ → ℕ → Bool → Context
context_in (First size) root number ats = record {
  en_ats = ats;
  first_stage = first.Tables size (page_from 0 root);
  second_stage = second.Bare;
  pscid = address_space_from 0 number;
  gscid = 0;
}
context_in (Second size) root number ats = record {
  en_ats = ats;
  first_stage = first.Bare;
  second_stage = second.Tables size (guest_root_from root);
  pscid = address_space_from 0 0;
  gscid = number;
}
context_in (Both size) root number ats = record {
  en_ats = ats;
  first_stage = first.Tables size (page_from 0 0);
  second_stage = second.Tables size (guest_root_from root);
  pscid = address_space_from 0 number;
  gscid = number;
}

-- that of these stages
abbrev pub context_for : Stages → Context
context_for stages = context_in stages.mode stages.root stages.number stages.ats

-- where the path of an id ends, by the stages in which it is attached
abbrev pub located_for : Option Stages → Result Context Cause
located_for None = Err DirectoryEntryNotValid
located_for (Some stage) = Ok (context_for stage)

-- a page of the directory lies in a frame of the system's that is none of the queues' and not the completion word's
pub record IsDirectoryFrame (owners : List (Option Owner)) (frames page : ℕ) : Type 0 where
  pub system : slice_get owners page ≡ Some (Some System)
  pub no_command : page ≢ command_frame frames
  pub no_fault : page ≢ fault_frame frames
  pub no_completion : page ≢ completion_frame frames

-- the directory is a tree from its root down, in frames of its own, and has a context exactly for each attached device; and a place for that of each device
-- that is attached, quarantined or leaving
pub record DirectoryStands (memory : List (List ℕ)) (owners : List (Option Owner)) (devices : List Device) (levels : ℕ) : Type 0 where
  pub tree : IsDirectory memory (root_level levels) (directory_frame (length memory))
  pub own : (page : ℕ) → HasPage memory (root_level levels) (directory_frame (length memory)) page → IsDirectoryFrame owners (length memory) page
  pub contexts : (id : ℕ) → id < ids_below (root_level levels)
      → path_end_from memory (root_level levels) (directory_frame (length memory)) id ≡ located_for (stages_of devices id)
  pub places : (id : ℕ) (stage : Stages) → owned_stages_of devices id ≡ Some stage → id < ids_below (root_level levels)
      → HasWholePath memory (root_level levels) (directory_frame (length memory)) id

-- the mode of a directory of so many levels
abbrev pub mode_of : ℕ → DirectoryMode
mode_of levels = if levels == 1 then OneLevel else if levels == 2 then TwoLevels else ThreeLevels

-- ddtp names the directory
pub record NamesDirectory (frames levels : ℕ) (r : Registers) : Type 0 where
  pub mode : directory_mode r ≡ mode_of levels
  pub root : directory_root r ≡ directory_frame frames

-- ddtp names what it named
abbrev pub KeepsDirectory : Registers → Registers → Type 0
KeepsDirectory old new = (directory_mode new ≡ directory_mode old) × (directory_root new ≡ directory_root old)
