-- A request that begins anew and is served so names no frame.
use Rattle.std.proofs.Common.{◌≡◌, ℕ, zero, suc, Bool, true, false, nat_lt, None, Result, Err, if◌then◌else◌, sym, subst}
use Rattle.iom_base.specs.declared.cause.Cause.TheVariants.{TransactionTypeDisallowed}
use Rattle.iom_device_dir.specs.Paths.{ids_below}
use Rattle.iom_registers.specs.declared.directory.DirectoryMode.{DirectoryMode}
use Rattle.iom_registers.specs.declared.directory.DirectoryMode.TheVariants as mode
use Rattle.iom_registers.specs.declared.directory.DirectoryPointer.{DirectoryPointer}
use Rattle.iom_stepped_requests.specs.Serving.{Remaining, Serves, Locates, Translates, begun_anew, in_directory, served_or, without_directory}
use Rattle.iom_stepped_requests.specs.Standing.{still_serving}
use Rattle.iom_stepped_requests.specs.declared.request.Request.{Request}
use Rattle.iom_stepped_requests.specs.declared.walk.Serving.{Serving}
use Rattle.iom_stepped_requests.specs.declared.walk.Serving.TheVariants.{GoesOn, Served}
use Rattle.iom_walk_loads.specs.Directory.{directory_walk, locating_by, locating_from}
use Rattle.iom_walk_loads.specs.Loads.{Ends}
use Rattle.iom_walks.specs.Invariant.{IsServedAtMost, NamesNoFrame}

abbrev ServesNoFrame : Remaining → Type 0
ServesNoFrame (Serves answer) = NamesNoFrame answer
ServesNoFrame (Locates request anew rest) = Unit {0}
ServesNoFrame (Translates request context translated rest) = Unit {0}

from_no_frame : (frames level root id : ℕ) (request : Request) → ServesNoFrame (in_directory frames true (λ key. None) request (locating_from level root id))
from_no_frame frames level root id request = by (nat_lt id (ids_below level))
  where
    walk : (level page : ℕ) → ServesNoFrame (in_directory frames true (λ key. None) request (directory_walk level page id))
    walk zero page = tt
    walk (suc level) page = tt

    by : (b : Bool) → ServesNoFrame (in_directory frames true (λ key. None) request (if b then directory_walk level root id else Ends (Err TransactionTypeDisallowed)))
    by true = walk level root
    by false = tt

anew_no_frame : (frames : ℕ) (mode : DirectoryMode) (root id : ℕ) (request : Request)
    → ServesNoFrame (served_or (without_directory mode) (in_directory frames true (λ key. None) request (locating_by mode root id)))
anew_no_frame frames mode.Off root id request = tt
anew_no_frame frames mode.Bare root id request = tt
anew_no_frame frames mode.OneLevel root id request = from_no_frame frames 0 root id request
anew_no_frame frames mode.TwoLevels root id request = from_no_frame frames 1 root id request
anew_no_frame frames mode.ThreeLevels root id request = from_no_frame frames 2 root id request

pub anew_names_no_frame : (ddtp : DirectoryPointer) (request : Request) (serving : Serving) → ((frames : ℕ) → still_serving frames serving ≡ begun_anew frames ddtp request)
    → IsServedAtMost serving
anew_names_no_frame ddtp request (GoesOn walk) begun = tt
anew_names_no_frame ddtp request (Served answer) begun = subst ServesNoFrame (sym (begun 0)) (anew_no_frame 0 ddtp.mode ddtp.ppn request.device request)
