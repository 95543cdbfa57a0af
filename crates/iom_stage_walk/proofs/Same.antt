-- Memories that are alike on the frames of the path of an address.
use Rattle.std.proofs.Common.{◌≡◌, ◌+◌, ◌*◌, ◌/◌, ◌^◌, ◌<◌, ◌∙◌, inl, inr, ℕ, List, length, sym}
use Rattle.iom_base.specs.Causes.{page_fault_of, guest_page_fault_of}
use Rattle.iom_base.specs.Tables.{access_fault_of}
use Rattle.iom_base.specs.declared.access.AccessKind.{AccessKind}
use Rattle.iom_base.specs.declared.cause.Cause.{Cause}
use Rattle.iom_stage_walk.specs.Entries.{entries}
use Rattle.iom_stage_walk.specs.Paths.{path_of, first_widths, StopsIn, IsCanonical, ReachesFirst, StopsFirst}
use Rattle.iom_stage_walk.specs.Second.{second_widths, ReachesSecond, StopsSecond}
use Rattle.iom_stage_walk.specs.declared.walked.Walked.{Walked}
use Rattle.iom_stage_walk.specs.declared.walked.WalkFault.{WalkFault}
use Rattle.iom_stage_walk.proofs.Alike.{Alike, alike_reaches, alike_level, alike_stops}

stops_in_too : (IsLawful : Type 0) (old new : List (List ℕ)) (kind : AccessKind) (page access : Cause) (root : ℕ) (is : List ℕ) (cause : Cause) → length new ≡ length old → Alike (entries old) (entries new) root is
    → StopsIn IsLawful old kind page access root is cause → StopsIn IsLawful new kind page access root is cause
stops_in_too IsLawful old new kind page access root is cause size alike (inl high) = inl high
stops_in_too IsLawful old new kind page access root is cause size alike (inr (inl x)) = inr (inl (x.0, alike_stops (entries old) (entries new) root is kind page access cause alike x.1))
stops_in_too IsLawful old new kind page access root is cause size alike (inr (inr x)) =
    inr (inr (x.0, (x.1.0, x.1.1, alike_reaches (entries old) (entries new) root is kind x.1.0 x.1.1 alike x.1.2, rw size x.1.3, x.1.4)))

module _ (levels : ℕ) (old new : List (List ℕ)) (root address : ℕ) (size : length new ≡ length old) (alike : Alike (entries old) (entries new) root (path_of (first_widths levels) (address / 4096))) (kind : AccessKind) where
  pub reaches_too : (walked : Walked) → ReachesFirst levels old root address kind walked → ReachesFirst levels new root address kind walked
  reaches_too walked h =
      record {
        canonical = h.canonical;
        path = alike_reaches (entries old) (entries new) root (path_of (first_widths levels) (address / 4096)) kind walked.frame walked.rights alike h.path;
        inside = rw size h.inside;
        level = h.level ∙ sym (alike_level (entries old) (entries new) root (path_of (first_widths levels) (address / 4096)) alike);
        no_guest = h.no_guest;
      }

  pub stops_too : (fault : WalkFault) → StopsFirst levels old root address kind fault → StopsFirst levels new root address kind fault
  stops_too fault h =
      record {
        cause = stops_in_too (IsCanonical levels address) old new kind (page_fault_of kind) (access_fault_of kind) root (path_of (first_widths levels) (address / 4096)) fault.cause size alike h.cause;
        no_guest_address = h.no_guest_address;
        explicit = h.explicit;
      }

module _ (levels : ℕ) (old new : List (List ℕ)) (root address : ℕ) (size : length new ≡ length old) (alike : Alike (entries old) (entries new) root (path_of (second_widths levels) (address / 4096))) (kind : AccessKind) where
  pub reaches_second_too : (walked : Walked) → ReachesSecond levels old root address kind walked → ReachesSecond levels new root address kind walked
  reaches_second_too walked h =
      record {
        leads = record {
          guest_physical = h.leads.guest_physical;
          path = alike_reaches (entries old) (entries new) root (path_of (second_widths levels) (address / 4096)) kind walked.frame walked.rights alike h.leads.path;
          inside = rw size h.leads.inside;
        };
        level = h.level ∙ sym (alike_level (entries old) (entries new) root (path_of (second_widths levels) (address / 4096)) alike);
        no_guest = h.no_guest;
      }

  pub stops_second_too : (fault : WalkFault) → StopsSecond levels old root address kind fault → StopsSecond levels new root address kind fault
  stops_second_too fault h =
      (h.0, stops_in_too (address < 2 ^ (9 * levels + 14)) old new kind (guest_page_fault_of kind) (access_fault_of kind) root (path_of (second_widths levels) (address / 4096)) h.0 size alike h.1, h.2)
