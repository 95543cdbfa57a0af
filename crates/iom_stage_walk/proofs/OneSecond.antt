-- The second stage leads an address to one place, or stops it with one fault.
use Rattle.std.proofs.Common.{◌≡◌, ◌/◌, ◌^◌, ◌*◌, ◌+◌, ◌<◌, ◌∙◌, ℕ, Bool, List, sym, ap}
use Rattle.iom_base.specs.Causes.{guest_page_fault_of}
use Rattle.iom_base.specs.Tables.{access_fault_of}
use Rattle.iom_base.specs.declared.access.AccessKind.{AccessKind}
use Rattle.iom_base.specs.declared.cause.Cause.{Cause}
use Rattle.iom_base.specs.declared.rights.Rights.{Rights}
use Rattle.iom_stage_walk.specs.Entries.{entries}
use Rattle.iom_stage_walk.specs.Paths.{path_of}
use Rattle.iom_stage_walk.specs.Second.{second_widths, LeadsTo, LeadsNowhere, LeadsToFault, reported, ReachesSecond}
use Rattle.iom_stage_walk.specs.declared.walked.Walked.{Walked}
use Rattle.iom_stage_walk.specs.declared.walked.WalkFault.{WalkFault}
use Rattle.iom_stage_walk.proofs.Unique.{one_leaf}
use Rattle.iom_stage_walk.proofs.Exact.{reached_or_stopped, one_stop, same_walked}

module _ (levels : ℕ) (frames : List (List ℕ)) (root address : ℕ) where
  pub one_place : (kind kind' : AccessKind) (f g : ℕ) (r u : Rights) → LeadsTo levels frames root address kind f r → LeadsTo levels frames root address kind' g u → (f ≡ g) × (r ≡ u)
  one_place kind kind' f g r u p q =
      one_leaf (entries frames) kind kind' root (path_of (second_widths levels) (address / 4096)) f g r u p.path q.path

  pub leads_or_stops : (kind original : AccessKind) (f : ℕ) (r : Rights) (c : Cause) → LeadsTo levels frames root address kind f r → LeadsNowhere levels frames root address kind original c → ⊥
  leads_or_stops kind original f r c p q =
      reached_or_stopped (address < 2 ^ (9 * levels + 14)) frames kind (guest_page_fault_of original) (access_fault_of original) root (path_of (second_widths levels) (address / 4096)) f r c p.guest_physical p.path p.inside q

  pub leads_or_faults : (kind original : AccessKind) (implicit : Bool) (f : ℕ) (r : Rights) (fault : WalkFault) → LeadsTo levels frames root address kind f r → LeadsToFault levels frames root address kind original implicit fault → ⊥
  leads_or_faults kind original implicit f r fault p q = leads_or_stops kind original f r q.0 p q.1

  pub one_fault_leading : (kind original : AccessKind) (implicit : Bool) (a b : WalkFault) → LeadsToFault levels frames root address kind original implicit a → LeadsToFault levels frames root address kind original implicit b → a ≡ b
  one_fault_leading kind original implicit a b p q =
      let same = one_stop (address < 2 ^ (9 * levels + 14)) frames kind (guest_page_fault_of original) (access_fault_of original) root (path_of (second_widths levels) (address / 4096)) p.0 q.0 p.1 q.1 in
      p.2 ∙ ap (λ c. reported c address implicit) same ∙ sym q.2

  pub one_walked_second : (kind kind' : AccessKind) (a b : Walked) → ReachesSecond levels frames root address kind a → ReachesSecond levels frames root address kind' b → a ≡ b
  one_walked_second kind kind' a b p q =
      let same = one_place kind kind' a.frame b.frame a.rights b.rights p.leads q.leads in
      same_walked a b same.0 same.1 (p.level ∙ sym q.level) (p.no_guest ∙ sym q.no_guest)
