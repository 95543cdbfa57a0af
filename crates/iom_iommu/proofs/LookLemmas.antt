-- A look at the front of the command queue is what a fetch does where it is stopped or empty, and before a command it is the first part of a fetch
use Rattle.std.proofs.Common.{◌≡◌, ℕ, true, false, List, None, refl, sym, subst}
use Rattle.iom_command_queue.proofs.Waits.{none_is}
use Rattle.iom_tlb.specs.declared.trans_cache.TransCache.{Ghosts as Cache}
use Rattle.iom_iommu.specs.declared.iommu.Iommu.{Iommu}
use Rattle.iom_iommu.specs.declared.fetched.Fetched.{Fetched}
use Rattle.iom_iommu.specs.declared.fetched.Fetched.TheVariants.{Empty, Stopped}
use Rattle.iom_iommu.specs.declared.front.Front.TheVariants as front
use Rattle.iom_iommu.specs.Parts.{registers_of}
use Rattle.iom_iommu.specs.Fetches.{head_entry, LooksAhead, FetchesCommand}
use Rattle.iom_iommu.proofs.FenceLemmas.{fetched_from}

module _ {C : Type 0} {c : Cache C} (m : List (List ℕ)) (i j : Iommu C c) where
  pub looked_stopped : LooksAhead i front.Stopped j → FetchesCommand m i Stopped m j
  looked_stopped l = fetched_from i m m j Stopped false (head_entry m (registers_of i)) l.0 refl (refl, refl, l.1)

  pub looked_empty : LooksAhead i front.Empty j → FetchesCommand m i Empty m j
  looked_empty l = fetched_from i m m j Empty true None l.0 (none_is m (registers_of i) l.1) (refl, refl, l.2)

  pub goes_on : (n : List (List ℕ)) (k : Iommu C c) (answer : Fetched) → LooksAhead i front.Command j → FetchesCommand m j answer n k → FetchesCommand m i answer n k
  goes_on n k answer l fetched = subst (λ x. FetchesCommand m x answer n k) l.1 fetched
