-- What a copy names: something that its device holds, or that lingers for it.
use Rattle.std.specs.Prelude.{◌≡◌, ℕ, Bool, true, false}
use Rattle.iom_base.specs.declared.access.AccessKind.{AccessKind}
use Rattle.iom_base.specs.declared.rights.Rights.{Rights}
use Rattle.iom_base.specs.Rights.{allows}
use Rattle.iom_ledger.specs.History.{History}
use Rattle.iom_coherence.specs.Scene.{Copy}
use Rattle.iom_coherence.specs.Holdings.{HoldsOrLingers}

-- What is remembered of a page, with a right, comes from what was granted at a page. In one stage that is the same page with the same right. In both stages
-- it is some guest page, by the guest's own tables, with a right that allows no less.
abbrev pub ComesFrom : Bool → ℕ → Rights → ℕ → Rights → Type 0
ComesFrom false granted rights page remembered = (granted ≡ page) × (rights ≡ remembered)
ComesFrom true granted rights page remembered = (kind : AccessKind) → allows remembered kind ≡ true → allows rights kind ≡ true

-- the device holds what the copy comes from, or that lingers under a ticket of which this is true
abbrev pub IsBacked : Bool → History → (ℕ → Type 0) → Copy → Type 0
IsBacked both_stages history Still copy = (granted : ℕ) × (rights : Rights)
    × ComesFrom both_stages granted rights copy.page copy.pair.1
    × HoldsOrLingers history Still copy.device granted (copy.pair.0, rights)
