-- What `==` says of two owners, where there are any.
use Rattle.std.proofs.Common.{◌≡◌, Option, refl, ap}
use Rattle.std.specs.Bool.{Decides}
use Rattle.std.specs.Option.{option_eq}
use Rattle.std.proofs.lemmas.Bool.Decides.{Decides-like, Decides-eqb}
use Rattle.iom_base.specs.contracts.owner.OwnerPartialEq.TheImpl as owner
use Rattle.iom_base.specs.declared.owner.Owner.{Owner}
use Rattle.iom_base.specs.declared.owner.Owner.TheVariants.{System, OneDevice}
use Rattle.iom_ledger.proofs.SameLemmas.{option_decides}

-- of two owners
owner_decides : (a b : Owner) → Decides (owner.ghosts.eq a b) (a ≡ b)
owner_decides System System = (λ yes. refl, λ same. refl)
owner_decides System (OneDevice e) = (λ yes. absurd (cc yes), λ same. absurd (cc same))
owner_decides (OneDevice d) System = (λ yes. absurd (cc yes), λ same. absurd (cc same))
owner_decides (OneDevice d) (OneDevice e) = Decides-like _ (λ same. ap OneDevice same) (λ same. cc same) (Decides-eqb d e)

-- of two frames' owners, where they have one
pub mark_decides : (a b : Option Owner) → Decides (option_eq owner.ghosts.eq a b) (a ≡ b)
mark_decides = option_decides owner_decides
