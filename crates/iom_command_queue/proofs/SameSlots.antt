-- `==` of requests decides whether they are one.
use Rattle.std.proofs.Common.{rules, Decides, ◌≡◌, true, subst}
use Rattle.iom_command_queue.specs.contracts.slot.SlotPartialEq.TheImpl as slot
use Rattle.iom_command_queue.specs.contracts.slot.SlotEq.TheImpl.Laws as slot_eq
use Rattle.iom_command_queue.specs.declared.slot.Slot.{Slot}

one_slot : (a b : Slot) → slot.ghosts.eq a b ≡ true → a ≡ b
one_slot a b same = search rules

pub slot_decides : (a b : Slot) → Decides (slot.ghosts.eq a b) (a ≡ b)
slot_decides a b = (one_slot a b, λ same. subst (λ x. slot.ghosts.eq a x ≡ true) same (slot_eq.laws-law.refl a))
