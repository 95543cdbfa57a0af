-- The last numbers, and request by request.
use Rattle.std.proofs.Common.{rules, ap, ◌≡◌}
use Rattle.std.proofs.lemmas.Slice.Eq.{slice_eq-Decides}
use Rattle.iom_command_queue.specs.OpenSlots.{OpenSlots}
use Rattle.iom_command_queue.proofs.SameSlots.{slot_decides}
use Rattle.iom_command_queue.proofs.slots.Slots.is_same.Goals as goal

pub returns-then-self-other : goal.returns-then-self-other
returns-then-self-other c =
    let requests = slice_eq-Decides slot_decides c.args.self.now.open_slots c.args.other.now.open_slots c.eq.result (search rules) in
    let last : c.args.self.now.last ≡ c.args.other.now.last = search rules in
    (λ same i. record { open_slots = requests.0 same i; last = last i }, λ same. requests.1 (ap (λ (s : OpenSlots). s.open_slots) same))
