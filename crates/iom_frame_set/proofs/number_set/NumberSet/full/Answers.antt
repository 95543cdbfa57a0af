use Rattle.std.proofs.Common.{ℕ, ◌-◌, ◌^◌, get_or, ap}
use Rattle.iom_frame_set.proofs.SetLemmas.{IsFull-ones}
use Rattle.iom_frame_set.proofs.number_set.NumberSet.full.Goals as goal

pub returns-clause-full : goal.returns-clause-full
returns-clause-full c =
    let all : ℕ = 2 ^ 64 - 1 in
    IsFull-ones (record { kept = c.new.result.items; beyond = all }) (λ i. ap (λ words. get_or words i all) c.new.ensures.items)
