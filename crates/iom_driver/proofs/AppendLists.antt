-- Commands that are appended one after the other: those of two lists, and those of a restart device by device.
use Rattle.std.proofs.Common.{suc, ◌≡◌, ◌+◌, ◌<◌, ◌++◌, ◌∙◌, ℕ, List, [], ◌∷◌, take, length, get_or, refl, sym, ap, arith}
use Rattle.std.proofs.lemmas.Option.{get_or_from_slice_get}
use Rattle.iom_command_queue.specs.declared.command.Command.{Command}
use Rattle.iom_registers.specs.declared.mmio.Mmio.{Ghosts}
use Rattle.iom_driver.specs.declared.device.Device.{Device}
use Rattle.iom_driver.specs.Appends.{AppendsAll}
use Rattle.iom_driver.specs.Restarts.{requeued, all_requeued}
use Rattle.iom_driver.proofs.Lists.{get_there, take_more}

-- the commands of a list, and then those of another
pub appends_both : {M : Type 0} (g : Ghosts M) (old between new : List (List ℕ)) (io io' io'' : M) (first second : List Command)
    → AppendsAll g old io first between io' → AppendsAll g between io' second new io'' → AppendsAll g old io (first ++ second) new io''
appends_both g old between new io io' io'' [] second before after = rw (sym before.0, sym before.1) after
appends_both g old between new io io' io'' (command ∷ first) second before after =
    (before.0, before.1, before.2, appends_both g before.0 between new before.1 io' io'' first second before.3 after)

append_assoc : (xs ys zs : List Command) → xs ++ ys ++ zs ≡ xs ++ (ys ++ zs)
append_assoc [] ys zs = refl
append_assoc (x ∷ xs) ys zs = ap (λ ws. x ∷ ws) (append_assoc xs ys zs)

append_none : (xs : List Command) → xs ++ [] ≡ xs
append_none [] = refl
append_none (x ∷ xs) = ap (λ ys. x ∷ ys) (append_none xs)

-- those of one device more are the last
pub requeued_more : (devices : List Device) (device : Device) → all_requeued (devices ++ device ∷ []) ≡ all_requeued devices ++ requeued device
requeued_more [] device = append_none (requeued device)
requeued_more (first ∷ others) device =
    ap (λ (cs : List Command). requeued first ++ cs) (requeued_more others device) ∙ sym (append_assoc (requeued first) (all_requeued others) (requeued device))

-- once those of the devices up to a place are appended, and then those of the device there
pub requeued_next : {M : Type 0} (g : Ghosts M) (devices : List Device) (k : ℕ) (d : Device) (old between new : List (List ℕ)) (io io' io'' : M) → k < length devices
    → AppendsAll g old io (all_requeued (take k devices)) between io' → AppendsAll g between io' (requeued (get_or devices k d)) new io''
    → AppendsAll g old io (all_requeued (take (k + 1) devices)) new io''
requeued_next g devices k d old between new io io' io'' inside before after =
    let found = get_there devices k inside in
    let read : get_or devices k d ≡ found.0 = get_or_from_slice_get devices k found.0 d found.1 in
    let next : k + 1 ≡ suc k = omega arith in
    let more : all_requeued (take (k + 1) devices) ≡ all_requeued (take k devices) ++ requeued (get_or devices k d) =
    ap (λ n. all_requeued (take n devices)) next ∙ ap all_requeued (take_more devices k found.0 found.1) ∙ requeued_more (take k devices) found.0
    ∙ ap (λ (device : Device). all_requeued (take k devices) ++ requeued device) (sym read) in
    rw more (appends_both g old between new io io' io'' (all_requeued (take k devices)) (requeued (get_or devices k d)) before after)
