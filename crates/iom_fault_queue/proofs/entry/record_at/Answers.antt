use Rattle.std.proofs.Common.{◌≡◌, ◌+◌, ◌-◌, ◌/◌, ◌%◌, ◌∙◌, sym, ap, take, drop, arith}
use Rattle.std.proofs.lemmas.Option.{slice_get_past}
use Rattle.iom_fault_queue.specs.Grammar.{decoded_record}
use Rattle.iom_fault_queue.specs.Ring.{meaning_of}
use Rattle.iom_fault_queue.proofs.Entries.{in_frame, in_none}
use Rattle.iom_fault_queue.proofs.entry.record_at.Goals as goal

pub returns-then-address-from : goal.returns-then-address-from
returns-then-address-from c =
    sym (in_none c.args.memory.now c.args.address (slice_get_past c.args.memory.now (c.args.address / 4096) (omega arith)))

pub returns-in_default : goal.returns-in_default
returns-in_default c = sym (in_none c.args.memory.now c.args.address (sym c.in_default.ensures))

pub returns-in-Some-decode : goal.returns-in-Some-decode
returns-in-Some-decode c =
    let offset = c.args.address % 4096 in
    let long : offset + 32 - offset ≡ 32 = omega arith in
    let bytes = c.copy_from_slice.ensures.after ∙ ap (λ n. take n (drop offset c.in-Some.frame.now)) long in
    ap meaning_of (c.in-Some-decode.ensures.value ∙ ap decoded_record bytes) ∙ sym (in_frame c.args.memory.now c.args.address c.in-Some.frame.now (sym c.in-Some.ensures))

pub returns-in-None : goal.returns-in-None
returns-in-None c =
    let offset = c.args.address % 4096 in
    let long : offset + 32 - offset ≡ 32 = omega arith in
    let bytes = c.copy_from_slice.ensures.after ∙ ap (λ n. take n (drop offset c.in-Some.frame.now)) long in
    ap meaning_of (c.in-None.ensures.value ∙ ap decoded_record bytes) ∙ sym (in_frame c.args.memory.now c.args.address c.in-Some.frame.now (sym c.in-Some.ensures))
