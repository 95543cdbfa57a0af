use Rattle.std.proofs.Common.{◌≡◌, ℕ, List, Option}
use Rattle.iom_base.specs.declared.owner.Owner.{Owner}
use Rattle.iom_machine.specs.declared.state.Frame.{Frame}
use Rattle.iom_kept_state.proofs.ActLemmas.{on_ok}
use Rattle.iom_kept_state.proofs.ByteLemmas.{replaced_kept}
use Rattle.iom_kept_state.proofs.frames.KeptFrame.store.Goals as goal

same_frame : (owner same : Option Owner) (bytes new : List ℕ) → owner ≡ same → bytes ≡ new
    → ◌≡◌ {A = Frame} (record { owner = owner; bytes = bytes }) (record { owner = same; bytes = new })
same_frame owner same bytes new o b = λ i. record { owner = o i; bytes = b i }

pub returns : goal.returns
returns c =
    on_ok c.put.result
    (λ put. same_frame _ _ _ _ c.in_ok-fill.ensures.owner
    (replaced_kept c.args.self.now.bytes.items c.fill.new.self.bytes.items c.put.new.all.items c.args.bytes.now c.args.offset c.in_ok-fill.ensures.bytes put))
    c.put.ensures
