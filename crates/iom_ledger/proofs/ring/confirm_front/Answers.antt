use Rattle.std.proofs.Common.{◌≡◌, ◌<◌, ◌∙◌, refl, sym, ap, subst, ℕ, length, slice_get, Some, arith}
use Rattle.std.proofs.lemmas.Bool.{eq-eqb}
use Rattle.iom_ledger.specs.RowChanges.{DropsNamed}
use Rattle.iom_ledger.proofs.RingLemmas.{TakesFirst-none, TakesFirst-more}
use Rattle.iom_ledger.proofs.ring.confirm_front.Goals as goal

pub loop-n-init : goal.loop-n-init
loop-n-init c = record { taken = TakesFirst-none c.args.devices.now c.args.pending.now.items c.args.ticket; capacity = refl; counted = c.requires; framed = refl }

pub loop-n-preserved : goal.loop-n-preserved
loop-n-preserved c =
    let n = c.loop-n.n in
    let within : n < length c.args.pending.now.items = omega (arith, c.len-n-end.ensures.len) in
    let oldest = c.in-Some.oldest in
    let first : slice_get c.loop-n.pending.items 0 ≡ Some oldest = sym c.front.ensures ∙ sym c.copied.ensures ∙ c.in-Some.is in
    record {
      taken =
          TakesFirst-more c.args.devices.now c.loop-n.devices c.drop_named_in.new.devices c.args.pending.now.items c.loop-n.pending.items c.pop_front.new.self.items n c.args.ticket oldest within first
          (eq-eqb c.args.ticket oldest.ticket c.if-ticket-oldest.true) (ap (λ b. b.items) c.pop_front.ensures.items)
          (subst (λ (t : ℕ). DropsNamed c.loop-n.devices c.drop_named_in.new.devices oldest t) (sym c.if-ticket-oldest.true) c.drop_named_in.ensures.rows) c.loop-n.invariant.taken;
      capacity = ap (λ b. b.capacity) c.pop_front.ensures.items ∙ c.loop-n.invariant.capacity;
      counted = c.drop_named_in.ensures.counted;
      framed = c.drop_named_in.ensures.frames ∙ c.loop-n.invariant.framed;
    }
