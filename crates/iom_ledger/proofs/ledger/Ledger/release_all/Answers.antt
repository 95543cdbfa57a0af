use Rattle.std.proofs.Common.{refl, ap, [], ◌∷◌, ◌++◌, None, true, ◌∙◌, ◌==◌, ◌&&◌}
use Rattle.std.proofs.lemmas.Bool.{and_from, eq-eqb}
use Rattle.iom_ledger.specs.declared.pending.Pending.{Pending}
use Rattle.iom_ledger.specs.Ring.{is_ascending}
use Rattle.iom_ledger.specs.Rows.{row_at, is_named, ticket_of}
use Rattle.iom_ledger.proofs.PendingLemmas.{named_released}
use Rattle.iom_ledger.proofs.ledger.Ledger.release_all.Goals as goal

pub invariant_of-self-clause-named : goal.invariant_of-self-clause-named
invariant_of-self-clause-named c = λ d a.
    let old = c.args.self.now in
    let release : Pending = record { ticket = c.args.ticket; device = c.args.device; page = None } in
    ap (λ s. is_named s d a (ticket_of (row_at c.release_all_in.new.devices d a))) c.note.ensures.items
    ∙ ap (λ row. is_named (old.pending.items ++ release ∷ []) d a (ticket_of row)) (c.release_all_in.ensures.rows d a)
    ∙ named_released old.pending.items release d a (c.args.device == d) (row_at old.devices d a)
    (λ same. and_from (c.args.ticket == c.args.ticket) ((c.args.device == d) && true) (eq-eqb c.args.ticket c.args.ticket refl) (and_from (c.args.device == d) true same refl)) (old.named d a)

pub invariant_of-self-clause-ordered : goal.invariant_of-self-clause-ordered
invariant_of-self-clause-ordered c ascends = ap is_ascending c.note.ensures.items ∙ c.still_ascend-self.ensures ascends c.args.self.now.ordered
