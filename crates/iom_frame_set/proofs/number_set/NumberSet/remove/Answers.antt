use Rattle.std.proofs.Common.{◌≡◌, ◌==◌, length, false, if◌then◌else◌, ap, ◌∙◌, arith}
use Rattle.std.specs.Int.{bit_at}
use Rattle.std.proofs.lemmas.List.{get_or_read}
use Rattle.iom_frame_set.specs.Sets.{Words, has}
use Rattle.iom_frame_set.proofs.SetLemmas.{Removes-written}
use Rattle.iom_frame_set.proofs.number_set.NumberSet.remove.Goals as goal

pub returns-clause-removed : goal.returns-clause-removed
returns-clause-removed c f =
    let words : Words = record { kept = c.self.inside.words.items; beyond = c.self.inside.beyond } in
    let long : length words.kept ≡ length c.args.self.now.kept = ap (λ ws. length ws.kept) c.self.view_is in
    let read = get_or_read words.kept _ _ (omega arith) c.index.ensures words.beyond in
    Removes-written words c.args.number c.without_bit.result (omega arith) c.without_bit.ensures.clear
    (λ k within other. c.without_bit.ensures.others k within other ∙ ap (λ word. bit_at word k) read) f
    ∙ ap (λ ws. if c.args.number == f then false else has ws f) c.self.view_is
