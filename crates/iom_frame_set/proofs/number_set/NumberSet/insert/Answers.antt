use Rattle.std.proofs.Common.{◌≡◌, ◌==◌, length, true, if◌then◌else◌, ap, ◌∙◌, arith}
use Rattle.std.specs.Int.{bit_at}
use Rattle.std.proofs.lemmas.List.{get_or_read}
use Rattle.iom_frame_set.specs.Sets.{Words, has}
use Rattle.iom_frame_set.proofs.SetLemmas.{Inserts-written}
use Rattle.iom_frame_set.proofs.number_set.NumberSet.insert.Goals as goal

pub returns-clause-inserted : goal.returns-clause-inserted
returns-clause-inserted c f =
    let words : Words = record { kept = c.self.inside.words.items; beyond = c.self.inside.beyond } in
    let long : length words.kept ≡ length c.args.self.now.kept = ap (λ ws. length ws.kept) c.self.view_is in
    let read = get_or_read words.kept _ _ (omega arith) c.index.ensures words.beyond in
    Inserts-written words c.args.number c.with_bit.result (omega arith) c.with_bit.ensures.set (λ k other. c.with_bit.ensures.others k other ∙ ap (λ word. bit_at word k) read) f
    ∙ ap (λ ws. if c.args.number == f then true else has ws f) c.self.view_is
