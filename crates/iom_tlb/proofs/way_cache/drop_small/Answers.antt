-- All that is covered is in the one set.
use Rattle.std.proofs.Common.{◌<◌, ◌∙◌, length, refl, sym, arith}
use Rattle.std.proofs.lemmas.List.{get_or_default}
use Rattle.iom_tlb.specs.Covers.{covers}
use Rattle.iom_tlb.specs.Entries.{has_key}
use Rattle.iom_tlb.specs.Ways.{no_ways, content_of_sets}
use Rattle.iom_tlb.proofs.CacheLemmas.{dropped_in_one, sound_in_one}
use Rattle.iom_tlb.proofs.LargeLemmas.{one_key_goes, key_elsewhere, page_elsewhere}
use Rattle.iom_tlb.proofs.way_cache.drop_small.Goals as goal

pub returns-in-Some-clause-dropped : goal.returns-in-Some-clause-dropped
returns-in-Some-clause-dropped c =
    let sets = c.args.sets.now in
    let cover = c.args.cover.now in
    let number = c.set_of.result in
    let within : number < length sets = omega (arith, c.requires.invariants.0, c.set_of.ensures) in
    dropped_in_one sets number _ c.drop_key.new.self within (get_or_default sets number c.index-sets-set_of.result no_ways within)
    (has_key (c.in-Some.space, c.in-Some.page)) (covers cover) c.drop_key.ensures.dropped
    (λ key t at own. one_key_goes cover (content_of_sets sets) c.requires.small (c.in-Some.space, c.in-Some.page) c.in-Some.ensures.only key t at)
    (λ key t at apart. key_elsewhere cover (content_of_sets sets) c.requires.small (c.in-Some.space, c.in-Some.page) c.in-Some.ensures.only key t at (λ same. apart (same ∙ sym c.set_of.ensures)))

pub returns-in-Some-clause-invariants : goal.returns-in-Some-clause-invariants
returns-in-Some-clause-invariants c =
    let sets = c.args.sets.now in
    let number = c.set_of.result in
    let within : number < length sets = omega (arith, c.requires.invariants.0, c.set_of.ensures) in
    sound_in_one sets number _ c.drop_key.new.self within (get_or_default sets number c.index-sets-set_of.result no_ways within) c.requires.invariants c.drop_key.ensures.home

pub returns-in-Some-only_page-clause-dropped : goal.returns-in-Some-only_page-clause-dropped
returns-in-Some-only_page-clause-dropped c =
    let sets = c.args.sets.now in
    let cover = c.args.cover.now in
    let number = c.set_of-in-Some-only_page.result in
    let within : number < length sets = omega (arith, c.requires.invariants.0, c.set_of-in-Some-only_page.ensures) in
    dropped_in_one sets number _ c.drop_where.new.self within (get_or_default sets number c.index-sets-set_of-in-Some-only_page.result no_ways within)
    (covers cover) (covers cover) c.drop_where.ensures.dropped (λ key t at own. refl)
    (λ key t at apart. page_elsewhere cover (content_of_sets sets) c.requires.small c.in-Some-only_page.page c.in-Some-only_page.ensures.only key t at
    (λ same. apart (same ∙ sym c.set_of-in-Some-only_page.ensures)))

pub returns-in-Some-only_page-clause-invariants : goal.returns-in-Some-only_page-clause-invariants
returns-in-Some-only_page-clause-invariants c =
    let sets = c.args.sets.now in
    let number = c.set_of-in-Some-only_page.result in
    let within : number < length sets = omega (arith, c.requires.invariants.0, c.set_of-in-Some-only_page.ensures) in
    sound_in_one sets number _ c.drop_where.new.self within (get_or_default sets number c.index-sets-set_of-in-Some-only_page.result no_ways within) c.requires.invariants
    c.drop_where.ensures.home
