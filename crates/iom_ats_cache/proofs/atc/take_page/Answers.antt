use Rattle.std.proofs.Common.{rules, ◌≡◌, sym, Some, None}
use Rattle.std.specs.List.{position}
use Rattle.iom_ats_cache.proofs.EntryLemmas.{IsOf, outside_without_place, outside_at_place}
use Rattle.iom_ats_cache.proofs.atc.take_page.Goals as goal

pub returns-in-Some : goal.returns-in-Some
returns-in-Some c =
    let found : position (IsOf c.args.page) c.args.entries.now.items ≡ Some c.in-Some.place = search rules in
    rw (outside_at_place c.args.page c.args.entries.now.items c.in-Some.place c.remove.result c.requires found) (search rules)

pub returns-in_default : goal.returns-in_default
returns-in_default c =
    let none : position (IsOf c.args.page) c.args.entries.now.items ≡ None = search rules in
    sym (outside_without_place c.args.page c.args.entries.now.items none)
