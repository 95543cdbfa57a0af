-- The row stands at its place again.
use Rattle.std.proofs.Common.{◌∙◌, ◌+◌, List, length, ap, subst}
use Rattle.std.proofs.lemmas.List.{length-set}
use Rattle.iom_walks.specs.Calls.{given_up}
use Rattle.iom_walks.specs.Rows.{RowStandsAt}
use Rattle.iom_walks.specs.Walks.{WalkRow, row_of}
use Rattle.iom_walks.proofs.ByPlace.{gives_up_at, sound_gives_up_at}
use Rattle.iom_walks.proofs.walks.Walks.give_up.Goals as goal

pub invariant_of-self : goal.invariant_of-self
invariant_of-self c =
    let stands = subst (λ (rs : List WalkRow). RowStandsAt rs c.args.device c.in-Some.place) c.deref.ensures.value c.in-Some.ensures in (
      c.self.invariant.0,
      ap (λ n. n + length c.self.inside.spare.items) (length-set c.self.inside.rows.items c.in-Some.place c.give_up.new.self) ∙ c.self.invariant.1,
      sound_gives_up_at c.self.inside.rows.items c.args.device c.in-Some.place c.index_mut-row.result.now stands c.index_mut-row.ensures.value c.give_up.new.self c.self.invariant.2
          c.give_up.ensures,
    )

pub returns-in-Some : goal.returns-in-Some
returns-in-Some c =
    let stands = subst (λ (rs : List WalkRow). RowStandsAt rs c.args.device c.in-Some.place) c.deref.ensures.value c.in-Some.ensures in
    gives_up_at c.self.inside.rows.items c.args.device c.in-Some.place c.index_mut-row.result.now stands c.index_mut-row.ensures.value c.give_up.new.self c.give_up.ensures
    ∙ ap (λ (rs : List WalkRow). given_up rs (row_of rs c.args.device)) c.self.view_is
