-- As many rows are written back.
use Rattle.std.proofs.Common.{◌≡◌, ◌∙◌, ◌+◌, ◌++◌, List, length, take, drop, sym, ap, subst, arith}
use Rattle.iom_walks.specs.Calls.{AllBeginAnew}
use Rattle.iom_walks.specs.Invariant.{AreWalks}
use Rattle.iom_walks.specs.Walks.{WalkRow}
use Rattle.iom_walks.proofs.AnewLemmas.{written_back}
use Rattle.iom_walks.proofs.Kept.{same_length, sound_anew}
use Rattle.iom_walks.proofs.walks.Walks.begin_anew.Goals as goal

pub invariant_of-self : goal.invariant_of-self
invariant_of-self c =
    let items = c.self.inside.rows.items in
    let new = c.begin_all_anew.new.rows in
    let anew : AllBeginAnew c.args.ddtp items new = subst (λ (rs : List WalkRow). AllBeginAnew c.args.ddtp rs new) c.deref_mut.ensures.value c.begin_all_anew.ensures in
    let long : length new ≡ length items = same_length c.args.ddtp items new anew in
    let back : take c.self.inside.rows.len (new ++ drop (length new) items) ≡ new = written_back new items c.self.inside.rows.len (omega (arith, long, c.deref_mut.ensures.len)) in (
      c.self.invariant.0,
      ap (λ (rs : List WalkRow). length rs + length c.self.inside.spare.items) back ∙ ap (λ n. n + length c.self.inside.spare.items) long ∙ c.self.invariant.1,
      subst AreWalks (sym back) (sound_anew c.args.ddtp items new anew c.self.invariant.2),
    )
