use Rattle.std.proofs.Common.{◌≡◌, List, refl, subst, rules}
use Rattle.iom_litmus_test.specs.declared.observable.Observable.{Observable}
use Rattle.iom_litmus.specs.Alike.{AreSeenAlike}
use Rattle.iom_litmus.specs.Listed.{IsListed}
use Rattle.iom_litmus.proofs.alike.is_alike.Goals as goal

pub returns : goal.returns
returns c same = record {
  columns = c.if-not-are_columns_alike.ensures refl;
  seen = subst (λ (os : List Observable). (observable : Observable) → IsListed os observable → AreSeenAlike observable c.args.one.now c.args.other.now) c.as_slice.ensures (c.if-not-are_all_seen_alike.ensures refl);
  drops = search rules;
  repeats = search rules;
  timeouts = search rules;
}
