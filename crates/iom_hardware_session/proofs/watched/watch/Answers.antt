use Rattle.std.proofs.Common.{rules, ◌∙◌, ◌++◌, [], ◌∷◌, None, not, sym, ap}
use Rattle.std.proofs.lemmas.Fn.{filter_same}
use Rattle.iom_hardware_session.specs.Watching.{is_about_same, with_if_good}
use Rattle.iom_hardware_session.specs.declared.watched.Watched.{Watched}
use Rattle.iom_hardware_session.proofs.watched.watch.Goals as goal

pub returns-in-Good : goal.returns-in-Good
returns-in-Good c =
    c.push_reserved.ensures.items
    ∙ ap (λ kept. kept ++ (record { claim = c.args.claim; why = None }) ∷ [])
    (filter_same _ (λ (own : Watched). not (is_about_same c.args.claim own.claim)) _ (λ x b f' call. search rules) _ _ c.retain.ensures.filtered)
    ∙ ap (λ found. with_if_good found c.args.claim c.args.watched.now.items) (sym c.in-Good.is)
