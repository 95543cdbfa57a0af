use Rattle.std.proofs.Common.{rules}
use Rattle.std.proofs.lemmas.Fn.{filter_same}
use Rattle.iom_hardware_session.proofs.watched.drop_hand_off.Goals as goal

pub returns : goal.returns
returns c = filter_same _ _ _ (λ x b f' call. search rules) _ _ c.retain.ensures.filtered
