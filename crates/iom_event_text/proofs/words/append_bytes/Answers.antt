use Rattle.std.proofs.Common.{◌<◌, arith}
use Rattle.std.proofs.lemmas.List.Elements.{All-from_get_or}
use Rattle.iom_event_text.proofs.words.append_bytes.Goals as goal

pub returns-clause-range : goal.returns-clause-range
returns-clause-range c = All-from_get_or (λ byte. byte < 256) c.args.bytes.now 0 (λ i lt. let fit = (c.type_inv.bytes i).fits in omega (arith, fit))
