-- What a cache answers was handed to it.
use Rattle.iom_device_dir.specs.declared.context.Context.{Context}
use Rattle.iom_device_dir.proofs.SoundCaches.{answers_what_was_last_handed}
use Rattle.iom_device_dir.proofs.laws.answers_what_was_last_handed.Goals as goal

pub returns : goal.returns
returns c = answers_what_was_last_handed Context
