-- What is written means the context.
use Rattle.std.proofs.Common.{◌≡◌, sym, subst, rules}
use Rattle.iom_device_dir.specs.Words.{context_words}
use Rattle.iom_device_dir.specs.Formats.{IsContext}
use Rattle.iom_device_dir.specs.Encoded.{encoded_context, RootsOfBareStagesAreZero}
use Rattle.iom_device_dir.proofs.Encodes.{ContextFits, bytes_mean, bytes_unused}
use Rattle.iom_device_dir.proofs.context.Context.encode.Goals as goal

pub returns-clause-context : goal.returns-clause-context
returns-clause-context c =
    let fits : ContextFits c.args.self = search rules in
    let written : c.to_bytes.result ≡ encoded_context c.args.self = search rules in
    subst (λ bytes. IsContext bytes c.args.self) (sym written) (bytes_mean c.args.self fits)

pub returns-clause-unused : goal.returns-clause-unused
returns-clause-unused c =
    let fits : ContextFits c.args.self = search rules in
    let written : c.to_bytes.result ≡ encoded_context c.args.self = search rules in
    subst (λ bytes. RootsOfBareStagesAreZero c.args.self (context_words bytes)) (sym written) (bytes_unused c.args.self fits)
