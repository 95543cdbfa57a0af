-- The words of a context's bytes are decoded to it.
use Rattle.std.proofs.Common.{rules, ◌≡◌, ◌∙◌, [], ◌∷◌, ℕ, List, ap, Some, Ok}
use Rattle.iom_device_dir.specs.Words.{context_word}
use Rattle.iom_device_dir.specs.declared.context.Context.{Context}
use Rattle.iom_device_dir.specs.Encoded.{encoded_context}
use Rattle.iom_device_dir.specs.Paths.{four_context_words}
use Rattle.iom_device_dir.specs.Located.{loaded_context}
use Rattle.iom_device_dir.proofs.Encodes.{ContextFits, bytes_read_back}
use Rattle.iom_directory_build.specs.Written.{encoded_word}
use Rattle.iom_directory_build.proofs.entries.words_of.Goals as goal

four_words : (bytes : List ℕ) (context : Context) → bytes ≡ encoded_context context
    → context_word bytes 0 ∷ context_word bytes 1 ∷ context_word bytes 2 ∷ context_word bytes 3 ∷ [] ≡ encoded_word context 0 ∷ encoded_word context 1 ∷ encoded_word context 2 ∷ encoded_word context 3 ∷ []
unfolding encoded_word
four_words bytes context e = ap (λ b. context_word b 0 ∷ context_word b 1 ∷ context_word b 2 ∷ context_word b 3 ∷ []) e

found_back : (context : Context) → ContextFits context
    → loaded_context (four_context_words (Some (encoded_word context 0)) (Some (encoded_word context 1)) (Some (encoded_word context 2)) (Some (encoded_word context 3))) ≡ Ok context
unfolding encoded_word
found_back context fits = bytes_read_back context fits

pub returns-clause-words : goal.returns-clause-words
returns-clause-words c = c.words_of_bytes.ensures ∙ four_words c.encode.result c.args.context c.encode.ensures.value

pub returns-clause-found : goal.returns-clause-found
returns-clause-found c = let fits : ContextFits c.args.context = search rules in found_back c.args.context fits
