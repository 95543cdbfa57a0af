use Rattle.std.proofs.Common.{◌++◌, codes, ap, ◌∙◌}
use Rattle.std.proofs.lemmas.List.{append_assoc}
use Rattle.iom_script.specs.Digits.{hex_digits, hex_of}
use Rattle.iom_script.proofs.PutLemmas.{digits_by_bytes}
use Rattle.iom_script.proofs.lines.put_word.Goals as goal

pub returns-clause-text : goal.returns-clause-text
returns-clause-text c =
    c.put_hex.ensures.text ∙ ap (λ bytes. c.put.new.self ++ hex_of bytes) c.to_be_bytes.ensures
    ∙ ap (λ digits. c.put.new.self ++ digits) (digits_by_bytes 8 c.args.word)
    ∙ ap (λ before. before ++ hex_digits 16 c.args.word) c.put.ensures
    ∙ append_assoc c.args.out.now (codes " 0x") (hex_digits 16 c.args.word)
