-- A lawful command line is read as it stands.
use Rattle.std.proofs.Common.{◌≡◌, ◌∙◌, true, map}
use Rattle.clap.specs.Simple.{app_of}
use Rattle.iom_command_line.specs.CommandLine.{is_command_line, wants_trace}
use Rattle.iom_command_line.proofs.CommandLineLemmas.{file_found, flag_found, flag_read, taken}
use Rattle.iom_command_line.proofs.arguments.read_words.Goals as goal

pub returns-in-Ok-try_get_matches_from-clause-trace : goal.returns-in-Ok-try_get_matches_from-clause-trace
returns-in-Ok-try_get_matches_from-clause-trace c =
    let lawful : is_command_line (map (λ word. word.now) c.args.words.now) ≡ true = cc in
    flag_read _ (wants_trace (map (λ word. word.now) c.args.words.now)) c.get_flag.result
    (flag_found (app_of c.in-Ok.command) _ c.in-Ok-try_get_matches_from.matches c.in-Ok.ensures lawful c.in-Ok-try_get_matches_from.ensures.matches)
    c.get_flag.ensures.value c.get_flag.ensures.other

pub returns-in-Ok-try_get_matches_from-clause-file : goal.returns-in-Ok-try_get_matches_from-clause-file
returns-in-Ok-try_get_matches_from-clause-file c =
    let lawful : is_command_line (map (λ word. word.now) c.args.words.now) ≡ true = cc in
    c.get_str.ensures ∙ file_found (app_of c.in-Ok.command) _ c.in-Ok-try_get_matches_from.matches c.in-Ok.ensures lawful c.in-Ok-try_get_matches_from.ensures.matches

pub returns : goal.returns
returns c =
    let lawful : is_command_line (map (λ word. word.now) c.args.words.now) ≡ true = cc in record {
      trace = tt;
      file = tt;
      lawful = λ is bad. c.in_default-kind.not-OutOfMemory (c.kind.ensures ∙ c.in-Err.ensures.passes (taken (app_of c.in-Ok.command) _ c.in-Ok.ensures lawful));
      unlawful = λ un. absurd (un lawful);
    }
