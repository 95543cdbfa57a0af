-- The text of a script, and what a fault says of it.
use Rattle.std.proofs.Common.{◌≡◌, ◌≢◌, ◌<◌, ◌≤◌, ◌++◌, ◌∙◌, ℕ, suc, Bool, true, false, cond, inl, inr, List, [], ◌∷◌, length, take, Option, None, Some, MatchOption, IfSome, Result, Ok, Err, OnOk, OnErr, IfErr, unwrap_or, refl, sym, ap, subst, subst₂, arith}
use Rattle.std.proofs.lemmas.List.{length-append}
use Rattle.std.proofs.KnownBytes.{Keeps-refl}
use Rattle.std.specs.Io.KnownBytes.{Appends}
use Rattle.iom_script.specs.declared.script.Script.{Script}
use Rattle.iom_script.specs.declared.script.ScriptLine.{ScriptLine}
use Rattle.iom_script.specs.declared.script.WorldSize.{WorldSize}
use Rattle.iom_script.specs.Grammar.{IsScript, SayLines, Says, is_spoken, spoken, bytes_of_lines}
use Rattle.iom_script.specs.BadLines.{IsFirstBadLine}
use Rattle.iom_script.proofs.LimitLemmas.{front_script, front_fault}
use Rattle.iom_command_line.specs.declared.fault.ArgsFault.{ArgsFault}
use Rattle.iom_command_line.specs.declared.fault.ArgsFault.TheVariants as args_faults
use Rattle.iom_runner.specs.declared.faults.ProgramFault.{ProgramFault}
use Rattle.iom_runner.specs.declared.faults.ProgramFault.TheVariants as programs
use Rattle.iom_runner.specs.declared.faults.RunFault.{RunFault}
use Rattle.iom_runner.specs.declared.faults.RunFault.TheVariants as faults
use Rattle.iom_runner.specs.Bytes.{ExplainsUnparsed}
use Rattle.iom_runner.specs.Disks.{program_setting}
use Rattle.iom_runner.specs.Reading.{IsReadFault}
use Rattle.iom_runner.specs.Runs.{TellsScript, RunsBytes, RunsProgram, AreLeft}
use Rattle.iom_runner.specs.Text.{Setting, TellsRun, IsTextOf, WritesLines}
use Rattle.iom_runner.specs.WorldText.{TellsWorld, TellsSoFar, WritesText, WritesRun, BeginsRun, BeginsRunSoFar}
use Rattle.iom_line_writer.specs.Writing.{AppendsFront, AppendsPart}
use Rattle.iom_runner.proofs.RunLemmas.{machine_run}

-- what tells a run from power-on tells a script with a world of that size
pub of_script : (Tells : WorldSize → List ScriptLine → List ℕ → Type 0) (Grows : List ℕ → Type 0) (script : Script) (size : WorldSize) (lines : List ScriptLine)
    → script.world ≡ Some size → lines ≡ script.lines → (text : List ℕ) × Tells size lines text × Grows text
    → (text : List ℕ) × IsTextOf Tells script text × Grows text
of_script Tells Grows script size lines is same (text, tells, grows) = (
  text,
  subst (λ world. MatchOption world (text ≡ []) (λ s. Tells s script.lines text)) (sym is) (subst (λ (ls : List ScriptLine). Tells size ls text) same tells),
  grows,
)

-- a script has fewer lines than bytes
say_as_many : (lines : List (List ℕ)) (said : List ScriptLine) → SayLines lines said → length said ≡ length lines
say_as_many [] [] say = refl
say_as_many [] (line ∷ said) say = absurd say
say_as_many (line ∷ lines) [] say = absurd say
say_as_many (line ∷ lines) (one ∷ said) say = ap (λ n. suc n) (say_as_many lines said say.1)

spoken_fewer : (lines : List (List ℕ)) → length (spoken lines) ≤ length lines
spoken_fewer [] = omega arith
spoken_fewer (line ∷ lines) = by (is_spoken line) (spoken_fewer lines)
  where
    by : (b : Bool) → length (spoken lines) ≤ length lines → length (cond b (line ∷ spoken lines) (spoken lines)) ≤ length (line ∷ lines)
    by true few = omega (arith, few)
    by false few = omega (arith, few)

each_has_a_byte : (lines : List (List ℕ)) → length lines ≤ length (bytes_of_lines lines)
each_has_a_byte [] = omega arith
each_has_a_byte (line ∷ lines) =
    let few = each_has_a_byte lines in
    let all = length-append (line ++ 10 ∷ []) (bytes_of_lines lines) in
    let one = length-append line (10 ∷ []) in
    omega (arith, few, all, one)

says_few : (lines : List (List ℕ)) (script : Script) → Says lines script → length script.lines ≤ length lines
says_few [] script (world, none) = let few : length script.lines ≡ 0 = ap (λ (l : List ScriptLine). length l) none in omega (arith, few)
says_few (line ∷ lines) script (size, world, is, say) = let same = say_as_many lines script.lines say in omega (arith, same)

pub few_lines : (bytes : List ℕ) (script : Script) → IsScript bytes script → length script.lines ≤ 1048576
few_lines bytes script (lines, make, is) =
    let said = says_few (spoken lines) script make.says in
    let fewer = spoken_fewer lines in
    let each = each_has_a_byte lines in
    let short = make.short in
    omega (arith, said, fewer, each, short)

-- the bytes that a reader had left: those that are known, or these
abbrev pub input_of : Option (List ℕ) → List ℕ → List ℕ
input_of known bytes = unwrap_or known bytes

-- those are the ones that are left
pub input_is_left : (known : Option (List ℕ)) (bytes : List ℕ) → AreLeft (input_of known bytes) known
input_is_left None bytes = tt
input_is_left (Some input) bytes = refl

-- the first bytes are a script only where all are
pub whole_script : (known : Option (List ℕ)) (bytes : List ℕ) (limit : ℕ) (script : Script) → 1048576 < limit → IfSome known (λ input. bytes ≡ take limit input) → IsScript bytes script
    → IsScript (input_of known bytes) script
whole_script None bytes limit script big read is = is
whole_script (Some input) bytes limit script big read is = front_script input limit script big (subst (λ b. IsScript b script) read is)

-- nothing is written where the bytes couldn't be read
pub unread : (setting : Setting) (input : List ℕ) (written : Option (List ℕ)) (result : Result (Unit {0}) RunFault) (fault : RunFault) → result ≡ Err fault → IsReadFault fault → RunsBytes setting input result written written
unread setting input written result fault is (inl reading) = subst (λ r. RunsBytes setting input r written written) (sym (is ∙ ap (λ f. Err f) reading)) (Keeps-refl written)
unread setting input written result fault is (inr memory) = subst (λ r. RunsBytes setting input r written written) (sym (is ∙ ap (λ f. Err f) memory)) (Keeps-refl written)

explained : (setting : Setting) (known : Option (List ℕ)) (bytes : List ℕ) (limit : ℕ) (written : Option (List ℕ)) (fault : RunFault) → 1048576 < limit
    → IfSome known (λ input. bytes ≡ take limit input) → ExplainsUnparsed bytes fault → RunsBytes setting (input_of known bytes) (Err fault) written written
explained setting None bytes limit written (faults.Script number) big read explains = (explains, Keeps-refl written)
explained setting (Some input) bytes limit written (faults.Script number) big read explains =
    (front_fault input limit number big (subst (λ b. IsFirstBadLine b number) read explains), Keeps-refl written)
explained setting known bytes limit written faults.Memory big read explains = Keeps-refl written
explained setting known bytes limit written faults.Reading big read explains = absurd explains
explained setting known bytes limit written faults.Writing big read explains = absurd explains

-- nothing is written where the bytes weren't parsed
pub unparsed : (setting : Setting) (known : Option (List ℕ)) (bytes : List ℕ) (limit : ℕ) (written : Option (List ℕ)) (result : Result (Unit {0}) RunFault) (fault : RunFault) → 1048576 < limit
    → IfSome known (λ input. bytes ≡ take limit input) → ExplainsUnparsed bytes fault → result ≡ Err fault → RunsBytes setting (input_of known bytes) result written written
unparsed setting known bytes limit written result fault big read explains is =
    subst (λ r. RunsBytes setting (input_of known bytes) r written written) (sym is) (explained setting known bytes limit written fault big read explains)

-- a text that tells a run which a world goes along tells a run of the machine
told_of_machine : (setting : Setting) (lines : List ScriptLine) (text : List ℕ) (world : Option WorldSize)
    → MatchOption world (text ≡ []) (λ size. TellsWorld setting size lines text) → MatchOption world (text ≡ []) (λ size. TellsRun setting size lines text)
told_of_machine setting lines text None none = none
told_of_machine setting lines text (Some size) tells = machine_run setting size lines text tells

-- what is written of a script is the text of a run of the machine
lines_written : (setting : Setting) (script : Script) (old new : Option (List ℕ)) → WritesText setting script old new → WritesLines setting script old new
lines_written setting script old new (text, is, appends) = (text, told_of_machine setting script.lines text script.world is, appends)

-- bytes that are a script are told as one
pub runs_script : (setting : Setting) (input : List ℕ) (script : Script) (result : Result (Unit {0}) RunFault) (old new : Option (List ℕ)) → IsScript input script → TellsScript setting script result old new
    → RunsBytes setting input result old new
runs_script setting input script (Ok done) old new is reply = (script, is, lines_written setting script old new reply, reply)
runs_script setting input script (Err faults.Writing) old new is reply = (script, is, reply.0, reply.1)
runs_script setting input script (Err faults.Memory) old new is reply = reply.1
runs_script setting input script (Err faults.Reading) old new is reply = absurd reply
runs_script setting input script (Err (faults.Script number)) old new is reply = absurd reply

-- the program ends as the run of the bytes does, where that goes well
pub program_ran : (setting : Setting) (input : List ℕ) (ran : Result (Unit {0}) RunFault) (done : Unit {0}) (old new : Option (List ℕ)) → ran ≡ Ok done → RunsBytes setting input ran old new
    → RunsProgram setting input (Ok done) old new
program_ran setting input ran done old new is runs = subst (λ r. RunsBytes setting input r old new) is runs

-- and where it fails
pub program_failed : (setting : Setting) (input : List ℕ) (ran : Result (Unit {0}) RunFault) (result : Result (Unit {0}) ProgramFault) (fault : RunFault) (old new : Option (List ℕ))
    → ran ≡ Err fault → result ≡ Err (programs.Run fault) → RunsBytes setting input ran old new → RunsProgram setting input result old new
program_failed setting input ran result fault old new is ends runs =
    subst (λ r. RunsProgram setting input r old new) (sym ends) (subst (λ r. RunsBytes setting input r old new) is runs)

-- with the program's disks, and counts where these are asked for
pub program_as : (counts flag : Bool) (input : List ℕ) (result : Result (Unit {0}) ProgramFault) (old new : Option (List ℕ)) → counts ≡ flag
    → RunsProgram (program_setting counts) input result old new → RunsProgram (program_setting flag) input result old new
program_as counts flag input result old new same runs = subst (λ b. RunsProgram (program_setting b) input result old new) same runs

-- a lawful command line isn't read for want of memory alone
pub words_unread : (setting : Setting) (input : List ℕ) (result : Result (Unit {0}) ProgramFault) (fault : ArgsFault) (written : Option (List ℕ)) → result ≡ Err (programs.Args fault)
    → fault ≢ args_faults.Bad → RunsProgram setting input result written written
words_unread setting input result args_faults.Bad written is lawful = absurd (lawful refl)
words_unread setting input result args_faults.Memory written is lawful = subst (λ r. RunsProgram setting input r written written) (sym is) (Keeps-refl written)

-- nothing is written where memory failed
pub untold : (setting : Setting) (script : Script) (size : WorldSize) (written : Option (List ℕ)) (result : Result (Unit {0}) RunFault) (fault : RunFault) → script.world ≡ Some size
    → result ≡ Err fault → fault ≡ faults.Memory → TellsScript setting script result written written
untold setting script size written result fault there is memory =
    subst (λ r. TellsScript setting script r written written) (sym (is ∙ ap (λ f. Err f) memory)) ((λ none. cc), Keeps-refl written)

-- a run of the lines of a script, in a world of its size, tells the script
pub told_script : (setting : Setting) (script : Script) (size : WorldSize) (lines : List ScriptLine) (result : Result (Unit {0}) RunFault) (old new : Option (List ℕ))
    → script.world ≡ Some size → lines ≡ script.lines → OnOk result (WritesRun setting size lines old new) → OnErr result (BeginsRun setting size lines old new)
    → OnErr result (BeginsRunSoFar setting size lines old new) → IfErr result (λ fault. fault ≡ faults.Writing) → TellsScript setting script result old new
told_script setting script size lines (Ok done) old new is same reply front so_far writing = of_script (TellsWorld setting) (Appends old new) script size lines is same reply
told_script setting script size lines (Err fault) old new is same reply front so_far writing =
    subst (λ f. TellsScript setting script (Err f) old new) (sym writing) (of_script (TellsRun setting) (AppendsFront old new) script size lines is same front, of_script (TellsSoFar setting) (AppendsPart old new) script size lines is same so_far)

-- what is told by way of a writer, where the writer began and ended so
pub told_by : {W : Type 0} (contents : W → Option (List ℕ)) (Tells : Option (List ℕ) → Option (List ℕ) → Type 0) (old start end new : W) → start ≡ old → end ≡ new
    → Tells (contents start) (contents end) → Tells (contents old) (contents new)
told_by contents Tells old start end new from to reply = subst₂ (λ a b. Tells (contents a) (contents b)) from to reply
