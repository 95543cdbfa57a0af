-- What was read, and what the reader had.
use Rattle.std.proofs.Common.{◌≡◌, ◌⊎◌, ⊎_elim, is_ok, true≢false, ◌<◌, ◌≤◌, ◌∙◌, ℕ, Bool, List, ◌++◌, length, min, take, Option, None, Some, Result, Ok, Err, IfOk, IfErr, IfSome, OnOk, arith, append-nil, sym, ap, subst}
use Rattle.std.proofs.lemmas.List.{length-take, take_all}
use Rattle.std.proofs.KnownBytes.{Consumes-trans}
use Rattle.std.specs.Io.KnownBytes.{Consumes, IsAtEnd}
use Rattle.iom_hardware_runner.proofs.BadLineLemmas.{names_another, names_nothing, script_breaks, script_is_unended, session_breaks, session_is_unended}
use Rattle.iom_hardware_runner.specs.Parts.{Breaks, IsBadRest, IsUnended, NamesNone, script_fault_of, read_fault_of}
use Rattle.iom_hardware_runner.specs.Runs.{ScriptRuns, NamesLine, IsFirstBadSessionLine}
use Rattle.iom_hardware_runner.specs.declared.faults.RunFault.{RunFault}
use Rattle.iom_hardware_script.specs.Grammar.{SayHardware, IsHardwareScript, IsFirstBadHardwareLine}
use Rattle.iom_hardware_script.specs.declared.script.HardwareScript.{HardwareScript}
use Rattle.iom_script.proofs.LimitLemmas.{front_bad}
use Rattle.iom_script.specs.Faults.{ExplainsText}
use Rattle.iom_script.specs.declared.parser.ScriptFault.{ScriptFault}
use Rattle.iom_script.specs.declared.parser.ScriptFault.TheVariants as script_faults
use Rattle.iom_script_reading.specs.declared.reading.ReadFault.{ReadFault}
use Rattle.iom_script_reading.specs.declared.reading.ReadFault.TheVariants as read_faults

-- the first bytes, where they are fewer than were read at most, are all
are_all : (input bytes : List ℕ) (limit most : ℕ) → bytes ≡ take limit input → length bytes ≤ most → most < limit → bytes ≡ input
are_all input bytes limit most is few less = is ∙ take_all limit input (by (length input) (ap length is ∙ length-take limit input))
  where
    by : (n : ℕ) → length bytes ≡ min limit n → n ≤ limit
    by n same = omega (same, few, less, arith)

-- so what is so of them is so of all
of_all : (known : Option (List ℕ)) (bytes : List ℕ) (limit most : ℕ) (P : List ℕ → Type 0) → IfSome known (λ input. bytes ≡ take limit input) → length bytes ≤ most → most < limit
    → P bytes → IfSome known P
of_all None bytes limit most P is few less holds = tt
of_all (Some input) bytes limit most P is few less holds = subst P (are_all input bytes limit most is few less) holds

-- what was taken up to the end is all
of_taken : (old new : Option (List ℕ)) (taken : List ℕ) (P : List ℕ → Type 0) → Consumes old new taken → IsAtEnd new → P taken → IfSome old P
of_taken None new taken P consumed end holds = tt
of_taken (Some input) None taken P consumed end holds = absurd consumed
of_taken (Some input) (Some rest) taken P consumed end holds =
    subst P (sym (consumed ∙ ap (λ (r : List ℕ). taken ++ r) end ∙ append-nil taken)) holds

-- a script that was read whole was run
pub whole_ran : {E : Type 0} (result : Result Bool E) (known : Option (List ℕ)) (bytes : List ℕ) (limit most : ℕ) → IfSome known (λ input. bytes ≡ take limit input) → most < limit
    → IfOk result (ScriptRuns bytes) → OnOk result (length bytes ≤ most) → IfOk result (λ wrong. IfSome known (λ input. ScriptRuns input wrong))
whole_ran (Ok wrong) known bytes limit most is less ran few = of_all known bytes limit most (λ input. ScriptRuns input wrong) is few less ran
whole_ran (Err fault) known bytes limit most is less ran few = tt

-- a session whose last read gave nothing was run
pub live_ran : {E : Type 0} (result : Result Bool E) (known before end : Option (List ℕ)) (taken piece : List ℕ) (count : ℕ) → Consumes known before taken
    → Consumes before end (take count piece) × (count ≡ 0 → IsAtEnd end) → count ≡ 0 → IfOk result (ScriptRuns taken) → IfOk result (λ wrong. IfSome known (λ input. ScriptRuns input wrong))
live_ran (Ok wrong) known before end taken piece count first next none ran =
    let nothing : taken ++ take count piece ≡ taken = ap (λ (n : ℕ). taken ++ take n piece) none ∙ append-nil taken in
    of_taken known end taken (λ input. ScriptRuns input wrong) (subst (λ (l : List ℕ). Consumes known end l) nothing (Consumes-trans known before end taken (take count piece) first next.0)) (next.1 none) ran
live_ran (Err fault) known before end taken piece count first next none ran = tt

-- WHICH LINE IS NAMED

-- by the fault of a script that isn't in the grammar
pub script_explains : (bytes : List ℕ) (fault : ScriptFault) → ExplainsText SayHardware bytes fault → NamesLine (IsFirstBadHardwareLine bytes) (script_fault_of fault)
script_explains bytes (script_faults.Line number) explains = explains
script_explains bytes script_faults.Memory explains = tt

-- a script has few bytes
pub script_is_short : (bytes : List ℕ) (script : HardwareScript) → IsHardwareScript bytes script → length bytes ≤ 1048576
script_is_short bytes script (lines, made, is) = omega (arith, ap length is, made.short)

-- and no bad line
abbrev pub HasNoBadLine : List ℕ → Type 0
HasNoBadLine bytes = (number : ℕ) → IsFirstBadHardwareLine bytes number → ⊥

abbrev read_as : HardwareScript → Result HardwareScript ScriptFault
read_as script = Ok script

abbrev not_read : ScriptFault → Result HardwareScript ScriptFault
not_read fault = Err fault

well_or_not : (script : HardwareScript) (fault : ScriptFault) → read_as script ≡ not_read fault → ⊥
well_or_not script fault is = absurd (true≢false (ap is_ok is))

pub script_is_good : (bytes : List ℕ) (script : HardwareScript)
    → ((number : ℕ) → IsFirstBadHardwareLine bytes number → (read_as script ≡ not_read (script_faults.Line number)) ⊎ (read_as script ≡ not_read script_faults.Memory)) → HasNoBadLine bytes
script_is_good bytes script first number bad = ⊎_elim (well_or_not script (script_faults.Line number)) (well_or_not script script_faults.Memory) (first number bad)

pub script_has_none : (Q : ℕ → Type 0) (bytes : List ℕ) (fault : RunFault) → HasNoBadLine bytes → NamesLine (IsFirstBadHardwareLine bytes) fault → NamesLine Q fault
script_has_none Q bytes fault good names = names_another (IsFirstBadHardwareLine bytes) Q fault (λ number bad. absurd (good number bad)) names

-- a script breaks among lines that were taken from its beginning on
pub script_bad : (bytes : List ℕ) (fault : RunFault) (starts : Type 0) → starts → length bytes ≤ 1048576 → NamesLine (Breaks (IsBadRest starts) 1048576 bytes) fault
    → NamesLine (IsFirstBadHardwareLine bytes) fault
script_bad bytes fault starts now few names =
    names_another (Breaks (IsBadRest starts) 1048576 bytes) (IsFirstBadHardwareLine bytes) fault (λ number breaks. script_breaks 1048576 bytes number starts now few breaks) names

pub script_unended : (bytes : List ℕ) (fault : RunFault) → length bytes ≤ 1048576 → NamesLine (Breaks IsUnended 1048576 bytes) fault → NamesLine (IsFirstBadHardwareLine bytes) fault
script_unended bytes fault few names =
    names_another (Breaks IsUnended 1048576 bytes) (IsFirstBadHardwareLine bytes) fault (λ number breaks. script_is_unended 1048576 bytes number few breaks) names

-- of a script that came whole the end names none but that
pub end_bad : (result : Result Bool RunFault) (bytes : List ℕ) → length bytes ≤ 1048576 → IfErr result (NamesLine (Breaks IsUnended 1048576 bytes)) → IfErr result (NamesLine (IsFirstBadHardwareLine bytes))
end_bad (Ok wrong) bytes few names = tt
end_bad (Err fault) bytes few names = script_unended bytes fault few names

pub end_has_none : (Q : ℕ → Type 0) (result : Result Bool RunFault) (bytes : List ℕ) → HasNoBadLine bytes → IfErr result (NamesLine (IsFirstBadHardwareLine bytes)) → IfErr result (NamesLine Q)
end_has_none Q (Ok wrong) bytes good names = tt
end_has_none Q (Err fault) bytes good names = script_has_none Q bytes fault good names

-- nor is it where a script wasn't read
pub read_names_none : (Q : ℕ → Type 0) (fault : ReadFault) → NamesLine Q (read_fault_of fault)
read_names_none Q read_faults.Reading = tt
read_names_none Q read_faults.Memory = tt

-- none is, of whatever bytes
pub names_no_line : (known : Option (List ℕ)) (Is : List ℕ → ℕ → Type 0) (fault : RunFault) → NamesNone fault → IfSome known (λ input. NamesLine (Is input) fault)
names_no_line None Is fault none = tt
names_no_line (Some input) Is fault none = names_nothing (Is input) fault none

-- of a script that was read whole, or of which more was read than it may have
pub whole_bad : (result : Result Bool RunFault) (known : Option (List ℕ)) (bytes : List ℕ) (limit : ℕ) → IfSome known (λ input. bytes ≡ take limit input) → 1048576 < limit
    → IfErr result (NamesLine (IsFirstBadHardwareLine bytes)) → IfErr result (λ fault. IfSome known (λ input. NamesLine (IsFirstBadHardwareLine input) fault))
whole_bad (Ok wrong) known bytes limit is less names = tt
whole_bad (Err fault) None bytes limit is less names = tt
whole_bad (Err fault) (Some input) bytes limit is less names =
    names_another (IsFirstBadHardwareLine bytes) (IsFirstBadHardwareLine input) fault
    (λ number bad. front_bad SayHardware input limit number less (subst (λ (l : List ℕ). IsFirstBadHardwareLine l number) is bad)) names

-- of a session, as soon as it came
pub live_bad : (fault : RunFault) (known now : Option (List ℕ)) (taken : List ℕ) (starts : Type 0) → Consumes known now taken → NamesLine (Breaks (IsBadRest starts) 65536 taken) fault
    → IfSome known (λ input. NamesLine (IsFirstBadSessionLine input) fault)
live_bad fault None now taken starts consumed names = tt
live_bad fault (Some input) None taken starts consumed names = absurd consumed
live_bad fault (Some input) (Some rest) taken starts consumed names =
    names_another (Breaks (IsBadRest starts) 65536 taken) (IsFirstBadSessionLine input) fault
    (λ number breaks. subst (λ (l : List ℕ). IsFirstBadSessionLine l number) (sym consumed) (session_breaks taken rest number starts breaks)) names

-- of a session whose last line doesn't end
pub live_unended : (result : Result Bool RunFault) (known before end : Option (List ℕ)) (taken piece : List ℕ) (count : ℕ) → Consumes known before taken
    → Consumes before end (take count piece) × (count ≡ 0 → IsAtEnd end) → count ≡ 0 → IfErr result (NamesLine (Breaks IsUnended 65536 taken))
    → IfErr result (λ fault. IfSome known (λ input. NamesLine (IsFirstBadSessionLine input) fault))
live_unended (Ok wrong) known before end taken piece count first next none names = tt
live_unended (Err fault) known before end taken piece count first next none names =
    let nothing : taken ++ take count piece ≡ taken = ap (λ (n : ℕ). taken ++ take n piece) none ∙ append-nil taken in
    of_taken known end taken (λ input. NamesLine (IsFirstBadSessionLine input) fault)
    (subst (λ (l : List ℕ). Consumes known end l) nothing (Consumes-trans known before end taken (take count piece) first next.0)) (next.1 none)
    (names_another (Breaks IsUnended 65536 taken) (IsFirstBadSessionLine taken) fault (λ number breaks. session_is_unended taken number breaks) names)
