-- Where bytes stop being lines of the grammar, and which line is told then.
use Rattle.std.proofs.Common.{◌≡◌, ◌∙◌, ℕ, ◌+◌, ◌<◌, ◌≤◌, inl, inr, Bool, true, false, cond, List, [], ◌∷◌, ◌++◌, map, get_or, length, arith, Option, None, Some, Result, Ok, Err, IfErr, IsErrAnd, refl, sym, ap, subst}
use Rattle.std.specs.Prelude.{filter, ⊤}
use Rattle.std.specs.List.{All}
use Rattle.std.proofs.lemmas.List.{append_assoc, append-nil, length-append, length_push, get_or_push}
use Rattle.std.proofs.lemmas.List.Elements.{All-get_or}
use Rattle.iom_hardware_runner.proofs.TextLemmas.{without_both, spoken_more}
use Rattle.iom_hardware_runner.specs.Parts.{TookTexts, HasTakenBytes, IsRefused, IsBadLine, Breaks, IsBadRest, IsUnended, NamesNext, NamesNone}
use Rattle.iom_hardware_runner.specs.Runs.{NamesLine, IsFirstBadSessionLine}
use Rattle.iom_hardware_runner.specs.declared.conversation.Conversation.{Conversation}
use Rattle.iom_hardware_runner.specs.declared.faults.RunFault.{RunFault}
use Rattle.iom_hardware_runner.specs.declared.faults.RunFault.TheVariants.{BadScript, Reading, Writing, Memory, TooManyEvents}
use Rattle.iom_hardware_runner.specs.declared.machine.Machine.{Machine}
use Rattle.iom_hardware_script.specs.declared.script.HardwareLine.{HardwareLine}
use Rattle.iom_hardware_script.specs.declared.script.HardwareScript.{HardwareScript}
use Rattle.iom_hardware_script.specs.declared.script.NumberedLine.{NumberedLine}
use Rattle.iom_hardware_script.specs.declared.script.Setup.{Setup}
use Rattle.iom_hardware_script.specs.Grammar.{IsSetupLine, IsHardwareLine, IsNumberedLine, numbered_lines, spoken_numbered, SaysHardwareScript, SayHardware, IsFirstBadHardwareLine}
use Rattle.iom_script.proofs.CutLemmas.{cut_is_one, cut_has_separator}
use Rattle.iom_script.proofs.ReadsLemmas.{read_nothing}
use Rattle.iom_script.proofs.SayLemmas.{last_said}
use Rattle.iom_script.specs.Grammar.{SayEach, is_spoken, spoken, bytes_of_lines}
use Rattle.iom_script.specs.Words.{IsWithout}

-- WHAT THE LINES SO FAR SAY

abbrev text_of : ℕ × List ℕ → List ℕ
text_of line = line.1

speaking : (b : Bool) (line : ℕ × List ℕ) (rest : List (ℕ × List ℕ)) (others : List (List ℕ)) → map text_of rest ≡ others
    → map text_of (cond b (line ∷ rest) rest) ≡ cond b (line.1 ∷ others) others
speaking true line rest others same = ap (λ (l : List (List ℕ)). line.1 ∷ l) same
speaking false line rest others same = same

-- the lines that say something, with their numbers or without
spoken_texts : (first : ℕ) (texts : List (List ℕ)) → map text_of (filter (λ (line : ℕ × List ℕ). is_spoken line.1) (numbered_lines first texts)) ≡ spoken texts
spoken_texts first [] = refl
spoken_texts first (text ∷ texts) =
    speaking (is_spoken text) (first, text) (filter (λ (line : ℕ × List ℕ). is_spoken line.1) (numbered_lines (first + 1) texts)) (spoken texts) (spoken_texts (first + 1) texts)

each_numbered : (all : List (ℕ × List ℕ)) (said : List HardwareLine) → SayEach IsHardwareLine (map text_of all) said → (lines : List NumberedLine) × SayEach IsNumberedLine all lines
each_numbered [] said each = ([], tt)
each_numbered (one ∷ all) [] each = absurd each
each_numbered (one ∷ all) (first ∷ said) each =
    let others = each_numbered all said each.1 in
    let line : NumberedLine = record { number = one.0; line = first } in
    (line ∷ others.0, ((refl, each.0), others.1))

says_all : (all : List (ℕ × List ℕ)) (machine : Option Machine) → TookTexts (map text_of all) machine → (script : HardwareScript) × SaysHardwareScript all script
says_all [] machine none = let nothing : HardwareScript = record { setup = None; lines = [] } in (nothing, (refl, refl))
says_all (one ∷ all) machine (own, setup, said, same, is, each, came) =
    let others = each_numbered all said each in
    let script : HardwareScript = record { setup = Some setup; lines = others.0 } in
    (script, (setup, refl, is, others.1))

says_texts : (texts : List (List ℕ)) (machine : Option Machine) → TookTexts (spoken texts) machine → (script : HardwareScript) × SayHardware texts script
says_texts texts machine took = says_all (spoken_numbered texts) machine (subst (λ (l : List (List ℕ)). TookTexts l machine) (sym (spoken_texts 1 texts)) took)

-- and where they say a script, each of those says its own
each_text : (all : List (ℕ × List ℕ)) (lines : List NumberedLine) → SayEach IsNumberedLine all lines → (said : List HardwareLine) × SayEach IsHardwareLine (map text_of all) said
each_text [] lines each = ([], tt)
each_text (one ∷ all) [] each = absurd each
each_text (one ∷ all) (line ∷ lines) each = let others = each_text all lines each.1 in (line.line ∷ others.0, (each.0.1, others.1))

abbrev TextsSay : List (List ℕ) → Type 0
TextsSay [] = ⊤
TextsSay (first ∷ texts) = (setup : Setup) × (said : List HardwareLine) × IsSetupLine first setup × SayEach IsHardwareLine texts said

texts_say : (all : List (ℕ × List ℕ)) (script : HardwareScript) → SaysHardwareScript all script → TextsSay (map text_of all)
texts_say [] script says = tt
texts_say (one ∷ all) script (setup, there, is, each) = let others = each_text all script.lines each in (setup, others.0, is, others.1)

speaks_refused : (machine : Option Machine) (line : List ℕ) → IsRefused machine line → is_spoken line ≡ true
speaks_refused None line refused = refused.0
speaks_refused (Some machine) line refused = refused.0

-- what is refused doesn't come behind them
refused_last : (texts : List (List ℕ)) (line : List ℕ) (machine : Option Machine) → TookTexts texts machine → IsRefused machine line → TextsSay (texts ++ line ∷ []) → ⊥
refused_last [] line machine none refused (setup, said, is, each) =
    let nothing = subst (λ (m : Option Machine). IsRefused m line) none refused in read_nothing (IsSetupLine line) setup nothing.1 is
refused_last (first ∷ texts) line machine (own, setup, said, same, is, each, came) refused (other, more, other_is, all) =
    let nothing = subst (λ (m : Option Machine). IsRefused m line) same refused in
    let last = last_said IsHardwareLine texts more line all in read_nothing (IsHardwareLine line) last.0 nothing.1 last.1

refused_text : (texts : List (List ℕ)) (line : List ℕ) (machine : Option Machine) → TookTexts (spoken texts) machine → IsRefused machine line
    → (script : HardwareScript) → ¬ SayHardware (texts ++ line ∷ []) script
refused_text texts line machine took refused script = λ says.
    refused_last (spoken texts) line machine took refused
    (subst (λ (l : List (List ℕ)). TextsSay l) (spoken_texts 1 (texts ++ line ∷ []) ∙ spoken_more texts line (speaks_refused machine line refused))
    (texts_say (spoken_numbered (texts ++ line ∷ [])) script says))

-- WHERE THEY BREAK

pub line_breaks : (most : ℕ) (all before piece line after : List ℕ) (count number : ℕ) (machine : Option Machine) (starts : Type 0) → (starts → piece ≡ []) → all ≡ before ++ (line ++ 10 ∷ after)
    → IsWithout 10 line → HasTakenBytes most before piece count machine → number ≡ count + 1 → IsBadLine machine piece line
    → Breaks (IsBadRest starts) most all number
line_breaks most all before piece line after count number machine starts clear is none (texts, whole, short, free, place, counted, took) next bad = record {
  texts = texts;
  rest = piece ++ (line ++ 10 ∷ after);
  whole = whole;
  short = short;
  says = says_texts texts machine took;
  place = is ∙ ap (λ (l : List ℕ). l ++ (line ++ 10 ∷ after)) place ∙ append_assoc (bytes_of_lines texts) piece (line ++ 10 ∷ after);
  count = next ∙ ap (λ (n : ℕ). n + 1) counted;
  bad = by bad;
}
  where
    cut : piece ++ (line ++ 10 ∷ after) ≡ (piece ++ line) ++ 10 ∷ after
    cut = sym (append_assoc piece line (10 ∷ after))

    by : IsBadLine machine piece line → IsBadRest starts texts (piece ++ (line ++ 10 ∷ after))
    by (inl refused) = inl (piece ++ line, after, cut, without_both piece line free none, refused_text texts (piece ++ line) machine took refused)
    by (inr (some, long)) =
        inr (piece ++ line, 10 ∷ after, cut, without_both piece line free none, omega (arith, long, length-append piece line), λ now. absurd (omega (arith, some, ap length (clear now))))

pub piece_breaks : (most : ℕ) (all before piece part : List ℕ) (count number : ℕ) (machine : Option Machine) (starts : Type 0) → all ≡ before ++ part
    → IsWithout 10 part → HasTakenBytes most before piece count machine → (number ≡ count + 1) × (65536 < length piece + length part) → Breaks (IsBadRest starts) most all number
piece_breaks most all before piece part count number machine starts is none (texts, whole, short, free, place, counted, took) (next, long) = record {
  texts = texts;
  rest = piece ++ part;
  whole = whole;
  short = short;
  says = says_texts texts machine took;
  place = is ∙ ap (λ (l : List ℕ). l ++ part) place ∙ append_assoc (bytes_of_lines texts) piece part;
  count = next ∙ ap (λ (n : ℕ). n + 1) counted;
  bad = inr (piece ++ part, [], sym (append-nil (piece ++ part)), without_both piece part free none, omega (arith, long, length-append piece part), λ now. refl);
}

pub piece_is_left : (most : ℕ) (bytes piece : List ℕ) (count number : ℕ) (machine : Option Machine) → 0 < length piece → HasTakenBytes most bytes piece count machine → number ≡ count + 1
    → Breaks IsUnended most bytes number
piece_is_left most bytes piece count number machine some (texts, whole, short, free, place, counted, took) next = record {
  texts = texts;
  rest = piece;
  whole = whole;
  short = short;
  says = says_texts texts machine took;
  place = place;
  count = next ∙ ap (λ (n : ℕ). n + 1) counted;
  bad = (free, some);
}

-- WHAT A FAULT NAMES

pub names_another : (P Q : ℕ → Type 0) (fault : RunFault) → ((number : ℕ) → P number → Q number) → NamesLine P fault → NamesLine Q fault
names_another P Q (BadScript number) so names = so number names
names_another P Q Reading so names = tt
names_another P Q Writing so names = tt
names_another P Q Memory so names = tt
names_another P Q TooManyEvents so names = tt

-- what is so anyway is so of each
pub names_any : (P : Type 0) (fault : RunFault) → P → NamesLine (λ number. P) fault
names_any P (BadScript number) so = so
names_any P Reading so = tt
names_any P Writing so = tt
names_any P Memory so = tt
names_any P TooManyEvents so = tt

pub names_nothing : (Q : ℕ → Type 0) (fault : RunFault) → NamesNone fault → NamesLine Q fault
names_nothing Q fault none = names_another (λ number. ⊥) Q fault (λ number never. absurd never) none

-- a piece isn't kept
pub piece_refused : (most : ℕ) (all before piece part : List ℕ) (count : ℕ) (machine : Option Machine) (starts : Type 0) (result : Result (Unit {0}) RunFault) → all ≡ before ++ part
    → IsWithout 10 part → HasTakenBytes most before piece count machine → IfErr result (NamesNext count (65536 < length piece + length part))
    → IfErr result (NamesLine (Breaks (IsBadRest starts) most all))
piece_refused most all before piece part count machine starts (Ok done) is none taken names = tt
piece_refused most all before piece part count machine starts (Err fault) is none taken names =
    names_another (λ number. (number ≡ count + 1) × (65536 < length piece + length part)) (Breaks (IsBadRest starts) most all) fault
    (λ number long. piece_breaks most all before piece part count number machine starts is none taken long) names

-- a `?` passes a fault on
pub passes_on : {X : Type 0} (result : Result X RunFault) (Q : RunFault → Type 0) (fault : RunFault) → IsErrAnd result (λ other. other ≡ fault) → Q fault → IfErr result Q
passes_on {X} (Ok x) Q fault is so = absurd is
passes_on {X} (Err other) Q fault is so = subst Q (sym is) so

-- a whole line is refused, and no piece of it had come
pub whole_refused : (result : Result (Unit {0}) RunFault) (count : ℕ) (machine : Option Machine) (piece line : List ℕ) → piece ≡ [] → IfErr result (NamesNext count (IsRefused machine line))
    → IfErr result (NamesNext count (IsBadLine machine piece line))
whole_refused (Ok done) count machine piece line none names = tt
whole_refused (Err fault) count machine piece line none names =
    names_another (λ number. (number ≡ count + 1) × IsRefused machine line) (λ number. (number ≡ count + 1) × IsBadLine machine piece line) fault
    (λ number is. (is.0, inl (subst (λ (p : List ℕ). IsRefused machine (p ++ line)) (sym none) is.1))) names

-- it is refused behind its pieces
pub refused : (fault : RunFault) (old kept : Conversation) (piece part line : List ℕ) → kept ≡ old → line ≡ piece ++ part → NamesNext kept.lines (IsRefused kept.machine line) fault
    → NamesNext old.lines (IsBadLine old.machine piece part) fault
refused fault old kept piece part line same is names =
    names_another (λ number. (number ≡ old.lines + 1) × IsRefused old.machine (piece ++ part)) (λ number. (number ≡ old.lines + 1) × IsBadLine old.machine piece part) fault (λ number so. (so.0, inl so.1))
    (subst (λ (v : Conversation). NamesNext v.lines (IsRefused v.machine (piece ++ part)) fault) same (subst (λ (l : List ℕ). NamesNext kept.lines (IsRefused kept.machine l) fault) is names))

-- or its pieces have too many bytes
pub too_long : (fault : RunFault) (count : ℕ) (machine : Option Machine) (piece part : List ℕ) → 0 < length piece → NamesNext count (65536 < length piece + length part) fault
    → NamesNext count (IsBadLine machine piece part) fault
too_long fault count machine piece part some names =
    names_another (λ number. (number ≡ count + 1) × (65536 < length piece + length part)) (λ number. (number ≡ count + 1) × IsBadLine machine piece part) fault
    (λ number is. (is.0, inr (some, is.1))) names

-- THE FIRST BAD LINE

last_of : (P : List ℕ → Type 0) (lines : List (List ℕ)) (line : List ℕ) → All P (lines ++ line ∷ []) → P line
last_of P lines line all =
    subst P (get_or_push lines line [] (length lines) refl) (All-get_or P (lines ++ line ∷ []) (length lines) [] (omega (arith, length_push lines line)) all)

-- where a line feed stands early, it stands in the front
stands_in_front : (front more line after : List ℕ) → front ++ more ≡ line ++ 10 ∷ after → length line < length front → IsWithout 10 front → ⊥
stands_in_front [] more line after e short without = omega (arith, short)
stands_in_front (b ∷ bs) more [] after e short without = without.0 (ap (λ (t : List ℕ). get_or t 0 0) e)
stands_in_front (b ∷ bs) more (l ∷ ls) after e short without = stands_in_front bs more ls after (let tails : bs ++ more ≡ ls ++ 10 ∷ after = cc in tails) (omega (arith, short)) without.1

some_is_left : (starts : Type 0) (texts : List (List ℕ)) (rest : List ℕ) → IsBadRest starts texts rest → 0 < length rest
some_is_left starts texts rest (inl (line, after, is, free, refused)) = omega (arith, ap length is, length-append line (10 ∷ after))
some_is_left starts texts rest (inr (line, after, is, free, long, ends)) = omega (arith, ap length is, long, length-append line after)

-- a script breaks there
pub script_breaks : (most : ℕ) (bytes : List ℕ) (number : ℕ) (starts : Type 0) → starts → length bytes ≤ 1048576 → Breaks (IsBadRest starts) most bytes number → IsFirstBadHardwareLine bytes number
script_breaks most bytes number starts now few breaks = (
  breaks.texts,
  breaks.rest,
  record {
    before = (breaks.says.0, record { whole = breaks.whole; short = omega (arith, few, ap length breaks.place, length-append (bytes_of_lines breaks.texts) breaks.rest); says = breaks.says.1 });
    place = breaks.place;
    more = some_is_left starts breaks.texts breaks.rest breaks.bad;
    bad = λ other behind script e made. by breaks.bad other behind script e (last_of (IsWithout 10) breaks.texts other made.whole) made.says;
  },
  breaks.count,
)
  where
    by : IsBadRest starts breaks.texts breaks.rest → (other behind : List ℕ) (script : HardwareScript) → breaks.rest ≡ other ++ 10 ∷ behind → IsWithout 10 other
        → ¬ SayHardware (breaks.texts ++ other ∷ []) script
    by (inl (line, after, is, free, refused)) other behind script e without = λ says.
        let same = cut_is_one 10 line other after behind free without (sym is ∙ e) in
        refused script (subst (λ (l : List ℕ). SayHardware (breaks.texts ++ l ∷ []) script) (sym same.0) says)
    by (inr (line, after, is, free, long, ends)) other behind script e without = λ says.
        let all : breaks.rest ≡ line = is ∙ ap (λ (l : List ℕ). line ++ l) (ends now) ∙ append-nil line in
        cut_has_separator 10 line other behind free (sym all ∙ e)

pub script_is_unended : (most : ℕ) (bytes : List ℕ) (number : ℕ) → length bytes ≤ 1048576 → Breaks IsUnended most bytes number → IsFirstBadHardwareLine bytes number
script_is_unended most bytes number few breaks = (
  breaks.texts,
  breaks.rest,
  record {
    before = (breaks.says.0, record { whole = breaks.whole; short = omega (arith, few, ap length breaks.place, length-append (bytes_of_lines breaks.texts) breaks.rest); says = breaks.says.1 });
    place = breaks.place;
    more = breaks.bad.1;
    bad = λ other behind script e made. cut_has_separator 10 breaks.rest other behind breaks.bad.0 e;
  },
  breaks.count,
)

-- a session breaks there, whatever comes behind
pub session_breaks : (bytes more : List ℕ) (number : ℕ) (starts : Type 0) → Breaks (IsBadRest starts) 65536 bytes number → IsFirstBadSessionLine (bytes ++ more) number
session_breaks bytes more number starts breaks = (
  breaks.texts,
  breaks.rest ++ more,
  record {
    before = (breaks.says.0, record { whole = breaks.whole; short = breaks.short; says = breaks.says.1 });
    place = ap (λ (l : List ℕ). l ++ more) breaks.place ∙ append_assoc (bytes_of_lines breaks.texts) breaks.rest more;
    more = omega (arith, some_is_left starts breaks.texts breaks.rest breaks.bad, length-append breaks.rest more);
    bad = λ other behind script e made.
        by breaks.bad other behind script e (last_of (IsWithout 10) breaks.texts other made.whole) (last_of (λ (line : List ℕ). length line ≤ 65536) breaks.texts other made.short) made.says;
  },
  breaks.count,
)
  where
    by : IsBadRest starts breaks.texts breaks.rest → (other behind : List ℕ) (script : HardwareScript) → breaks.rest ++ more ≡ other ++ 10 ∷ behind → IsWithout 10 other
        → length other ≤ 65536 → ¬ SayHardware (breaks.texts ++ other ∷ []) script
    by (inl (line, after, is, free, refused)) other behind script e without fits = λ says.
        let same = cut_is_one 10 line other (after ++ more) behind free without (sym (append_assoc line (10 ∷ after) more) ∙ ap (λ (l : List ℕ). l ++ more) (sym is) ∙ e) in
        refused script (subst (λ (l : List ℕ). SayHardware (breaks.texts ++ l ∷ []) script) (sym same.0) says)
    by (inr (line, after, is, free, long, ends)) other behind script e without fits = λ says.
        stands_in_front line (after ++ more) other behind (sym (append_assoc line after more) ∙ ap (λ (l : List ℕ). l ++ more) (sym is) ∙ e) (omega (arith, long, fits)) free

pub session_is_unended : (bytes : List ℕ) (number : ℕ) → Breaks IsUnended 65536 bytes number → IsFirstBadSessionLine bytes number
session_is_unended bytes number breaks = (
  breaks.texts,
  breaks.rest,
  record {
    before = (breaks.says.0, record { whole = breaks.whole; short = breaks.short; says = breaks.says.1 });
    place = breaks.place;
    more = breaks.bad.1;
    bad = λ other behind script e made. cut_has_separator 10 breaks.rest other behind breaks.bad.0 e;
  },
  breaks.count,
)
