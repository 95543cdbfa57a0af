-- Texts that were taken, and bytes that arrived.
use Rattle.std.proofs.Common.{◌≡◌, ◌∙◌, ℕ, ◌+◌, ◌≤◌, Result, Ok, Err, IfOk, OnOk, Bool, true, false, List, [], ◌∷◌, ◌++◌, filter, length, arith, Option, None, Some, MatchOption, refl, sym, ap, subst}
use Rattle.std.proofs.lemmas.List.{append_assoc, append-nil, length-append, length_push}
use Rattle.std.proofs.lemmas.List.Concat.{flat_map-append}
use Rattle.std.proofs.lemmas.List.Elements.{All-push, filter-append}
use Rattle.iom_hardware_runner.specs.Parts.{CameBy, MachineTakesLine, TookTexts, IsRefused, HasTakenBytes}
use Rattle.iom_hardware_runner.specs.Runs.{Comes, TextsRun, ScriptRuns}
use Rattle.iom_hardware_runner.specs.declared.faults.RunFault.{RunFault}
use Rattle.iom_hardware_runner.specs.declared.machine.Machine.{Machine}
use Rattle.iom_hardware_script.specs.declared.script.HardwareLine.{HardwareLine}
use Rattle.iom_hardware_script.specs.declared.script.Setup.{Setup}
use Rattle.iom_hardware_script.specs.Grammar.{IsSetupLine, IsHardwareLine}
use Rattle.iom_script.specs.Grammar.{SayEach, is_spoken, spoken, bytes_of_lines}
use Rattle.iom_script.specs.Cuts.{IsCut}
use Rattle.iom_script.specs.Reading.{Reads}
use Rattle.iom_script.specs.Words.{IsWithout}

-- one says something more
say_more : (texts : List (List ℕ)) (said : List HardwareLine) (text : List ℕ) (line : HardwareLine) → SayEach IsHardwareLine texts said → IsHardwareLine text line
    → SayEach IsHardwareLine (texts ++ text ∷ []) (said ++ line ∷ [])
say_more [] [] text line each is = (is, each)
say_more [] (one ∷ said) text line each is = absurd each
say_more (one ∷ texts) [] text line each is = absurd each
say_more (one ∷ texts) (other ∷ said) text line each is = (each.0, say_more texts said text line each.1 is)

-- the first line that says something
pub first_text : (text : List ℕ) (machine : Machine) (setup : Setup) → IsSetupLine text setup → CameBy setup [] machine → TookTexts (text ∷ []) (Some machine)
first_text text machine setup is came = (machine, setup, [], refl, is, tt, came)

-- one more
pub next_text : (texts : List (List ℕ)) (text : List ℕ) (line : HardwareLine) (old new : Machine) → IsHardwareLine text line → MachineTakesLine old line new → TookTexts texts (Some old)
    → TookTexts (texts ++ text ∷ []) (Some new)
next_text [] text line old new is takes took = absurd (cc)
next_text (first ∷ texts) text line old new is takes (own, setup, said, same, first_is, each, came) = (
  new,
  setup,
  said ++ line ∷ [],
  refl,
  first_is,
  say_more texts said text line each is,
  takes setup said (subst (λ (m : Machine). CameBy setup said m) (sym (inside same)) came),
)
  where
    inside : Some old ≡ Some own → old ≡ own
    inside e = cc

-- nothing was taken where there is no machine
pub none_taken : (texts : List (List ℕ)) → TookTexts texts None → texts ≡ []
none_taken [] took = refl
none_taken (first ∷ texts) (own, setup, said, same, is, each, came) = absurd (cc)

-- lines that say something, and one more
pub spoken_more : (texts : List (List ℕ)) (text : List ℕ) → is_spoken text ≡ true → spoken (texts ++ text ∷ []) ≡ spoken texts ++ text ∷ []
spoken_more texts text is = filter-append is_spoken texts (text ∷ []) ∙ ap (λ (l : List (List ℕ)). spoken texts ++ l) (alone text is)
  where
    alone : (t : List ℕ) → is_spoken t ≡ true → filter is_spoken (t ∷ []) ≡ t ∷ []
    alone t e = rw e refl

pub spoken_same : (texts : List (List ℕ)) (text : List ℕ) → is_spoken text ≡ false → spoken (texts ++ text ∷ []) ≡ spoken texts
spoken_same texts text is = filter-append is_spoken texts (text ∷ []) ∙ ap (λ (l : List (List ℕ)). spoken texts ++ l) (alone text is) ∙ append-nil (spoken texts)
  where
    alone : (t : List ℕ) → is_spoken t ≡ false → filter is_spoken (t ∷ []) ≡ []
    alone t e = rw e refl

-- BYTES

pub without_both : (front rest : List ℕ) → IsWithout 10 front → IsWithout 10 rest → IsWithout 10 (front ++ rest)
without_both [] rest none others = others
without_both (first ∷ front) rest (none, later) others = (none, without_both front rest later others)

-- a piece grows
pub piece_grows : (most : ℕ) (bytes piece part : List ℕ) (count : ℕ) (machine : Option Machine) → IsWithout 10 part → HasTakenBytes most bytes piece count machine
    → HasTakenBytes most (bytes ++ part) (piece ++ part) count machine
piece_grows most bytes piece part count machine none (texts, whole, short, free, is, counted, took) =
    (texts, whole, short, without_both piece part free none, ap (λ (l : List ℕ). l ++ part) is ∙ append_assoc (bytes_of_lines texts) piece part, counted, took)

-- a line ends
pub line_ends : (most : ℕ) (bytes piece part : List ℕ) (count next : ℕ) (old new : Option Machine) → IsWithout 10 part → length piece + length part ≤ most → next ≡ count + 1
    → HasTakenBytes most bytes piece count old → ((texts : List (List ℕ)) → TookTexts (spoken texts) old → TookTexts (spoken (texts ++ (piece ++ part) ∷ [])) new)
    → HasTakenBytes most (bytes ++ part ++ 10 ∷ []) [] next new
line_ends most bytes piece part count next old new none fits follows (texts, whole, short, free, is, counted, took) takes = (
  texts ++ (piece ++ part) ∷ [],
  All-push (IsWithout 10) texts (piece ++ part) whole (without_both piece part free none),
  All-push (λ (text : List ℕ). length text ≤ most) texts (piece ++ part) short (omega (arith, fits, length-append piece part)),
  tt,
  long,
  omega (arith, follows, counted, length_push texts (piece ++ part)),
  takes texts took,
)
  where
    long : bytes ++ part ++ 10 ∷ [] ≡ bytes_of_lines (texts ++ (piece ++ part) ∷ []) ++ []
    long =
        ap (λ (l : List ℕ). l ++ part ++ 10 ∷ []) is
        ∙ ap (λ (l : List ℕ). l ++ 10 ∷ []) (append_assoc (bytes_of_lines texts) piece part)
        ∙ append_assoc (bytes_of_lines texts) (piece ++ part) (10 ∷ [])
        ∙ ap (λ (l : List ℕ). bytes_of_lines texts ++ l) (sym (append-nil ((piece ++ part) ++ 10 ∷ [])))
        ∙ sym (flat_map-append (λ (line : List ℕ). line ++ 10 ∷ []) texts ((piece ++ part) ∷ []))
        ∙ sym (append-nil (bytes_of_lines (texts ++ (piece ++ part) ∷ [])))

pub line_ends_ok : (most : ℕ) (bytes piece part : List ℕ) (count next : ℕ) (old new : Option Machine) (result : Result (Unit {0}) RunFault) → IsWithout 10 part
    → length piece + length part ≤ most → OnOk result (next ≡ count + 1) → HasTakenBytes most bytes piece count old
    → ((texts : List (List ℕ)) → TookTexts (spoken texts) old → OnOk result (TookTexts (spoken (texts ++ (piece ++ part) ∷ [])) new))
    → OnOk result (HasTakenBytes most (bytes ++ part ++ 10 ∷ []) [] next new)
line_ends_ok most bytes piece part count next old new (Ok done) none fits follows taken takes = line_ends most bytes piece part count next old new none fits follows taken takes
line_ends_ok most bytes piece part count next old new (Err why) none fits follows taken takes = tt

-- all that arrived was run
pub whole_runs : (most : ℕ) (bytes : List ℕ) (count : ℕ) (machine : Option Machine) (wrong : Bool) → MatchOption machine (wrong ≡ false) (λ own. wrong ≡ own.teller.is_wrong)
    → HasTakenBytes most bytes [] count machine → ScriptRuns bytes wrong
whole_runs most bytes count machine wrong is (texts, whole, short, free, same, counted, took) = (texts, whole, same ∙ append-nil (bytes_of_lines texts), by (spoken texts) machine is took)
  where
    by : (said : List (List ℕ)) (m : Option Machine) → MatchOption m (wrong ≡ false) (λ own. wrong ≡ own.teller.is_wrong) → TookTexts said m → TextsRun said wrong
    by [] m e none = subst (λ (o : Option Machine). MatchOption o (wrong ≡ false) (λ own. wrong ≡ own.teller.is_wrong)) none e
    by (first ∷ rest) m e (own, setup, lines, there, first_is, each, came) =
        let same_wrong = subst (λ (o : Option Machine). MatchOption o (wrong ≡ false) (λ own. wrong ≡ own.teller.is_wrong)) there e in (
          setup,
          lines,
          own.teller.session,
          came.claimed,
          own.helper.traffic.items,
          first_is,
          each,
          subst (λ (b : Bool). Comes setup lines own.teller.session came.claimed own.helper.traffic.items b) (sym same_wrong) came.comes,
        )

-- the machine answered: it took the line, where it is in the grammar
pub answered_text : (texts : List (List ℕ)) (text : List ℕ) (old new : Machine) (result : Result Bool RunFault)
    → IfOk result (λ taken. taken ≡ true → (next : HardwareLine) × IsHardwareLine text next × MachineTakesLine old next new)
    → TookTexts texts (Some old) → IfOk result (λ taken. taken ≡ true → TookTexts (texts ++ text ∷ []) (Some new))
answered_text texts text old new (Ok taken) takes took = λ is. let (next, says, then) = takes is in next_text texts text next old new says then took
answered_text texts text old new (Err why) takes took = takes

-- there is no machine yet, and the line asks for none
pub refused_answer : (text : List ℕ) (machine : Option Machine) (result : Result Bool RunFault) → machine ≡ None → is_spoken text ≡ true
    → IfOk result (λ taken. taken ≡ false → Reads None (IsSetupLine text)) → IfOk result (λ taken. taken ≡ false → IsRefused machine text)
refused_answer text machine (Ok taken) none speaks refuses = λ is. subst (λ (m : Option Machine). IsRefused m text) (sym none) (speaks, refuses is)
refused_answer text machine (Err why) none speaks refuses = tt

pub spoken_answer : (texts : List (List ℕ)) (text : List ℕ) (new : Option Machine) (result : Result Bool RunFault) → is_spoken text ≡ true
    → IfOk result (λ taken. taken ≡ true → TookTexts (spoken texts ++ text ∷ []) new) → IfOk result (λ taken. taken ≡ true → TookTexts (spoken (texts ++ text ∷ [])) new)
spoken_answer texts text new result is took =
    subst (λ (l : List (List ℕ)). IfOk result (λ taken. taken ≡ true → TookTexts l new)) (sym (spoken_more texts text is)) took

-- a line of a script, up to its line feed, and what follows
pub cut_parts : (rest line after : List ℕ) → Reads {X = List ℕ × List ℕ} (Some (line, after)) (λ parts. IsCut rest 10 parts.0 parts.1) → IsCut rest 10 line after
cut_parts rest line after reads = (reads (line, after)).0 refl

pub goes_further : (bytes front rest line after : List ℕ) → bytes ≡ front ++ rest → IsCut rest 10 line after → bytes ≡ (front ++ line ++ 10 ∷ []) ++ after
goes_further bytes front rest line after is (none, cut) =
    is ∙ ap (λ (l : List ℕ). front ++ l) cut ∙ sym (append_assoc front line (10 ∷ after)) ∙ sym (append_assoc (front ++ line) (10 ∷ []) after)

pub nothing_in : (list : List ℕ) → length list ≡ 0 → list ≡ []
nothing_in [] none = refl
nothing_in (first ∷ rest) none = absurd (omega (arith, none))

pub grouped : (a b c d : List ℕ) → ((a ++ b) ++ c) ++ d ≡ a ++ ((b ++ c) ++ d)
grouped a b c d = ap (λ (l : List ℕ). l ++ d) (append_assoc a b c) ∙ append_assoc a (b ++ c) d

-- the rest is a piece of a line
pub kept_ok : (most : ℕ) (bytes piece part new_piece : List ℕ) (count : ℕ) (machine : Option Machine) (result : Result (Unit {0}) RunFault) → IsWithout 10 part
    → HasTakenBytes most bytes piece count machine → OnOk result (new_piece ≡ piece ++ part) → OnOk result (HasTakenBytes most (bytes ++ part) new_piece count machine)
kept_ok most bytes piece part new_piece count machine (Ok done) none taken is =
    subst (λ (p : List ℕ). HasTakenBytes most (bytes ++ part) p count machine) (sym is) (piece_grows most bytes piece part count machine none taken)
kept_ok most bytes piece part new_piece count machine (Err why) none taken is = tt
