-- What the lines of a script say, with one more; and that they say one thing.
use Rattle.std.proofs.Common.{◌≡◌, ℕ, ◌+◌, Bool, true, false, cond, List, [], ◌∷◌, ◌++◌, length, Option, Some, None, ap, sym, subst, refl, ◌∙◌, arith}
use Rattle.std.specs.Prelude.{filter, IfSome}
use Rattle.std.proofs.lemmas.List.{append-nil}
use Rattle.std.proofs.lemmas.List.Elements.{filter-append}
use Rattle.std.proofs.lemmas.Option.{none-some}
use Rattle.iom_script.specs.Reading.{Reads}
use Rattle.iom_script.specs.Grammar.{is_spoken, SayEach}
use Rattle.iom_script.specs.Faults.{IsTakenAs, IsRefusedAs}
use Rattle.iom_script.proofs.ReadsLemmas.{read_holds, read_nothing}
use Rattle.iom_script.proofs.SameLemmas.{each_same, each_front}
use Rattle.iom_script.proofs.SayLemmas.{more_said, last_said}
use Rattle.iom_script.proofs.MeaningLemmas.{SayOne, HasFronts}
use Rattle.iom_hardware_script.specs.declared.script.HardwareLine.{HardwareLine}
use Rattle.iom_hardware_script.specs.declared.script.NumberedLine.{NumberedLine}
use Rattle.iom_hardware_script.specs.declared.script.HardwareScript.{HardwareScript}
use Rattle.iom_hardware_script.specs.declared.script.Setup.{Setup}
use Rattle.iom_hardware_script.specs.Grammar.{IsHardwareLine, IsFrameCount, IsSetupLine, numbered_lines, spoken_numbered, IsNumberedLine, SaysHardwareScript, SayHardware, IsHardwareScript}
use Rattle.iom_hardware_script.proofs.HardwareLineLemmas.{line_same}
use Rattle.iom_hardware_script.proofs.SetupLemmas.{setup_same}

-- a line with its number
abbrev as_number : ℕ → List ℕ → ℕ × List ℕ
as_number number line = (number, line)

-- whether it says something
abbrev speaks : ℕ × List ℕ → Bool
speaks line = is_spoken line.1

-- lines behind others go on with the numbers
numbered_on : (first : ℕ) (xs ys : List (List ℕ)) → numbered_lines first (xs ++ ys) ≡ numbered_lines first xs ++ numbered_lines (first + length xs) ys
numbered_on first [] ys = let same : first ≡ first + 0 = omega arith in ap (λ n. numbered_lines n ys) same
numbered_on first (x ∷ xs) ys =
    let same : first + 1 + length xs ≡ first + length (x ∷ xs) = omega arith in
    ap (λ t. as_number first x ∷ t) (numbered_on (first + 1) xs ys ∙ ap (λ n. numbered_lines (first + 1) xs ++ numbered_lines n ys) same)

-- the lines that say something, of some and of those behind them
spoken_on : (xs ys : List (List ℕ)) → spoken_numbered (xs ++ ys) ≡ spoken_numbered xs ++ filter speaks (numbered_lines (1 + length xs) ys)
spoken_on xs ys = ap (filter speaks) (numbered_on 1 xs ys) ∙ filter-append speaks (numbered_lines 1 xs) (numbered_lines (1 + length xs) ys)

-- a skipped line changes nothing
spoken_skips : (lines : List (List ℕ)) (line : List ℕ) → is_spoken line ≡ false → spoken_numbered (lines ++ line ∷ []) ≡ spoken_numbered lines
spoken_skips lines line skipped =
    spoken_on lines (line ∷ []) ∙ ap (λ b. spoken_numbered lines ++ cond b (as_number (1 + length lines) line ∷ []) []) skipped ∙ append-nil (spoken_numbered lines)

-- another line comes last
spoken_adds : (lines : List (List ℕ)) (line : List ℕ) (number : ℕ) → number ≡ length lines + 1 → is_spoken line ≡ true
    → spoken_numbered (lines ++ line ∷ []) ≡ spoken_numbered lines ++ as_number number line ∷ []
spoken_adds lines line number count said =
    let same : 1 + length lines ≡ number = omega (arith, count) in
    spoken_on lines (line ∷ []) ∙ ap (λ b. spoken_numbered lines ++ cond b (as_number (1 + length lines) line ∷ []) []) said
    ∙ ap (λ n. spoken_numbered lines ++ as_number n line ∷ []) same

-- the first line that says something

says_setup : (lines : List (ℕ × List ℕ)) (old new : HardwareScript) (line : ℕ × List ℕ) (setup : Setup) → SaysHardwareScript lines old → old.setup ≡ None → IsSetupLine line.1 setup
    → new.setup ≡ Some setup → new.lines ≡ old.lines → SaysHardwareScript (lines ++ line ∷ []) new
says_setup [] old new line setup say none here set others =
    (setup, set, here, subst (SayEach IsNumberedLine []) (sym (others ∙ say.1)) tt)
says_setup (l ∷ ls) old new line setup say none here set others = absurd (none-some say.0 (sym none ∙ say.1))

says_no_setup : (lines : List (ℕ × List ℕ)) (old script : HardwareScript) (line : ℕ × List ℕ) → SaysHardwareScript lines old → old.setup ≡ None → Reads None (IsSetupLine line.1)
    → SaysHardwareScript (lines ++ line ∷ []) script → ⊥
says_no_setup [] old script line say none nothing q = read_nothing (IsSetupLine line.1) q.0 nothing q.2
says_no_setup (l ∷ ls) old script line say none nothing q = none-some say.0 (sym none ∙ say.1)

-- a later line that says something

says_more : (lines : List (ℕ × List ℕ)) (old new : HardwareScript) (setup : Setup) (line : ℕ × List ℕ) (said : NumberedLine) → SaysHardwareScript lines old → old.setup ≡ Some setup
    → IsNumberedLine line said → new.setup ≡ old.setup → new.lines ≡ old.lines ++ said ∷ [] → SaysHardwareScript (lines ++ line ∷ []) new
says_more [] old new setup line said say some here set others = absurd (none-some setup (sym say.0 ∙ some))
says_more (l ∷ ls) old new setup line said say some here set others =
    (say.0, set ∙ say.1, say.2, subst (SayEach IsNumberedLine (ls ++ line ∷ [])) (sym others) (more_said IsNumberedLine ls old.lines line said say.3 here))

says_no_more : (lines : List (ℕ × List ℕ)) (old script : HardwareScript) (setup : Setup) (line : ℕ × List ℕ) → SaysHardwareScript lines old → old.setup ≡ Some setup
    → Reads None (IsHardwareLine line.1) → SaysHardwareScript (lines ++ line ∷ []) script → ⊥
says_no_more [] old script setup line say some nothing q = none-some setup (sym say.0 ∙ some)
says_no_more (l ∷ ls) old script setup line say some nothing q =
    let last = last_said IsNumberedLine ls script.lines line q.3 in read_nothing (IsHardwareLine line.1) last.0.line nothing last.1.1

-- the same, of a line in its place

pub skipped : (old : HardwareScript) (number : ℕ) (line : List ℕ) → is_spoken line ≡ false → IsTakenAs SayHardware number old line old
skipped old number line silent = λ lines count say. subst (λ ls. SaysHardwareScript ls old) (sym (spoken_skips lines line silent)) say

pub setup_taken : (old new : HardwareScript) (number : ℕ) (line : List ℕ) (setup : Setup) → is_spoken line ≡ true → old.setup ≡ None → Reads (Some setup) (IsSetupLine line)
    → new.setup ≡ Some setup → new.lines ≡ old.lines → IsTakenAs SayHardware number old line new
setup_taken old new number line setup said none reads set others = λ lines count say.
    subst (λ ls. SaysHardwareScript ls new) (sym (spoken_adds lines line number count said))
    (says_setup (spoken_numbered lines) old new (as_number number line) setup say none (read_holds (IsSetupLine line) setup reads) set others)

pub setup_refused : (old : HardwareScript) (number : ℕ) (line : List ℕ) → is_spoken line ≡ true → old.setup ≡ None → Reads None (IsSetupLine line) → IsRefusedAs SayHardware number old line
setup_refused old number line said none nothing = λ lines script count say q.
    says_no_setup (spoken_numbered lines) old script (as_number number line) say none nothing (subst (λ ls. SaysHardwareScript ls script) (spoken_adds lines line number count said) q)

pub line_taken : (old new : HardwareScript) (setup : Setup) (number : ℕ) (line : List ℕ) (more : HardwareLine) (added : NumberedLine) → is_spoken line ≡ true → old.setup ≡ Some setup
    → Reads (Some more) (IsHardwareLine line) → added.number ≡ number → added.line ≡ more → new.setup ≡ old.setup → new.lines ≡ old.lines ++ added ∷ []
    → IsTakenAs SayHardware number old line new
line_taken old new setup number line more added said some reads at is set others = λ lines count say.
    subst (λ ls. SaysHardwareScript ls new) (sym (spoken_adds lines line number count said))
    (says_more (spoken_numbered lines) old new setup (as_number number line) added say some (at, subst (IsHardwareLine line) (sym is) (read_holds (IsHardwareLine line) more reads)) set others)

pub line_refused : (old : HardwareScript) (setup : Setup) (number : ℕ) (line : List ℕ) → is_spoken line ≡ true → old.setup ≡ Some setup → Reads None (IsHardwareLine line)
    → IsRefusedAs SayHardware number old line
line_refused old setup number line said some nothing = λ lines script count say q.
    says_no_more (spoken_numbered lines) old script setup (as_number number line) say some nothing (subst (λ ls. SaysHardwareScript ls script) (spoken_adds lines line number count said) q)

-- two lines with the same parts
same_numbered : (x y : NumberedLine) → x.number ≡ y.number → x.line ≡ y.line → x ≡ y
same_numbered x y number line =
    ap (λ (n : ℕ). let l : NumberedLine = record { number = n; line = x.line } in l) number
    ∙ ap (λ (s : HardwareLine). let l : NumberedLine = record { number = y.number; line = s } in l) line

-- a line with its number says one thing
numbered_same : (l : ℕ × List ℕ) (x y : NumberedLine) → IsNumberedLine l x → IsNumberedLine l y → x ≡ y
numbered_same l x y p q = same_numbered x y (p.0 ∙ sym q.0) (line_same l.1 x.line y.line p.1 q.1)

-- two scripts with the same parts
same_script : (s t : HardwareScript) → s.setup ≡ t.setup → s.lines ≡ t.lines → s ≡ t
same_script s t setup lines =
    ap (λ (h : Option Setup). let a : HardwareScript = record { setup = h; lines = s.lines } in a) setup
    ∙ ap (λ (ls : List NumberedLine). let a : HardwareScript = record { setup = t.setup; lines = ls } in a) lines

says_same : (lines : List (ℕ × List ℕ)) (s t : HardwareScript) → SaysHardwareScript lines s → SaysHardwareScript lines t → s ≡ t
says_same [] s t p q = same_script s t (p.0 ∙ sym q.0) (p.1 ∙ sym q.1)
says_same (l ∷ ls) s t p q =
    same_script s t (p.1 ∙ ap Some (setup_same l.1 p.0 q.0 p.2 q.2) ∙ sym q.1) (each_same IsNumberedLine numbered_same ls s.lines t.lines p.3 q.3)

-- lines say one script
pub hardware_one : SayOne SayHardware
hardware_one lines s t p q = says_same (spoken_numbered lines) s t p q

says_front : (xs ys : List (ℕ × List ℕ)) (script : HardwareScript) → SaysHardwareScript (xs ++ ys) script → (front : HardwareScript) × SaysHardwareScript xs front
says_front [] ys script say = let nothing : HardwareScript = record { setup = None; lines = [] } in (nothing, (refl, refl))
says_front (x ∷ xs) ys script say =
    let others = each_front IsNumberedLine xs ys script.lines say.3 in
    let front : HardwareScript = record { setup = Some say.0; lines = others.0 } in
    (front, (say.0, refl, say.2, others.1))

-- a front of lines that say a script says one
pub hardware_fronts : HasFronts SayHardware
hardware_fronts xs ys script says =
    says_front (spoken_numbered xs) (filter speaks (numbered_lines (1 + length xs) ys)) script (subst (λ ls. SaysHardwareScript ls script) (spoken_on xs ys) says)

-- a script has memory of a size that there is

-- where there is hardware, its memory has such a size
abbrev pub HasRightSize : Option Setup → Type 0
HasRightSize setup = IfSome setup (λ hardware. IsFrameCount hardware.frames)

said_setup : (lines : List (ℕ × List ℕ)) (script : HardwareScript) → SaysHardwareScript lines script → HasRightSize script.setup
said_setup [] script says = subst HasRightSize (sym says.0) tt
said_setup (line ∷ lines) script says = subst HasRightSize (sym says.1) says.2.2

pub script_setup : (bytes : List ℕ) (script : HardwareScript) → IsHardwareScript bytes script → HasRightSize script.setup
script_setup bytes script is = said_setup (spoken_numbered is.0) script is.1.says
