-- What the parser makes of a lawful command line.
use Rattle.std.proofs.Common.{◌≡◌, ◌==◌, ◌||◌, ◌∙◌, ℕ, Bool, true, false, not, List, [], ◌∷◌, Option, Some, None, refl, sym, ap, subst, if◌then◌else◌}
use Rattle.std.specs.Prelude.{codes}
use Rattle.std.proofs.lemmas.Bool.{and_parts}
use Rattle.std.proofs.lemmas.Slice.Eq.{bytes_eq-Decides}
use Rattle.clap.specs.Lexer.{long_of, short_of}
use Rattle.clap.specs.Takes.{takes, walk_passes}
use Rattle.clap.specs.Walk.{walked, Text, first_of, one_of}
use Rattle.clap.specs.Matches.{found_of, first_value, one_text}
use Rattle.clap.specs.declared.parser.matches.ArgMatches.{ArgMatches}
use Rattle.clap.specs.Simple.{App, HasMatchesOf, matches_of, is_simple}
use Rattle.clap.proofs.WalkLemmas.{first_value-rows, one_text-rows}
use Rattle.iom_command_line.specs.CommandLine.{is_trace, is_file, is_command_line, wants_trace, named_file, program_command}

simple : is_simple program_command ≡ true
simple = refl

-- a flag as text
abbrev pub flag_text : Bool → List ℕ
flag_text false = codes "false"
flag_text true = codes "true"

-- the parser takes the words, and finds this flag and this file
pub record Finds (words : List Text) (is_set : Bool) (named : Option Text) : Type 0 where
  pub taken : takes program_command words ≡ true
  pub flag : one_of (codes "trace") (matches_of program_command words) ≡ Some (flag_text is_set)
  pub file : first_of (codes "file") (matches_of program_command words) ≡ named

long_none : (first : ℕ) (rest : List ℕ) → (first == 45) ≡ false → long_of (first ∷ rest) ≡ None
long_none first rest e = rw e refl

short_none : (first : ℕ) (rest : List ℕ) → (first == 45) ≡ false → short_of (first ∷ rest) ≡ None
short_none first rest e = rw e refl

finds_nothing : Finds [] false None
unfolding walk_passes walked
finds_nothing = record { taken = refl; flag = refl; file = refl }

finds_flag : Finds (codes "--trace" ∷ []) true None
unfolding walk_passes walked
finds_flag = record { taken = refl; flag = refl; file = refl }

finds_file : (first : ℕ) (rest : List ℕ) → (first == 45) ≡ false → Finds ((first ∷ rest) ∷ []) false (Some (first ∷ rest))
unfolding walk_passes walked
finds_file first rest e = record {
  taken = simp e refl;
  flag = rw (long_none first rest e, short_none first rest e, e) refl;
  file = rw (long_none first rest e, short_none first rest e, e) refl;
}

finds_both : (first : ℕ) (rest : List ℕ) → (first == 45) ≡ false → Finds (codes "--trace" ∷ (first ∷ rest) ∷ []) true (Some (first ∷ rest))
unfolding walk_passes walked
finds_both first rest e = record {
  taken = simp e refl;
  flag = rw (long_none first rest e, short_none first rest e, e) refl;
  file = rw (long_none first rest e, short_none first rest e, e) refl;
}

not_true : (b : Bool) → not b ≡ true → b ≡ false
not_true true e = cc
not_true false e = refl

is_flag : (word : Text) → is_trace word ≡ true → codes "--trace" ≡ word
is_flag word same = sym ((bytes_eq-Decides word (codes "--trace")).0 same)

finds_one : (word : Text) (b : Bool) → is_trace word ≡ b → b || is_file word ≡ true → Finds (word ∷ []) b (if b then None else Some word)
finds_one word true same lawful = subst (λ (w : Text). Finds (w ∷ []) true None) (is_flag word same) finds_flag
finds_one [] false other lawful = cc
finds_one (first ∷ rest) false other lawful = finds_file first rest (not_true (first == 45) lawful)

finds_two : (flag file : Text) → is_trace flag ≡ true → is_file file ≡ true → Finds (flag ∷ file ∷ []) true (Some file)
finds_two flag [] same lawful = cc
finds_two flag (first ∷ rest) same lawful =
    subst (λ (w : Text). Finds (w ∷ (first ∷ rest) ∷ []) true (Some (first ∷ rest))) (is_flag flag same) (finds_both first rest (not_true (first == 45) lawful))

finds : (words : List Text) → is_command_line words ≡ true → Finds words (wants_trace words) (named_file words)
finds [] lawful = finds_nothing
finds (word ∷ []) lawful = finds_one word (is_trace word) refl lawful
finds (flag ∷ file ∷ []) lawful =
    let parts = and_parts (is_trace flag) (is_file file) lawful in
    subst (λ b. Finds (flag ∷ file ∷ []) b (Some file)) (sym parts.0) (finds_two flag file parts.0 parts.1)
finds (flag ∷ file ∷ other ∷ more) lawful = cc

-- what a parse gives as the file
pub file_found : (app : App) (words : List Text) (matches : ArgMatches) → app ≡ program_command → is_command_line words ≡ true → HasMatchesOf app words matches
    → first_value (found_of matches) (codes "file") ≡ named_file words
file_found app words matches is lawful has =
    let rows = (subst (λ a. HasMatchesOf a words matches) is has simple).0 in
    first_value-rows (found_of matches) (codes "file") ∙ ap (first_of (codes "file")) rows ∙ (finds words lawful).file

-- and as the flag
pub flag_found : (app : App) (words : List Text) (matches : ArgMatches) → app ≡ program_command → is_command_line words ≡ true → HasMatchesOf app words matches
    → one_text (found_of matches) (codes "trace") ≡ Some (flag_text (wants_trace words))
flag_found app words matches is lawful has =
    let rows = (subst (λ a. HasMatchesOf a words matches) is has simple).0 in
    one_text-rows (found_of matches) (codes "trace") ∙ ap (one_of (codes "trace")) rows ∙ (finds words lawful).flag

-- a flag is read as it stands
pub flag_read : (text : Option (List ℕ)) (flag reply : Bool) → text ≡ Some (flag_text flag) → (text ≡ Some (codes "true") → reply ≡ true) → (text ≡ Some (codes "false") → reply ≡ false) → reply ≡ flag
flag_read text true reply is if_true if_false = if_true is
flag_read text false reply is if_true if_false = if_false is

-- the parser takes a lawful command line
pub taken : (app : App) (words : List Text) → app ≡ program_command → is_command_line words ≡ true → takes app words ≡ true
taken app words is lawful = subst (λ a. takes a words ≡ true) (sym is) (finds words lawful).taken
