-- The command lines of the program.
use Rattle.std.specs.Prelude.{ℕ, Bool, true, false, not, ◌==◌, ◌&&◌, ◌||◌, List, [], ◌∷◌, Option, None, Some, codes, if◌then◌else◌}
use Rattle.std.specs.Str.{bytes_eq}
use Rattle.clap.specs.Simple.{App, Shape, new_rule, new_shape}
use Rattle.clap.specs.Walk.{Rule}
use Rattle.clap.specs.declared.builder.action.ArgAction.TheVariants.{Set, SetTrue}

-- whether the word asks for counts
abbrev pub is_trace : List ℕ → Bool
is_trace word = bytes_eq word (codes "--trace")

-- whether the word can name a file: it isn't empty, and doesn't begin with `-`
abbrev pub is_file : List ℕ → Bool
is_file [] = false
is_file (first ∷ rest) = not (first == 45)

-- the words, after the program's name, are a lawful command line: none, `--trace`, one that can name a file, or `--trace` and such a one
abbrev pub is_command_line : List (List ℕ) → Bool
is_command_line [] = true
is_command_line (word ∷ []) = is_trace word || is_file word
is_command_line (flag ∷ file ∷ []) = is_trace flag && is_file file
is_command_line (flag ∷ file ∷ other ∷ more) = false

-- whether the words of a lawful command line ask for counts
abbrev pub wants_trace : List (List ℕ) → Bool
wants_trace [] = false
wants_trace (word ∷ more) = is_trace word

-- the file that they name, if they name one
abbrev pub named_file : List (List ℕ) → Option (List ℕ)
named_file [] = None
named_file (word ∷ []) = if is_trace word then None else Some word
named_file (flag ∷ file ∷ more) = Some file

-- the flag
abbrev pub trace_rule : Rule
trace_rule = record (new_rule (codes "trace")) { long = Some (codes "trace"); action = Some SetTrue }

-- the file, which may be left out
abbrev pub file_rule : Rule
file_rule = record (new_rule (codes "file")) { action = Some Set }

-- a parser of nothing but words, which offers neither help nor a version
abbrev pub bare_shape : Shape
bare_shape = record (new_shape (codes "iommu-run")) { no_binary_name = true; disable_help_flag = true; disable_version_flag = true }

abbrev pub bare_command : App
bare_command = record { top = bare_shape; subs = [] }

-- what the parser of the command line reads: the flag and the file
abbrev pub program_command : App
program_command = record { top = record bare_shape { rules = trace_rule ∷ file_rule ∷ [] }; subs = [] }
