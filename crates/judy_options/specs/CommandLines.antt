-- What a command line asks for, by clap's written meaning of its words.
use Rattle.std.specs.Prelude.{◌≢◌, ℕ, List, [], ◌∷◌, false, true, if◌then◌else◌, Option, Some, None, codes}
use Rattle.std.specs.Str.Parse.{digits_value, without_leading_plus}
use Rattle.clap.specs.Words.{App, IsAmong, Kinds, Rule, Text, fault_of, first_of, matches_of, new_app, new_rule, with_rule}
use Rattle.clap.specs.Simple.{on_top}
use Rattle.clap.specs.ValueTests.{accepts}
use Rattle.clap.specs.declared.builder.value_parser.ValueParser.{ValueParser}
use Rattle.clap.specs.declared.builder.value_parser.ValueParser.TheVariants.{Unsigned}
use Rattle.clap.specs.declared.error.kind.ErrorKind.{ErrorKind}
use Rattle.clap.specs.declared.error.kind.ErrorKind.TheVariants as kind
use Rattle.judy_options.specs.declared.not_taken.NotTaken.{NotTaken}
use Rattle.judy_options.specs.declared.not_taken.NotTaken.TheVariants as refusal

-- An option of this name, whose value is a file.
abbrev pub option_rule : Text → Rule
option_rule name = record (new_rule name) { long = Some name; value_names = 1 }

-- The formats are 1 and 2.
abbrev pub format_parser : ValueParser
format_parser = Unsigned 1 2

-- The option whose value is a format, the first where it isn't given.
abbrev pub format_rule : Rule
format_rule = record (new_rule (codes "format")) {
  long = Some (codes "format");
  value_names = 1;
  defaults = codes "1" ∷ [];
  parser = Some format_parser;
}

-- The one word without a name, the script.
abbrev pub script_rule : Rule
script_rule = record (new_rule (codes "script")) { value_names = 1 }

-- The program, which has a version: so clap gives it the option `--version`, as it gives every program `--help`.
abbrev pub program : App
program = on_top (λ shape. record shape { has_version = true }) (new_app (codes "judystore"))

-- The program with the options whose values are files.
abbrev pub file_options : App
file_options = with_rule (with_rule program (option_rule (codes "load"))) (option_rule (codes "dump"))

-- The program's command line.
abbrev pub command_line : App
command_line = with_rule (with_rule file_options format_rule) script_rule

-- The value that the words give an option or the script, if any.
abbrev pub value_of : Text → List Text → Option Text
value_of name words = first_of name (matches_of command_line words)

-- The number of a format that a text spells, and 1 where it spells none. The words are taken only with such a number.
abbrev pub format_of_text : Text → ℕ
format_of_text text = if accepts false format_parser text then digits_value 10 (without_leading_plus text) else 1

-- The same of a value, and 1 without one.
abbrev pub format_given : Option Text → ℕ
format_given None = 1
format_given (Some text) = format_of_text text

-- What is wrong with the words, and nothing where they are taken.
abbrev pub refusals : List Text → Kinds
refusals = fault_of command_line

-- Why words aren't taken: they ask for help, or for the version, or something else is wrong with them; or there was no
-- memory to read them.
abbrev pub IsRefused : Kinds → NotTaken → Type 0
IsRefused kinds (refusal.Help text) = IsAmong kind.DisplayHelp kinds
IsRefused kinds refusal.Version = IsAmong kind.DisplayVersion kinds
IsRefused kinds (refusal.BadWords text) =
    (wrong : ErrorKind) × IsAmong wrong kinds × (wrong ≢ kind.DisplayHelp) × (wrong ≢ kind.DisplayVersion)
IsRefused kinds refusal.NoMemory = Unit {0}
