-- The arguments that several commands take, and the errors for words that ask for no command, by `clap`'s meaning of a
-- simple command.
use Rattle.std.specs.Prelude.{◌≡◌, ◌≤◌, ◌⊎◌, ℕ, pos, true, false, List, [], ◌∷◌, codes, Some, Ok}
use Rattle.std.specs.Str.Parse.{ParsesUnsigned}
use Rattle.std.specs.declared.num.ParseIntError.{ParseIntError}
use Rattle.clap.specs.Words.{App, Row, Rule, Text, one_of, kind_of, new_rule}
use Rattle.clap.specs.Words.{subcommand_of, takes}
use Rattle.clap.specs.Faults.{fault_of}
use Rattle.clap.specs.Kinds.{IsAmong}
use Rattle.clap.specs.Lexer.{usize_max}
use Rattle.clap.specs.declared.builder.value_parser.ValueParser.TheVariants as vp
use Rattle.clap.specs.declared.error.Error.{Error}
use Rattle.clap.specs.declared.error.ErrorKind.{ErrorKind}
use Rattle.clap.specs.declared.error.ErrorKind.TheVariants.{InvalidValue, MissingRequiredArgument, OutOfMemory, ValueValidation}

-- a required positional word
abbrev pub required_word : Text → Rule
required_word id = record (new_rule id) { required = true }

-- a required option `--id`
abbrev pub required_option : Text → Rule
required_option id = record (new_rule id) { long = Some id; required = true }

-- --workers N, from 1 to 16 and by default 2
abbrev pub workers_rule : Rule
workers_rule = record (new_rule (codes "workers")) {
  long = Some (codes "workers");
  defaults = codes "2" ∷ [];
  parser = Some (vp.Signed (pos 1) (pos 16));
}

-- any number of words
abbrev pub senders_rule : Rule
senders_rule = record (new_rule (codes "senders")) { range = Some (record { start_inclusive = 0; end_inclusive = usize_max }) }

-- the text of the workers' row is this number in decimal
abbrev pub IsNumberIn : ℕ → List Row → Type 0
IsNumberIn workers rows = (text : Text) × (one_of (codes "workers") rows ≡ Some text)
    × ParsesUnsigned {E = ParseIntError} 32 10 text (Ok workers)

-- no number of workers that an audit accepts stands in the rows
abbrev pub HasNoWorkers : List Row → Type 0
HasNoWorkers rows = (n : ℕ) → IsNumberIn n rows → 1 ≤ n → n ≤ 16 → ⊥

-- `clap` does not accept the words for this command, and gives an error of this kind for them
abbrev pub IsRefusedAs : App → List Text → ErrorKind → Type 0
IsRefusedAs app words kind = (takes app words ≡ false) × IsAmong kind (fault_of app words)

-- the words ask for nothing, though `clap` may accept them: their subcommand and its rows are such
abbrev pub AskNothing : App → (Text × List Row → Type 0) → List Text → Type 0
AskNothing app AsksNothing words = (p : Text × List Row) → subcommand_of app words ≡ Some p → AsksNothing p

-- the kind of error for words that ask for no command: an invalid value, or a required argument that is missing
abbrev pub IsUnaskedKind : ErrorKind → Type 0
IsUnaskedKind kind = (kind ≡ InvalidValue) ⊎ (kind ≡ MissingRequiredArgument)

-- the error for refused words: out of memory; of the kind that `clap` gives for them; or, if they ask for no command, that
-- of an invalid value or of a missing argument
abbrev pub IsErrorFor : App → (Text × List Row → Type 0) → List Text → Error → Type 0
IsErrorFor app AsksNothing words error =
    (kind_of error ≡ OutOfMemory)
    ⊎ (IsRefusedAs app words (kind_of error) ⊎ (IsUnaskedKind (kind_of error) × AskNothing app AsksNothing words))

-- the error for words that cannot be read: misuse, as for an invalid value, or out of memory
abbrev pub IsUnreadableWord : ErrorKind → Type 0
IsUnreadableWord kind = (kind ≡ ValueValidation) ⊎ (kind ≡ OutOfMemory)
