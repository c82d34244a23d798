-- The commands that the words of the command line ask for, by `clap`'s meaning of a simple command.
use Rattle.std.specs.Prelude.{◌≡◌, ◌≤◌, true, List, [], map, codes, ⊤, Some, unwrap_or}
use Rattle.clap.specs.Words.{App, Row, Text, all_of, first_of, new_app, with_rule, with_subcommand}
use Rattle.clap.specs.Simple.{on_top}
use Rattle.clap.specs.declared.error.Error.{Error}
use Rattle.sudo_grammar.specs.declared.kind.Kind.{Kind}
use Rattle.sudo_grammar.specs.declared.kind.Kind.TheVariants as kind
use Rattle.run_base.specs.Arguments.{IsErrorFor, IsNumberIn, required_option, required_word, senders_rule, workers_rule}
use Rattle.audit_commands.specs.declared.request.Asked.{Asked}
use Rattle.audit_commands.specs.declared.request.Asked.TheVariants.{Check, Expand, Audit}

-- the word of a kind of alias
abbrev pub kind_word : Kind → Text
kind_word kind.User = codes "user"
kind_word kind.Runas = codes "runas"
kind_word kind.Host = codes "host"
kind_word kind.Cmnd = codes "cmnd"

-- check FILE
abbrev pub check_app : App
check_app = with_rule (new_app (codes "check")) (required_word (codes "file"))

-- expand FILE KIND NAME
abbrev pub expand_app : App
expand_app = with_rule (with_rule (with_rule (new_app (codes "expand")) (required_word (codes "file")))
    (required_word (codes "kind"))) (required_word (codes "name"))

-- audit FILE --users F --hosts F
abbrev pub audit_paths_app : App
audit_paths_app = with_rule (with_rule (with_rule (new_app (codes "audit")) (required_word (codes "file")))
    (required_option (codes "users"))) (required_option (codes "hosts"))

-- audit FILE --users F --hosts F [--workers N] [NAME=PATH]...
abbrev pub audit_app : App
audit_app = with_rule (with_rule audit_paths_app workers_rule) senders_rule

-- the program's name; it has a version and requires a subcommand
abbrev pub named_app : App
named_app = on_top (λ s. record s { has_version = true; subcommand_required = true }) (new_app (codes "sudo_audit"))

-- the program's command, with its three subcommands
abbrev pub program_app : App
program_app = with_subcommand (with_subcommand (with_subcommand named_app check_app.top) expand_app.top) audit_app.top

-- the rows of the subcommand hold this command
abbrev pub HoldsCommand : Asked → Text × List Row → Type 0
HoldsCommand (Check file) p = (p.0 ≡ codes "check") × (first_of (codes "file") p.1 ≡ Some file.now)
HoldsCommand (Expand file kind name) p =
    (p.0 ≡ codes "expand") × (first_of (codes "file") p.1 ≡ Some file.now)
    × (first_of (codes "kind") p.1 ≡ Some (kind_word kind)) × (first_of (codes "name") p.1 ≡ Some name.now)
HoldsCommand (Audit file users hosts workers senders) p =
    (p.0 ≡ codes "audit") × (first_of (codes "file") p.1 ≡ Some file.now)
    × (first_of (codes "users") p.1 ≡ Some users.now) × (first_of (codes "hosts") p.1 ≡ Some hosts.now)
    × IsNumberIn workers p.1 × (unwrap_or (all_of (codes "senders") p.1) [] ≡ map (λ s. s.now) senders.items)

-- the number of workers is one that an audit accepts
abbrev pub WorkersFit : Asked → Type 0
WorkersFit (Check file) = ⊤
WorkersFit (Expand file kind name) = ⊤
WorkersFit (Audit file users hosts workers senders) = (1 ≤ workers) × (workers ≤ 16)

-- a subcommand with these rows asks for no command: its name is another, a word is missing, its KIND is invalid, or its
-- number of workers is outside the range that an audit accepts
abbrev pub AsksNothing : Text × List Row → Type 0
AsksNothing p = (asked : Asked) → HoldsCommand asked p → WorkersFit asked → ⊥

-- the error for words that ask for no command of the program
abbrev pub IsErrorOfWords : List Text → Error → Type 0
IsErrorOfWords = IsErrorFor program_app AsksNothing
