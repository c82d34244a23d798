-- The commands that the words of the command line ask for, by `clap`'s meaning of a simple command.
use Rattle.std.specs.Prelude.{◌≡◌, ◌≢◌, ◌≤◌, Bool, true, false, List, [], map, codes, ⊤, Option, None, Some, option_map, unwrap_or}
use Rattle.clap.specs.Words.{App, Row, Rule, Text, all_of, first_of, one_of, new_app, new_rule, with_rule, with_subcommand}
use Rattle.clap.specs.Simple.{on_top}
use Rattle.clap.specs.declared.error.Error.{Error}
use Rattle.clap.specs.declared.builder.action.ArgAction.TheVariants.{Append, SetTrue}
use Rattle.review_cautions.specs.Classes.{class_name}
use Rattle.run_base.specs.Arguments.{IsErrorFor, IsNumberIn, required_option, required_word, senders_rule, workers_rule}
use Rattle.review_texts.specs.Hostnames.{is_hostname}
use Rattle.review_commands.specs.declared.request.Asked.{Asked}
use Rattle.review_commands.specs.declared.request.PairPaths.{PairPaths}
use Rattle.review_commands.specs.declared.request.Paths.{Paths}
use Rattle.review_commands.specs.declared.request.PolicyPath.{PolicyPath}
use Rattle.review_commands.specs.declared.request.Asked.TheVariants.{Cautions, Changes, Check, Compare, Expand, Grants, Report}
use Rattle.review_commands.specs.declared.request.Asked.TheVariants.{Roots, Rules, Subjects, Who}
use Rattle.audit_files.specs.Requests.{is_command}
use Rattle.sudo_grammar.specs.declared.kind.Kind.{Kind}
use Rattle.sudo_grammar.specs.declared.kind.Kind.TheVariants as kind

-- --without CLASS, any number of times
abbrev pub without_rule : Rule
without_rule = record (new_rule (codes "without")) { long = Some (codes "without"); action = Some Append }

-- --ID WORD, which may be left out
abbrev pub name_rule : Text → Rule
name_rule id = record (new_rule id) { long = Some id }

-- --root DIR
abbrev pub root_rule : Rule
root_rule = name_rule (codes "root")

-- --netgroups F
abbrev pub netgroups_rule : Rule
netgroups_rule = name_rule (codes "netgroups")

-- --addresses F
abbrev pub addresses_rule : Rule
addresses_rule = name_rule (codes "addresses")

-- --hostname NAME
abbrev pub hostname_rule : Rule
hostname_rule = name_rule (codes "hostname")

-- NAME FILE [--root DIR] [--netgroups F]
abbrev pub file_app : Text → App
file_app name = with_rule (with_rule (with_rule (new_app name) (required_word (codes "file"))) root_rule) netgroups_rule

-- NAME FILE [--root DIR] [--netgroups F] [--addresses F] [--hostname NAME]
abbrev pub policy_app : Text → App
policy_app name = with_rule (with_rule (file_app name) addresses_rule) hostname_rule

-- the word of a kind of alias
abbrev pub kind_word : Kind → Text
kind_word kind.User = codes "user"
kind_word kind.Runas = codes "runas"
kind_word kind.Host = codes "host"
kind_word kind.Cmnd = codes "cmnd"

-- expand FILE KIND NAME [--root DIR] [--netgroups F] [--addresses F] [--hostname NAME]
abbrev pub expand_app : App
expand_app = with_rule (with_rule (policy_app (codes "expand")) (required_word (codes "kind"))) (required_word (codes "name"))

-- cautions FILE [--root DIR] [--netgroups F] [--addresses F] [--hostname NAME] [--links F] [--without CLASS]...
abbrev pub cautions_app : App
cautions_app = with_rule (with_rule (policy_app (codes "cautions")) (name_rule (codes "links"))) without_rule

-- NAME FILE [--root DIR] [--netgroups F] [--addresses F] [--hostname NAME] --users F --hosts F
abbrev pub paths_app : Text → App
paths_app name = with_rule (with_rule (policy_app name) (required_option (codes "users"))) (required_option (codes "hosts"))

-- grants FILE [--root DIR] [--netgroups F] [--addresses F] [--hostname NAME] --users F --hosts F [--user NAME] [--host NAME]
abbrev pub grants_app : App
grants_app = with_rule (with_rule (paths_app (codes "grants")) (name_rule (codes "user"))) (name_rule (codes "host"))

-- who FILE [--root DIR] [--netgroups F] [--addresses F] [--hostname NAME] --users F --hosts F --command PATH [--arguments TEXT]
-- [--runas USER]
abbrev pub who_app : App
who_app = with_rule (with_rule (with_rule (paths_app (codes "who")) (required_option (codes "command")))
    (name_rule (codes "arguments"))) (name_rule (codes "runas"))

-- compare OLD NEW [--netgroups F]
abbrev pub files_app : App
files_app = with_rule (with_rule (with_rule (new_app (codes "compare")) (required_word (codes "old"))) (required_word (codes "new")))
    netgroups_rule

-- compare OLD NEW [--netgroups F] [--addresses F] [--hostname NAME]
abbrev pub policies_app : App
policies_app = with_rule (with_rule files_app addresses_rule) hostname_rule

-- compare OLD NEW [--netgroups F] [--addresses F] [--hostname NAME] --users F --hosts F
abbrev pub pair_app : App
pair_app = with_rule (with_rule policies_app (required_option (codes "users"))) (required_option (codes "hosts"))

-- --requests NAME=PATH, any number of times
abbrev pub requests_rule : Rule
requests_rule = record (new_rule (codes "requests")) { long = Some (codes "requests"); action = Some Append }

-- compare OLD NEW [--netgroups F] [--addresses F] [--hostname NAME] --users F --hosts F [--user NAME] [--host NAME] [--requests
-- NAME=PATH]...
abbrev pub compare_app : App
compare_app = with_rule (with_rule (with_rule pair_app (name_rule (codes "user"))) (name_rule (codes "host"))) requests_rule

-- --all
abbrev pub all_rule : Rule
all_rule = record (new_rule (codes "all")) { long = Some (codes "all"); action = Some SetTrue }

-- roots FILE [--root DIR] [--netgroups F] [--addresses F] [--hostname NAME] --users F --hosts F [--all]
abbrev pub roots_app : App
roots_app = with_rule (paths_app (codes "roots")) all_rule

-- NAME FILE [--root DIR] [--netgroups F] [--addresses F] [--hostname NAME] --users F --hosts F [--workers N] [NAME=PATH]...
abbrev pub judging_app : Text → App
judging_app name = with_rule (with_rule (paths_app name) workers_rule) senders_rule

-- the program's name; it has a version and requires a subcommand
abbrev pub named_app : App
named_app = on_top (λ s. record s { has_version = true; subcommand_required = true }) (new_app (codes "sudo_review"))

-- the program's command, with its subcommands
abbrev pub program_app : App
program_app = with_subcommand (with_subcommand (with_subcommand (with_subcommand (with_subcommand (with_subcommand (with_subcommand
    (with_subcommand (with_subcommand (with_subcommand named_app (policy_app (codes "check")).top) expand_app.top) cautions_app.top)
    (judging_app (codes "report")).top) grants_app.top) who_app.top) roots_app.top) (paths_app (codes "subjects")).top)
    (judging_app (codes "rules")).top) compare_app.top

-- the host name, if given, is valid
abbrev pub fits_hostname : Option Text → Bool
fits_hostname None = true
fits_hostname (Some name) = is_hostname name

-- the rows hold the main file of a policy, and, if they are given, the folder below which its files are, the files of its
-- netgroups and of addresses, and the name of a host
pub record HavePolicy (rows : List Row) (policy : PolicyPath) : Type 0 where
  pub file_is : first_of (codes "file") rows ≡ Some policy.file.now
  pub root_is : first_of (codes "root") rows ≡ option_map (λ s. s.now) policy.root
  pub netgroups_is : first_of (codes "netgroups") rows ≡ option_map (λ s. s.now) policy.netgroups
  pub addresses_is : first_of (codes "addresses") rows ≡ option_map (λ s. s.now) policy.addresses
  pub hostname_is : first_of (codes "hostname") rows ≡ option_map (λ s. s.now) policy.hostname
  pub hostname_fits : fits_hostname (first_of (codes "hostname") rows) ≡ true

-- the rows hold the paths of a policy, of the known users and of the known hosts
pub record HavePaths (rows : List Row) (paths : Paths) : Type 0 where
  pub policy_is : HavePolicy rows paths.policy
  pub users_is : first_of (codes "users") rows ≡ Some paths.users.now
  pub hosts_is : first_of (codes "hosts") rows ≡ Some paths.hosts.now

-- the rows hold the paths of two policies, of the known users and of the known hosts, and, if they are given, those of the
-- netgroups and of addresses, and the name of a host
pub record HavePair (rows : List Row) (paths : PairPaths) : Type 0 where
  pub old_is : first_of (codes "old") rows ≡ Some paths.old.now
  pub new_is : first_of (codes "new") rows ≡ Some paths.new.now
  pub users_is : first_of (codes "users") rows ≡ Some paths.users.now
  pub hosts_is : first_of (codes "hosts") rows ≡ Some paths.hosts.now
  pub netgroups_is : first_of (codes "netgroups") rows ≡ option_map (λ s. s.now) paths.netgroups
  pub addresses_is : first_of (codes "addresses") rows ≡ option_map (λ s. s.now) paths.addresses
  pub hostname_is : first_of (codes "hostname") rows ≡ option_map (λ s. s.now) paths.hostname
  pub hostname_fits : fits_hostname (first_of (codes "hostname") rows) ≡ true

-- the text of a flag says whether it is on; without one it is off
abbrev pub IsFlag : Bool → Option Text → Type 0
IsFlag on None = on ≡ false
IsFlag on (Some text) = (text ≡ codes "true" → on ≡ true) × (text ≡ codes "false" → on ≡ false)

-- the rows of the subcommand hold this command
abbrev pub HoldsCommand : Asked → Text × List Row → Type 0
HoldsCommand (Check policy) p = (p.0 ≡ codes "check") × HavePolicy p.1 policy
HoldsCommand (Expand policy kind name) p =
    (p.0 ≡ codes "expand") × HavePolicy p.1 policy × (first_of (codes "kind") p.1 ≡ Some (kind_word kind))
    × (first_of (codes "name") p.1 ≡ Some name.now)
HoldsCommand (Cautions policy links without) p =
    (p.0 ≡ codes "cautions") × HavePolicy p.1 policy × (first_of (codes "links") p.1 ≡ option_map (λ s. s.now) links)
    × (unwrap_or (all_of (codes "without") p.1) [] ≡ map class_name without.items)
HoldsCommand (Grants paths user host) p =
    (p.0 ≡ codes "grants") × HavePaths p.1 paths
    × (first_of (codes "user") p.1 ≡ option_map (λ s. s.now) user) × (first_of (codes "host") p.1 ≡ option_map (λ s. s.now) host)
HoldsCommand (Who paths command arguments runas) p =
    (p.0 ≡ codes "who") × HavePaths p.1 paths
    × (first_of (codes "command") p.1 ≡ Some command.now) × (is_command command.now ≡ true)
    × (first_of (codes "arguments") p.1 ≡ option_map (λ s. s.now) arguments)
    × (first_of (codes "runas") p.1 ≡ option_map (λ s. s.now) runas)
HoldsCommand (Compare paths user host) p =
    (p.0 ≡ codes "compare") × HavePair p.1 paths
    × (first_of (codes "user") p.1 ≡ option_map (λ s. s.now) user) × (first_of (codes "host") p.1 ≡ option_map (λ s. s.now) host)
    × (unwrap_or (all_of (codes "requests") p.1) [] ≡ [])
HoldsCommand (Changes paths senders) p =
    (p.0 ≡ codes "compare") × HavePair p.1 paths
    × (first_of (codes "user") p.1 ≡ None) × (first_of (codes "host") p.1 ≡ None)
    × (unwrap_or (all_of (codes "requests") p.1) [] ≡ map (λ s. s.now) senders.items) × (senders.items ≢ [])
HoldsCommand (Roots paths all) p =
    (p.0 ≡ codes "roots") × HavePaths p.1 paths × IsFlag all (one_of (codes "all") p.1)
HoldsCommand (Subjects paths) p = (p.0 ≡ codes "subjects") × HavePaths p.1 paths
HoldsCommand (Rules paths workers senders) p =
    (p.0 ≡ codes "rules") × HavePaths p.1 paths × IsNumberIn workers p.1
    × (unwrap_or (all_of (codes "senders") p.1) [] ≡ map (λ s. s.now) senders.items)
HoldsCommand (Report paths workers senders) p =
    (p.0 ≡ codes "report") × HavePaths p.1 paths × IsNumberIn workers p.1
    × (unwrap_or (all_of (codes "senders") p.1) [] ≡ map (λ s. s.now) senders.items)

-- the number of workers is one that an audit accepts
abbrev pub WorkersFit : Asked → Type 0
WorkersFit (Check policy) = ⊤
WorkersFit (Expand policy kind name) = ⊤
WorkersFit (Cautions policy links without) = ⊤
WorkersFit (Grants paths user host) = ⊤
WorkersFit (Who paths command arguments runas) = ⊤
WorkersFit (Compare paths user host) = ⊤
WorkersFit (Changes paths senders) = ⊤
WorkersFit (Roots paths all) = ⊤
WorkersFit (Subjects paths) = ⊤
WorkersFit (Rules paths workers senders) = (1 ≤ workers) × (workers ≤ 16)
WorkersFit (Report paths workers senders) = (1 ≤ workers) × (workers ≤ 16)

-- a subcommand with these rows asks for no command: its name is another, a word is missing, a CLASS is no class of
-- cautions, a KIND is no kind of alias, a PATH is neither one from the root nor `sudoedit`, its number of workers is outside
-- the range that an audit accepts, a user or a host is named beside requests, or the host name is invalid
abbrev pub AsksNothing : Text × List Row → Type 0
AsksNothing p = (asked : Asked) → HoldsCommand asked p → WorkersFit asked → ⊥

-- the error for words that ask for no command of the program
abbrev pub IsErrorOfWords : List Text → Error → Type 0
IsErrorOfWords = IsErrorFor program_app AsksNothing
