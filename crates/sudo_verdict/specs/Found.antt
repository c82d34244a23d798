-- The verdict that the search back from the last grant finds: at a command, in a section, in a rule, in a policy.
use Rattle.std.specs.Prelude.{ℕ, zero, suc, ◌+◌, cond, List, [], ◌∷◌, map, length, take, slice_get, Option, Some, None, option_map}
use Rattle.std.specs.Option.{option_or}
use Rattle.sudo_text.specs.declared.line.Place.{Place}
use Rattle.sudo_grammar.specs.declared.kind.Kind.TheVariants as kind
use Rattle.sudo_grammar.specs.declared.kind.Member.{Member}
use Rattle.sudo_grammar.specs.declared.policy.CommandSpec.{CommandSpec}
use Rattle.sudo_grammar.specs.declared.policy.Section.{Section}
use Rattle.sudo_grammar.specs.declared.policy.Entry.{Entry}
use Rattle.sudo_grammar.specs.declared.policy.EntryBody.{EntryBody}
use Rattle.sudo_grammar.specs.declared.policy.EntryBody.TheVariants.{Rule}
use Rattle.sudo_grammar.specs.declared.policy.Policy.{Policy}
use Rattle.sudo_match.specs.declared.request.Tags.{Tags}
use Rattle.sudo_match.specs.declared.request.Verdict.{Verdict}
use Rattle.sudo_match.specs.Matching.{command_fits}
use Rattle.sudo_verdict.specs.declared.decision.Decision.{Decision}
use Rattle.sudo_verdict.specs.Last.{last_set}
use Rattle.sudo_verdict.specs.Tagged.{tags_before, runas_before}
use Rattle.sudo_verdict.specs.Decided.{list_decision}
use Rattle.sudo_verdict.specs.Questions.{Question}
use Rattle.sudo_verdict.specs.Values.{user_listed, host_listed}
use Rattle.sudo_verdict.specs.RunasForms.{runas_allows}
use Rattle.sudo_verdict.specs.Verdicts.{decided_by}

-- the verdict of a grant with this place and these tags, from the decision of its command
abbrev pub verdict_from : Place → Tags → Decision → Verdict
verdict_from place tags d = decided_by place tags d.negated d.all

-- the verdict found at `c`, the last of these commands
unfoldable pub command_found : Policy → Question → Place → List CommandSpec → CommandSpec → Option Verdict
command_found p q place before c =
    cond (runas_allows p q (runas_before before))
    (option_map (verdict_from place (tags_before before)) (list_decision kind.Cmnd p (c.command ∷ [])
    (λ a. command_fits a q.command q.arguments)))
    None

-- the verdict found at a command, if there is one
abbrev pub found_if_any : Policy → Question → Place → List CommandSpec → Option CommandSpec → Option Verdict
found_if_any p q place before None = None
found_if_any p q place before (Some c) = command_found p q place before c

-- the verdict found at the first n commands of a section
unfoldable pub commands_found : Policy → Question → Place → List CommandSpec → ℕ → Option Verdict
commands_found p q place commands zero = None
commands_found p q place commands (suc n) =
    option_or (found_if_any p q place (take (n + 1) commands) (slice_get commands n)) (commands_found p q place commands n)

-- the verdict found in a section, if its host list allows the host
unfoldable pub section_found : Policy → Question → Place → Section → Option Verdict
section_found p q place s = cond (host_listed p s.hosts q) (commands_found p q place s.commands (length s.commands)) None

-- the verdict found in a rule, if its user list allows the user
unfoldable pub rule_found : Policy → Question → Place → List Member → List Section → Option Verdict
rule_found p q place users sections =
    cond (user_listed p users q) (last_set (map (section_found p q place) sections)) None

abbrev pub body_found : Policy → Question → Place → EntryBody → Option Verdict
body_found p q place (Rule users sections) = rule_found p q place users sections
body_found p q place _ = None

-- the verdict found in an entry: none unless it is a rule
abbrev pub entry_found : Policy → Question → Entry → Option Verdict
entry_found p q e = body_found p q e.place e.body
