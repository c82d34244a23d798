use Rattle.std.proofs.Common.{◌≡◌, drop, false}
use Rattle.std.specs.List.{list_any}
use Rattle.sudo_grammar.specs.declared.policy.CommandSpec.{CommandSpec}
use Rattle.review_subjects.specs.Reach.{own_reaches}
use Rattle.review_subjects.proofs.reach.named_reach.Given as goal

abbrev pub invariant-loop-command : goal.invariant-loop-command
invariant-loop-command l =
    list_any (λ (c : CommandSpec). own_reaches l.checked l.people false c.runas) (drop l.command-index l.commands)
    ≡ list_any (λ (c : CommandSpec). own_reaches l.checked l.people false c.runas) l.commands
