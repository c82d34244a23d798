use Rattle.std.proofs.Common.{◌≡◌, Bool, IsTrue, length}
use Rattle.std.specs.List.{list_all}
use Rattle.sudo_grammar.specs.declared.kind.Atom.{Atom}
use Rattle.sudo_policy.specs.Body.Resolving.{command_resolves}
use Rattle.sudo_verdict.specs.Body.Postings.{Grows}
use Rattle.sudo_verdict.specs.Body.Silence.{IsSilent, CommandsSilent}
use Rattle.sudo_verdict.proofs.index.postings.Posting.post_commands.Given as goal

-- where the commands left are silent, all are
abbrev pub invariant-loop-spec : goal.invariant-loop-spec
invariant-loop-spec l = record {
  count : length l.self.rows.rows.items ≡ length l.initial.self.rows.rows.items;
  grows : Grows l.initial.self.rows.rows.items l.self.rows.rows.items;
  resolve : IsTrue (list_all (command_resolves l.checked) l.left);
  silent : (test : Atom → Bool) → IsSilent l.self.rows.rows.items l.rule test → CommandsSilent l.checked test l.left
      → CommandsSilent l.checked test l.commands;
}

abbrev pub decreases-loop-spec : goal.decreases-loop-spec
decreases-loop-spec l = length l.left
