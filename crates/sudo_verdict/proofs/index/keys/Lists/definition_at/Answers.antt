use Rattle.std.proofs.Common.{sym, ◌∙◌, ap}
use Rattle.std.specs.Prelude.{option_copied, slice_get}
use Rattle.sudo_grammar.specs.declared.policy.Policy.{Policy}
use Rattle.sudo_grammar.specs.declared.policy.EntryBody.TheVariants as body
use Rattle.sudo_verdict.proofs.KeyLaws.{have_at, none_related}
use Rattle.sudo_verdict.proofs.index.keys.Lists.definition_at.Goals as goal
use Rattle.sudo_verdict.proofs.index.keys.Lists.definition_at.Goals.{in-Some, in_default-keys}

pub returns-after-self-clause-keys : goal.returns-after-self-clause-keys
returns-after-self-clause-keys c = elim c.match-self.branch [
  | in-Some w ↦
      rw (w.keys-is, w.keys_at-keys.ensures, c.as_slice.ensures)
      (have_at c.args.self.now.checked.now c.args.kind c.args.position c.in_ok-entry.entry.now w.in-Some.keys.now.rows
      c.in-Aliases.definitions
      c.in_ok-definition-in-Aliases.definition.now
      (c.args.self.now.known w.in-Some.keys.now (ap option_copied w.in-Some.is))
      (ap (λ (p : Policy). slice_get p.entries c.args.position.entry) (sym c.policy.ensures.value) ∙ sym c.get.ensures
      ∙ ap option_copied c.in_ok-entry.was)
      (c.in-Aliases.is ∙ ap (λ k. body.Aliases k c.in-Aliases.definitions) (w.is_same_kind.ensures w.if-is_same_kind.true))
      (sym c.get-in-Aliases.ensures ∙ ap option_copied c.in_ok-definition-in-Aliases.was))
  | in_default-keys w ↦ rw w.keys-is (none_related _ c.as_slice.result.now)
]
