use Rattle.std.proofs.Common.{◌++◌, ◌∙◌, List, ap, sym}
use Rattle.sudo_base.proofs.Options.{on_ok}
use Rattle.sudo_grammar.specs.declared.kind.Kind.TheVariants as kind
use Rattle.sudo_grammar.specs.declared.kind.Member.{Member}
use Rattle.sudo_grammar.specs.declared.kind.Signed.{Signed}
use Rattle.sudo_grammar.specs.declared.policy.EntryBody.{EntryBody}
use Rattle.sudo_policy.specs.Written.{written_form}
use Rattle.sudo_policy.proofs.Laws.{negated_never}
use Rattle.review_roots.specs.KnownGroups.{body_users}
use Rattle.review_roots.proofs.groups.push_users.Goals as goal

pub returns-in-Rule : goal.returns-in-Rule
returns-in-Rule c =
    let p = c.args.checked.now in
    let old = c.args.atoms.now.items in
    on_ok c.write_out.result
    (λ h. h ∙ ap (λ (ws : List Signed). old ++ ws) (negated_never (written_form kind.User p c.as_slice.result.now))
    ∙ ap (λ (ms : List Member). old ++ written_form kind.User p ms) c.as_slice.ensures
    ∙ ap (λ (b : EntryBody). old ++ body_users p b) (sym c.in-Rule.is))
    c.write_out.ensures
