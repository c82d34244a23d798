use Rattle.std.proofs.Common.{◌++◌, ◌∙◌, List, ap, append_assoc, option_copied}
use Rattle.sudo_base.proofs.Options.{on_ok}
use Rattle.sudo_grammar.specs.declared.kind.Kind.TheVariants as kind
use Rattle.sudo_grammar.specs.declared.kind.Signed.{Signed}
use Rattle.sudo_policy.specs.Written.{written_form}
use Rattle.sudo_policy.proofs.Laws.{negated_never}
use Rattle.review_roots.specs.Body.Unnamed.{runas_users}
use Rattle.review_roots.proofs.unnamed.push_users.Goals as goal

pub returns : goal.returns
returns c =
    let p = c.args.checked.now in
    let b = c.args.block.now in
    let old = c.args.atoms.now.items in
    let users = written_form kind.User p b.users.now in
    let runas = runas_users p (option_copied b.runas) in
    on_ok c.push_runas_users.result
    (λ h. h ∙ ap (λ (ws : List Signed). ws ++ runas)
    (c.in_ok-write_out.ensures ∙ ap (λ (ws : List Signed). old ++ ws) (negated_never users))
    ∙ append_assoc old users runas)
    c.push_runas_users.ensures
