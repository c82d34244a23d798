use Rattle.std.proofs.Common.{◌++◌, ◌∙◌, List, Option, ap, sym}
use Rattle.sudo_base.proofs.Options.{on_ok}
use Rattle.sudo_grammar.specs.declared.kind.Kind.TheVariants as kind
use Rattle.sudo_grammar.specs.declared.kind.Member.{Member}
use Rattle.sudo_grammar.specs.declared.kind.Signed.{Signed}
use Rattle.sudo_policy.specs.Written.{written_form}
use Rattle.sudo_policy.proofs.Laws.{negated_never}
use Rattle.review_roots.specs.Body.Unnamed.{runas_list}
use Rattle.review_roots.proofs.unnamed.push_list.Goals as goal

pub returns-in-Some : goal.returns-in-Some
returns-in-Some c =
    let p = c.args.checked.now in
    let old = c.args.atoms.now.items in
    on_ok c.write_out.result
    (λ h. h ∙ ap (λ (ws : List Signed). old ++ ws) (negated_never (written_form kind.Runas p c.as_slice.result.now))
    ∙ ap (λ (ms : List Member). old ++ written_form kind.Runas p ms) c.as_slice.ensures
    ∙ ap (λ (o : Option (List Member)). old ++ runas_list p o) (sym c.in-Some.is))
    c.write_out.ensures
