use Rattle.std.proofs.Common.{◌++◌, ◌∙◌, List, ap}
use Rattle.sudo_grammar.specs.declared.kind.Signed.{Signed}
use Rattle.sudo_policy.proofs.Laws.{negated_never}
use Rattle.review_roots.specs.Body.Naming.{user_list}
use Rattle.review_roots.proofs.naming.user_list_of.Goals as goal

pub returns : goal.returns
returns c =
    let users = user_list c.args.checked.now c.args.block.now in
    c.in_ok-write_out.ensures ∙ ap (λ (ws : List Signed). c.new-atoms.result.items ++ ws) (negated_never users)
    ∙ ap (λ (ws : List Signed). ws ++ users) c.new-atoms.ensures.items
