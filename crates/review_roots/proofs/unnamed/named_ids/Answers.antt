use Rattle.std.proofs.Common.{◌∙◌, List, ap, flat_map, subst, sym}
use Rattle.std.proofs.lemmas.Result.{IfOk-weaker}
use Rattle.sudo_grammar.specs.declared.kind.Signed.{Signed}
use Rattle.review_roots.specs.Body.Unnamed.{AreGroupIds, AreUserIds, block_groups, named_ids}
use Rattle.review_roots.proofs.UnnamedLemmas.{group-ids, user-ids}
use Rattle.review_roots.proofs.unnamed.named_ids.Goals as goal

pub returns-clause-users : goal.returns-clause-users
returns-clause-users c =
    let p = c.args.checked.now in
    let groups = c.args.groups.now in
    let users = c.in_ok-users_of.field-0.items in
    IfOk-weaker c.ids_by.result _ _
    (λ ids is. subst (AreUserIds p c.args.blocks.now groups)
    (sym (is ∙ ap (λ (ws : List Signed). named_ids users ws groups) c.in_ok-groups_of.ensures
    ∙ ap (λ (ws : List Signed). named_ids ws (flat_map (block_groups p) c.args.all.now) groups) c.in_ok-users_of.ensures))
    (user-ids p c.args.blocks.now c.args.all.now groups))
    c.ids_by.ensures

pub returns-clause-groups : goal.returns-clause-groups
returns-clause-groups c =
    let p = c.args.checked.now in
    let groups = c.args.groups.now in
    let users = c.in_ok-users_of.field-0.items in
    IfOk-weaker c.ids_by.result _ _
    (λ ids is. subst (AreGroupIds p c.args.all.now groups)
    (sym (is ∙ ap (λ (ws : List Signed). named_ids users ws groups) c.in_ok-groups_of.ensures
    ∙ ap (λ (ws : List Signed). named_ids ws (flat_map (block_groups p) c.args.all.now) groups) c.in_ok-users_of.ensures))
    (group-ids p c.args.blocks.now c.args.all.now groups))
    c.ids_by.ensures
