use Rattle.std.proofs.Common.{◌≡◌, ◌++◌, ◌∙◌, List, ap, false, flat_map, option_copied, sym, true}
use Rattle.sudo_base.proofs.Options.{on_ok}
use Rattle.review_grants.specs.Body.Heads.{rows_on}
use Rattle.review_grants.specs.Depends.{depends_text}
use Rattle.review_grants.specs.GrantRows.{is_for_user}
use Rattle.review_grants.proofs.GrantSteps.{no-rows, user-rows}
use Rattle.review_grants.proofs.rows.push_rule.Goals as goal

pub returns-then-not-is_for : goal.returns-then-not-is_for
returns-then-not-is_for c =
    let other : is_for_user c.args.table.checked.now (option_copied c.args.table.scope.user) c.args.users.now
    ≡ false = sym c.if-not-is_for.ensures in
    no-rows c.args.table.checked.now c.args.table.directory.now (option_copied c.args.table.scope.user)
    (option_copied c.args.table.scope.host) c.args.place c.args.users.now c.args.sections.now c.args.text.now.items other

pub returns : goal.returns
returns c =
    let p = c.args.table.checked.now in
    let d = c.args.table.directory.now in
    let m = option_copied c.args.table.scope.host in
    let for : is_for_user p (option_copied c.args.table.scope.user) c.args.users.now ≡ true = sym c.if-not-is_for.ensures in
    on_ok c.push_sections.result (λ h. user-rows p d (option_copied c.args.table.scope.user) m c.args.place c.args.users.now
    c.args.sections.now c.in_ok-head.head.items c.depends-depends.result.now c.args.text.now.items _ for c.in_ok-head.ensures
    (c.depends-depends.ensures ∙ ap depends_text (c.args.table.knows c.args.place))
    (h ∙ ap (λ (t : List _). c.args.text.now.items ++ flat_map (rows_on p d m t c.depends-depends.result.now) c.args.sections.now)
    c.deref.ensures.value))
    c.push_sections.ensures
