use Rattle.std.proofs.Common.{◌++◌, ◌∙◌, List, ap, append-nil, subst, sym, take}
use Rattle.review_grants.specs.Body.Heads.{HoldsBehind}
use Rattle.review_grants.proofs.GrantSteps.{all-places, next-place, placed}
use Rattle.review_grants.proofs.ListSteps.{take-more}
use Rattle.review_grants.proofs.rows.push_section.Goals as goal

pub loop-spec-init : goal.loop-spec-init
loop-spec-init c = (c.nothing-in_force.ensures c.args.checked.now, sym (append-nil c.args.text.now.items))

pub loop-spec-preserved : goal.loop-spec-preserved
loop-spec-preserved c =
    let at = c.loop-spec.spec-index in
    let spec = c.spec-item.result in
    let holds = subst (λ (l : List _). HoldsBehind c.args.checked.now l c.pass.new.self)
    (sym (take-more c.args.commands.now at spec c.loop-spec-test.true c.spec-item.is))
    (c.in_ok-pass.ensures (take at c.args.commands.now) c.loop-spec.invariant.0) in (
      holds,
      next-place c.args.checked.now c.args.head.now c.args.depends.now c.args.commands.now at spec c.args.text.now.items
          c.loop-spec.text.items _ c.loop-spec-test.true c.spec-item.is c.loop-spec.invariant.1
          (c.in_ok-push_place_rows.ensures ∙ ap (λ (t : List _). c.loop-spec.text.items ++ t)
          (placed c.args.checked.now c.args.head.now c.args.depends.now c.args.commands.now at spec c.pass.new.self holds)),
    )

pub returns : goal.returns
returns c = all-places c.args.checked.now c.args.head.now c.args.depends.now c.args.commands.now c.loop-spec.spec-index
    c.args.text.now.items _ c.loop-spec-test.false c.loop-spec.invariant.1
