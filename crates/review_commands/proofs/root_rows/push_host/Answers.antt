use Rattle.std.proofs.Common.{◌++◌, ◌∷◌, [], ◌∙◌, List, ap, get_or, refl, subst}
use Rattle.review_commands.specs.RootRows.{AreTargetRows, Each, whole}
use Rattle.review_commands.proofs.RootSteps.{each-next, item-there, take-whole, whole-next}
use Rattle.review_commands.proofs.root_rows.push_host.Goals as goal

pub loop-target-preserved : goal.loop-target-preserved
loop-target-preserved c =
    let t = c.args.table in
    let m = c.args.host.now in
    let at = c.loop-target.target-index in
    let target = get_or c.args.targets.now at 0 in
    let parts = c.loop-target.invariant.0 in
    let part = c.in_ok-rows.rows.items in
    let own = subst (λ h. AreTargetRows t.checked.now t.directory.now t.all h target part) c.in_ok-steps.ensures.host
    c.in_ok-rows.ensures in (
      parts ++ part ∷ [],
      each-next (AreTargetRows t.checked.now t.directory.now t.all m) c.args.targets.now at target part parts c.loop-target-test.true
          (item-there c.args.targets.now at 0 c.loop-target-test.true) c.loop-target.invariant.1 own,
      whole-next c.args.text.now.items c.loop-target.text.items c.extend_from_slice.new.self.items part parts c.loop-target.invariant.2
          (c.in_ok-extend_from_slice.ensures.items ∙ ap (λ (x : List _). c.loop-target.text.items ++ x) c.as_slice.ensures.value),
    )

pub returns : goal.returns
returns c =
    let t = c.args.table in
    let parts = c.loop-target.invariant.0 in (
      whole parts,
      record {
        parts = parts;
        are = subst (λ ts. Each (AreTargetRows t.checked.now t.directory.now t.all c.args.host.now) ts parts)
            (take-whole c.args.targets.now c.loop-target.target-index c.loop-target-test.false ∙ c.requires.targets)
            c.loop-target.invariant.1;
        text_is = refl;
      },
      c.loop-target.invariant.2,
    )
