use Rattle.std.proofs.Common.{◌++◌, ◌∷◌, [], ◌∙◌, List, ℕ, ap, append-nil, refl, subst, sym}
use Rattle.audit_files.specs.Report.{line}
use Rattle.review_commands.specs.RootRows.{AreHostRows, Each, roots_header}
use Rattle.review_commands.proofs.RootSteps.{each-next, take-whole, whole-next}
use Rattle.review_commands.proofs.root_rows.roots_text.Goals as goal

pub loop-host-init : goal.loop-host-init
loop-host-init c = (
  [],
  tt,
  c.in_ok-push_header.ensures ∙ ap (λ (t : List ℕ). t ++ line roots_header) c.new-text.ensures.items
      ∙ sym (append-nil (line roots_header)),
)

pub loop-host-preserved : goal.loop-host-preserved
loop-host-preserved c =
    let parts = c.loop-host.invariant.0 in
    let more = c.in_ok-push_host.ensures in (
      parts ++ more.0 ∷ [],
      each-next (AreHostRows c.args.table.checked.now c.args.table.directory.now c.args.table.all) c.machines-host-items.result.now
          c.loop-host.host-index c.host-item.result more.0 parts c.loop-host-test.true c.host-item.is c.loop-host.invariant.1 more.1,
      whole-next (line roots_header) c.loop-host.text.items c.push_host.new.text.items more.0 parts c.loop-host.invariant.2 more.2,
    )

pub returns : goal.returns
returns c =
    let t = c.args.table in
    let parts = c.loop-host.invariant.0 in
    record {
      parts = parts;
      are = subst (λ ms. Each (AreHostRows t.checked.now t.directory.now t.all) ms parts)
          (take-whole c.machines-host-items.result.now c.loop-host.host-index c.loop-host-test.false ∙ c.machines-host-items.ensures)
          c.loop-host.invariant.1;
      text_is = c.loop-host.invariant.2;
      status_is = refl;
    }
