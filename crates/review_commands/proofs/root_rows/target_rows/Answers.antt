use Rattle.std.proofs.Common.{◌∙◌, List, ap, flat_map, refl, subst, sym}
use Rattle.audit_files.specs.Report.{line}
use Rattle.review_roots.specs.AddableGroups.{AreAddable}
use Rattle.review_roots.specs.Roots.{AreRoots}
use Rattle.review_commands.specs.RootRows.{root_fields}
use Rattle.review_commands.proofs.RootSteps.{if-ok}
use Rattle.review_commands.proofs.root_rows.target_rows.Goals as goal

pub returns : goal.returns
returns c =
    let t = c.args.table in
    let h = c.args.steps.now in
    if-ok c.rows_text.result (λ text is. record {
      steps = h;
      policy_is = c.requires.policy;
      directory_is = c.requires.directory;
      host_is = refl;
      groups_are = subst (AreAddable t.checked.now t.directory.now) (sym c.requires.groups) t.grouped;
      roots = c.in_ok-roots.roots.items;
      are = subst (λ l. AreRoots h c.args.target l c.in_ok-roots.roots.items) c.requires.least c.in_ok-roots.ensures;
      text_is = is
          ∙ ap (λ (rs : List _). flat_map (λ r. line (root_fields t.checked.now t.directory.now t.groups.now h.host.now c.args.target r))
          rs)
          c.deref.ensures.value
          ∙ ap (λ (gs : List _). flat_map (λ r. line (root_fields t.checked.now t.directory.now gs h.host.now c.args.target r))
          c.in_ok-roots.roots.items) (sym c.requires.groups);
    }) c.rows_text.ensures
