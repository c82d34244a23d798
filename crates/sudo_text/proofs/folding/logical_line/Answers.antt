use Rattle.std.proofs.Common.{◌≡◌, ℕ, length-append, ◌++◌, ◌∷◌, [], length, ap, sym, ◌∙◌, arith, rules}
use Rattle.std.proofs.lemmas.List.{length-take}
use Rattle.std.proofs.lemmas.Grind.{common_steps}
use Rattle.sudo_text.specs.Lines.{physical_lines}
use Rattle.sudo_text.proofs.Progress.{begins, turn, ending, end_of_text, escape_some, continued_some}
use Rattle.sudo_text.proofs.folding.logical_line.Goals as goal

pub loop-continued-init : goal.loop-continued-init
loop-continued-init c =
    let e = begins c.args.file c.args.first c.physical_line.result.0.now (physical_lines c.physical_line.result.1.now) in
    let r = c.begins_run-continued.ensures in
    record {
      progress = rw (c.new-joined.ensures.items, c.new-joins.ensures.items, r, c.physical_line.ensures.line) e;
      some = λ h. continued_some c.physical_line.result.0.now (sym r ∙ h);
      bytes = omega (arith, ap length c.new-joined.ensures.items);
      shorter = omega arith;
      numbers = omega arith;
    }

pub returns-then-is_empty-clause-logical_lines : goal.returns-then-is_empty-clause-logical_lines
returns-then-is_empty-clause-logical_lines c =
    let i = c.loop-continued.invariant in
    end_of_text c.args.file c.args.first c.loop-continued.number c.len.result c.loop-continued.joined.items
    c.loop-continued.joins.items c.loop-continued.line.now c.loop-continued.rest.now
    c.loop-continued.continued _ i.progress c.loop-continued-test.true (search rules) (search rules)

pub loop-continued-preserved : goal.loop-continued-preserved
loop-continued-preserved c =
    let i = c.loop-continued.invariant in
    let next = c.physical_line-in-loop-continued in
    let longer = c.in_ok-extend_from_slice.ensures.items in
    let is_len : c.len-in-loop-continued.result ≡ length c.extend_from_slice.new.self.items = omega arith in
    record {
      progress = turn c.args.file c.args.first c.loop-continued.number c.loop-continued.joined.items _
          c.loop-continued.joins.items _ c.loop-continued.line.now next.result.0.now c.loop-continued.rest.now next.result.1.now
          c.loop-continued.continued _ _ i.progress c.loop-continued-test.true next.ensures.line
          (grind (arith, common_steps, longer)) (c.in_ok-push.ensures.items
          ∙ ap (λ (n : ℕ). c.loop-continued.joins.items ++ n ∷ []) is_len) c.ends_in_escape-continued.ensures;
      some = λ h. escape_some next.result.0.now (sym c.ends_in_escape-continued.ensures ∙ h);
      bytes = omega (arith, simp (length-append, length-take) at (ap length longer), i.some c.loop-continued-test.true);
      shorter = omega arith;
      numbers = omega arith;
    }

pub returns-clause-logical_lines : goal.returns-clause-logical_lines
returns-clause-logical_lines c =
    let i = c.loop-continued.invariant in
    rw (c.into.ensures, c.into-2.ensures)
    (ending c.args.file c.args.first c.loop-continued.number c.loop-continued.joined.items _
    c.loop-continued.joins.items c.loop-continued.line.now c.loop-continued.rest.now
    c.loop-continued.continued _ i.progress c.loop-continued-test.false c.in_ok-extend_from_slice-2.ensures.items)

pub returns-clause-short : goal.returns-clause-short
returns-clause-short c =
    omega (
      arith,
      ap length c.into.ensures,
      simp length-append at
          (ap length c.in_ok-extend_from_slice-2.ensures.items),
      c.loop-continued.invariant.bytes,
    )
