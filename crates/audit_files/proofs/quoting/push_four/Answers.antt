use Rattle.audit_files.proofs.QuotedRows.{five_fields}
use Rattle.audit_files.proofs.quoting.push_four.Goals as goal

pub returns : goal.returns
returns c = λ first start begun.
    rw (
      c.in_ok-push.ensures.items,
      c.in_ok-push_next_field-4.ensures,
      c.in_ok-push_next_field-3.ensures,
      c.in_ok-push_next_field-2.ensures,
      c.in_ok-push_next_field.ensures,
      begun,
    )
    (five_fields start first c.args.second.now c.args.third.now c.args.fourth.now c.args.fifth.now)
