use Rattle.std.proofs.Common.{sym}
use Rattle.sudo_verdict.proofs.KeyLaws.{rule_body}
use Rattle.sudo_verdict.proofs.index.keys.body_keys.Goals as goal

pub returns-in_ok-sections_keys-in-Rule : goal.returns-in_ok-sections_keys-in-Rule
returns-in_ok-sections_keys-in-Rule c =
    rule_body c.args.checked.now
    (record {
      definitions = c.new-in-Rule.result;
      users = c.in_ok-member_keys-in-Rule.field-0;
      sections = c.in_ok-sections_keys-in-Rule.field-0;
    })
    c.args.body.now c.in-Rule.users c.in-Rule.sections c.in-Rule.is (
      rw (sym c.as_slice-in-Rule.ensures) c.in_ok-member_keys-in-Rule.ensures,
      rw (sym c.as_slice-in-Rule-2.ensures)
          c.in_ok-sections_keys-in-Rule.ensures,
    )
