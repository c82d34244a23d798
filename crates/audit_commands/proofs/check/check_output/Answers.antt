use Rattle.std.proofs.Common.{◌≡◌, subst}
use Rattle.audit_commands.specs.Examining.{check_status, check_text}
use Rattle.audit_commands.proofs.check.check_output.Goals as goal

pub returns-clause-printed : goal.returns-clause-printed
returns-clause-printed g c =
    let printed = c.in_ok-printed.printed in
    record {
      policy = c.in_ok-policy.policy;
      loaded = c.in_ok-policy.ensures.loaded;
      found = c.in_ok-found.found.items;
      are = c.in_ok-found.ensures;
      text_is =
          subst (λ files. printed.text.items ≡ check_text files c.in_ok-found.found.items) c.as_slice.ensures
          (subst (λ found. printed.text.items ≡ check_text c.as_slice.result.now found) c.deref.ensures.value c.in_ok-printed.ensures.text);
      status_is = subst (λ found. printed.status ≡ check_status found) c.deref.ensures.value c.in_ok-printed.ensures.status;
    }
