use Rattle.std.proofs.Common.{◌∙◌, ◌++◌, List, ap, false, map}
use Rattle.sudo_grammar.specs.declared.kind.Signed.{Signed}
use Rattle.sudo_policy.specs.Written.{negated_if, written_form}
use Rattle.review_grants.proofs.GrantSteps.{kept-signs}
use Rattle.review_grants.proofs.runas_text.written.Goals as goal

pub returns : goal.returns
returns c =
    let form : List Signed = written_form c.args.kind c.args.checked.now c.args.members.now in
    c.in_ok-write_out.ensures ∙ ap (λ (t : List Signed). t ++ map (negated_if false) form) c.new-atoms.ensures.items ∙ kept-signs form
