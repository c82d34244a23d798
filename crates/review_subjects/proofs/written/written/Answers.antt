use Rattle.std.proofs.Common.{◌++◌, ◌∙◌, ap, map, false}
use Rattle.sudo_policy.specs.Written.{negated_if, written_form}
use Rattle.sudo_policy.proofs.Laws.{negated_never}
use Rattle.review_subjects.proofs.written.written.Goals as goal

pub returns : goal.returns
returns c =
    let written = written_form c.args.kind c.args.checked.now c.args.members.now in
    c.in_ok-write_out.ensures ∙ ap (λ xs. xs ++ map (negated_if false) written) c.new-atoms.ensures.items ∙ negated_never written
