use Rattle.std.proofs.Common.{◌∙◌, ◌++◌, List, ap, map, false}
use Rattle.sudo_grammar.specs.declared.kind.Signed.{Signed}
use Rattle.sudo_policy.specs.Written.{negated_if, written_form}
use Rattle.review_compare.proofs.BlockLemmas.{as-they-are}
use Rattle.review_compare.proofs.common.written.Goals as goal

pub returns : goal.returns
returns c =
    let form : List Signed = written_form c.args.kind c.args.checked.now c.args.list.now in
    c.in_ok-write_out.ensures ∙ ap (λ (xs : List Signed). xs ++ map (negated_if false) form) c.new-atoms.ensures.items ∙ as-they-are form
