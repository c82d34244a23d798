use Rattle.std.proofs.Common.{◌≡◌, ◌∙◌, ◌++◌, ◌∷◌, [], List, IfOk, ap, map, false, subst}
use Rattle.sudo_grammar.specs.declared.kind.Kind.TheVariants as kind
use Rattle.sudo_grammar.specs.declared.kind.Member.{Member}
use Rattle.sudo_grammar.specs.declared.kind.Signed.{Signed}
use Rattle.sudo_policy.specs.Written.{negated_if, written_form}
use Rattle.review_compare.specs.Body.Heads.{row_answered, signed_answered}
use Rattle.review_compare.proofs.BlockLemmas.{as-they-are}
use Rattle.review_compare.proofs.block.rows_of.Goals as goal

pub returns : goal.returns
returns c =
    let p = c.args.checked.now in
    let written =
    c.in_ok-write_out.ensures
    ∙ ap (λ (xs : List Signed). xs ++ map (negated_if false) (written_form kind.Cmnd p c.from_ref-members.result.now))
    c.new-atoms.ensures.items
    ∙ ap (λ (ms : List Member). map (negated_if false) (written_form kind.Cmnd p ms)) c.from_ref-members.ensures.value
    ∙ as-they-are (written_form kind.Cmnd p (c.args.command.now ∷ [])) in
    subst (λ (xs : List Signed). IfOk c.rows_of_atoms.result (λ rows. map row_answered rows.items ≡ map (signed_answered c.args.tags) xs))
    written c.rows_of_atoms.ensures
