use Rattle.std.proofs.Common.{◌∙◌, ◌++◌, ◌∷◌, [], List, ap, arith, map, false}
use Rattle.sudo_grammar.specs.declared.kind.Kind.TheVariants as kind
use Rattle.sudo_grammar.specs.declared.kind.Member.{Member}
use Rattle.sudo_grammar.specs.declared.kind.Signed.{Signed}
use Rattle.sudo_policy.specs.Written.{negated_if, written_form}
use Rattle.review_roots.proofs.LoopLemmas.{signs-all}
use Rattle.review_roots.proofs.blocks.signs_of.Goals as goal

pub returns : goal.returns
returns c =
    let p = c.args.checked.now in
    signs-all (written_form kind.Cmnd p (c.args.command.now ∷ [])) c.deref-signed-items.result.now c.loop-signed.signs.items
    c.loop-signed.signed-index
    (c.deref-signed-items.ensures.value ∙ c.in_ok-write_out.ensures
    ∙ ap (λ (xs : List Signed). xs ++ map (negated_if false) (written_form kind.Cmnd p c.from_ref-members.result.now))
    c.new-atoms.ensures.items
    ∙ ap (λ (ms : List Member). map (negated_if false) (written_form kind.Cmnd p ms)) c.from_ref-members.ensures.value)
    (omega arith) c.loop-signed.invariant
