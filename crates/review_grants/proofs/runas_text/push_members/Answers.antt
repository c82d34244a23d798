use Rattle.std.proofs.Common.{◌++◌, ◌∷◌, ◌∙◌, List, ap, drop, flat_map}
use Rattle.sudo_base.proofs.Options.{on_ok}
use Rattle.sudo_grammar.specs.declared.kind.Signed.{Signed}
use Rattle.sudo_parser.specs.Texts.{signed_text}
use Rattle.review_grants.proofs.GrantSteps.{members-joined}
use Rattle.review_grants.proofs.runas_text.push_members.Goals as goal

pub returns : goal.returns
returns c = on_ok c.push_joined.result
    (λ h. members-joined c.args.checked.now c.args.members.now c.args.text.now.items _ c.new-separated.result.items _
    c.in_ok-atoms.atoms.items
    c.in_ok-atoms.ensures c.new-separated.ensures.items
    (c.in_ok-push_separated.ensures ∙ ap (λ (ss : List Signed). c.new-separated.result.items
    ++ flat_map (λ s. 44 ∷ 32 ∷ signed_text s) ss) c.deref.ensures.value)
    (h ∙ ap (λ (t : List _). c.args.text.now.items ++ drop 2 t) c.deref-2.ensures.value))
    c.push_joined.ensures
