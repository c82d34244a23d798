use Rattle.std.proofs.Common.{◌∙◌, Option, Some, None, ap, subst, sym}
use Rattle.review_roots.specs.declared.state.State.{State}
use Rattle.review_roots.specs.declared.toward.Toward.{Toward}
use Rattle.review_roots.specs.Body.Towards.{AllowAlone, IsToward}
use Rattle.review_roots.proofs.candidate.kept_toward.Goals as goal

-- what there is, or another one
abbrev there-or : Toward → Option Toward → Toward
there-or t None = t
there-or t (Some found) = found

pub returns-clause-toward : goal.returns-clause-toward
returns-clause-toward c = λ t is.
    let p = c.args.ground.checked.now in
    let d = c.args.ground.directory.now in
    let gs = c.args.ground.groups.now in
    let bs = c.args.ground.blocks.now in
    let made = c.in_ok-toward.toward in
    let to = c.in_ok-toward.ensures.toward in
    let itself = subst (λ s. IsToward p d gs bs s made) (sym to.state) to in
    let own = subst (λ i. AllowAlone p d bs i c.args.base.now.allowed.items)
    (c.requires.user ∙ sym (ap (λ (s : State). s.user) to.state)) c.requires.base.allowed in
    let alone = subst (AllowAlone p d bs made.state.user) (sym c.deref.ensures.value) own in
    subst (IsToward p d gs bs c.args.state) (ap (there-or c.beside.result) is)
    (subst (λ s. IsToward p d gs bs s c.beside.result) to.state (c.beside.ensures.toward p d gs bs itself alone))
