use Rattle.std.proofs.Common.{◌∙◌, ap, option_copied, sym}
use Rattle.review_roots.specs.States.{group_at}
use Rattle.review_roots.proofs.TowardLemmas.{foreign-given, step-from, step-none}
use Rattle.review_roots.proofs.host.HostSteps.step_toward.Goals as goal

pub returns-else-is_same_user : goal.returns-else-is_same_user
returns-else-is_same_user c =
    let h = c.args.self.now in
    let k = c.args.candidate.now in
    let s = c.args.toward.now.state in
    let v = c.in-Some.target.now in
    let at = sym c.user_at.ensures ∙ ap option_copied c.in-Some.is in
    foreign-given h k v (group_at h.groups.now s.added) c.args.toward.now.allowed.items c.requires.candidate
    (sym c.is_same_user.ensures ∙ c.if-is_same_user.false) (c.requires.toward.allowed v at) c.chosen.result c.chosen.ensures
    ∙ step-from h s k v c.requires.candidate at

pub returns-in-None : goal.returns-in-None
returns-in-None c =
    step-none c.args.self.now c.args.toward.now.state c.args.candidate.now c.requires.candidate
    (sym c.user_at.ensures ∙ ap option_copied c.in-None.is)
