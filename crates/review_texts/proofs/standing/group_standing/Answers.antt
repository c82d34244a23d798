use Rattle.std.proofs.Common.{List, subst, sym}
use Rattle.audit_files.specs.declared.netgroups.Triple.{Triple}
use Rattle.review_texts.specs.Places.{StandsGroup}
use Rattle.review_texts.proofs.standing.group_standing.Goals as goal

pub returns-in_default : goal.returns-in_default
returns-in_default c =
    let none = rw c.in_default.is at c.in_ok-put.ensures in
    λ end put stands. none put (subst (λ (known : List Triple). StandsGroup c.args.group known c.args.line.now c.args.at put)
    (sym c.deref.ensures.value) stands.0)
