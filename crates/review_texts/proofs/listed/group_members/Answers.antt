use Rattle.review_texts.proofs.listed.group_members.Goals as goal

pub returns-in_default : goal.returns-in_default
returns-in_default c =
    let none = rw c.in_default.is at c.in_ok-put.ensures in
    λ put stands. none put stands.members
