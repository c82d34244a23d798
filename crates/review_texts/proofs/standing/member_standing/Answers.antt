use Rattle.review_texts.proofs.standing.member_standing.Goals as goal

pub returns-in_default : goal.returns-in_default
returns-in_default c =
    let none = rw c.in_default.is at c.in_ok-put.ensures in
    λ end put stands. none put stands.0
