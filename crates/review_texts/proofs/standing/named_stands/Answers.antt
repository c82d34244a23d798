use Rattle.review_texts.proofs.standing.named_stands.Goals as goal

pub returns-in-Netgroup : goal.returns-in-Netgroup
returns-in-Netgroup c = rw c.in-Netgroup.is c.group_standing.ensures

pub returns-in-NonUnixGroup : goal.returns-in-NonUnixGroup
returns-in-NonUnixGroup c = rw c.in-NonUnixGroup.is c.group_standing-in-NonUnixGroup.ensures
