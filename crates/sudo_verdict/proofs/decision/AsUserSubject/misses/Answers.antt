use Rattle.std.proofs.Common.{sym, ◌∙◌, ap}
use Rattle.std.specs.Prelude.{◌==◌}
use Rattle.sudo_text.proofs.Beginnings.{not_true}
use Rattle.sudo_verdict.proofs.KeyLaws.{passes_name, passes_uid, passes_group}
use Rattle.sudo_verdict.proofs.decision.AsUserSubject.misses.Goals as goal

pub returns-in-Name : goal.returns-in-Name
returns-in-Name c other p kind a is =
    let number = c.in-Name.number in
    passes_name c.args.self.now.user.now a number
    (ap (λ x. number == x) (sym c.args.self.now.known) ∙ not_true (number == c.args.self.now.number) other)
    (is.name number c.in-Name.is)

pub returns-in-Uid : goal.returns-in-Uid
returns-in-Uid c other p kind a is =
    passes_uid c.args.self.now.user.now a c.in-Uid.uid (not_true (c.in-Uid.uid == c.args.self.now.user.now.uid) other)
    (is.uid c.in-Uid.uid c.in-Uid.is)

pub returns-in-Group : goal.returns-in-Group
returns-in-Group c other p kind a is =
    let marks = c.args.self.now.marks.words in
    passes_group c.args.self.now.user.now a c.in-Group.mark marks c.args.self.now.marked
    (sym c.has.ensures ∙ not_true c.has.result other) (is.group c.in-Group.mark c.in-Group.is)
