use Rattle.std.proofs.Common.{ℕ, length, true, false, sym, subst, set, List, ◌∷◌, []}
use Rattle.sudo_policy.specs.Body.Marking.{MarksRow}
use Rattle.sudo_policy.proofs.MarkingLemmas.{inside_link, read_at, MarksRow-old, MarksRow-new}
use Rattle.sudo_policy.proofs.reach.mark_link.Goals as goal

pub bounds-marks-alias : goal.bounds-marks-alias
bounds-marks-alias c = inside_link c.args.link (length c.args.marks.now) c.in-Some.alias c.requires.inside c.in-Some.is

pub returns-then-marks-alias : goal.returns-then-marks-alias
returns-then-marks-alias c =
    let inside = inside_link c.args.link (length c.args.marks.now) c.in-Some.alias c.requires.inside c.in-Some.is in
    MarksRow-old c.args.marks.now c.args.work.now.items c.args.link c.in-Some.alias c.in-Some.is
    (read_at c.args.marks.now c.in-Some.alias true _ inside c.if-marks-alias.true)

pub bounds-marks-alias-2 : goal.bounds-marks-alias-2
bounds-marks-alias-2 c = inside_link c.args.link (length c.args.marks.now) c.in-Some.alias c.requires.inside c.in-Some.is

pub returns : goal.returns
returns c =
    let inside = inside_link c.args.link (length c.args.marks.now) c.in-Some.alias c.requires.inside c.in-Some.is in
    subst (λ (work : List ℕ). MarksRow (c.args.link ∷ []) c.args.marks.now c.args.work.now.items
    (set c.args.marks.now c.in-Some.alias true) work) (sym c.in_ok-push.ensures.items)
    (MarksRow-new c.args.marks.now c.args.work.now.items c.args.link c.in-Some.alias c.in-Some.is
    (read_at c.args.marks.now c.in-Some.alias false _ inside c.if-marks-alias.false))
