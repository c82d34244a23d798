use Rattle.std.proofs.Common.{◌≡◌, ◌++◌, ◌∷◌, [], Bool, false, ap, append-nil, sym, ◌∙◌}
use Rattle.std.specs.Prelude.{if◌then◌else◌}
use Rattle.sudo_text.specs.Lines.{cut}
use Rattle.review_cautions.specs.Cautions.{caution_at}
use Rattle.review_cautions.specs.PhysicalLines.{first_line, is_marked}
use Rattle.review_cautions.specs.Body.Signs.{cautions_on}
use Rattle.review_cautions.proofs.SignLaws.{quiet}
use Rattle.review_cautions.proofs.signs.push_signed.Goals as goal

pub returns-else-may_hold : goal.returns-else-may_hold
returns-else-may_hold c = λ class.
    let l = c.args.line in
    let none : is_marked class l.continuing l.bytes.now (first_line (cut l.after.now)) ≡ false =
    quiet class l.continuing l.bytes.now (first_line (cut l.after.now)) (sym c.may_hold.ensures ∙ c.if-may_hold.false) in
    sym (ap (λ (t : Bool). cautions_on class c.args.lines.now.items ++ (if t then caution_at class l.place ∷ [] else [])) none
    ∙ append-nil (cautions_on class c.args.lines.now.items))
