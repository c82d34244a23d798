use Rattle.std.proofs.Common.{sym, ap, ◌∙◌, cond}
use Rattle.sudo_match.specs.Pattern.{is_folder_path}
use Rattle.sudo_verdict.specs.Numbers.{next_number, path_number_from}
use Rattle.sudo_verdict.proofs.NumberSteps.{path-special, path-more, path-end}
use Rattle.sudo_verdict.proofs.index.numbers.path_number.Goals as goal

pub returns-then-is_special : goal.returns-then-is_special
returns-then-is_special c =
    let folder = is_folder_path c.args.path.now in
    sym (c.loop-ch.invariant.same
    ∙ ap (path_number_from folder c.loop-ch.number) c.in-Some.ensures.cases.0
    ∙ path-special folder c.loop-ch.number c.in-Some.ch.now c.in-Some.rest.now (sym c.is_special.ensures ∙ c.if-is_special.true))

pub loop-ch-preserved : goal.loop-ch-preserved
loop-ch-preserved c =
    let folder = is_folder_path c.args.path.now in
    record {
      below = c.next_number-number.ensures.below;
      same =
          c.loop-ch.invariant.same
          ∙ ap (path_number_from folder c.loop-ch.number) c.in-Some.ensures.cases.0
          ∙ path-more folder c.loop-ch.number c.in-Some.ch.now c.in-Some.rest.now (sym c.is_special.ensures ∙ c.if-is_special.false)
          ∙ ap (λ n. path_number_from folder n c.in-Some.rest.now) (sym c.next_number-number.ensures.value);
    }

pub returns-then-is_folder : goal.returns-then-is_folder
returns-then-is_folder c =
    sym (c.loop-ch.invariant.same
    ∙ path-end (is_folder_path c.args.path.now) c.loop-ch.number c.loop-ch.left.now c.in_default.ensures.cases
    ∙ ap (λ b. cond b c.loop-ch.number (next_number c.loop-ch.number 6)) (sym c.is_folder.ensures ∙ c.if-is_folder.true))

pub returns-else-is_folder : goal.returns-else-is_folder
returns-else-is_folder c =
    c.whole_number.ensures.value
    ∙ sym (c.loop-ch.invariant.same
    ∙ path-end (is_folder_path c.args.path.now) c.loop-ch.number c.loop-ch.left.now c.in_default.ensures.cases
    ∙ ap (λ b. cond b c.loop-ch.number (next_number c.loop-ch.number 6)) (sym c.is_folder.ensures ∙ c.if-is_folder.false))
