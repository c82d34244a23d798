use Rattle.std.proofs.Common.{◌++◌, List, ℕ, map, ap, sym, ◌∙◌, arith}
use Rattle.sudo_text.specs.Lines.{cut, place}
use Rattle.review_cautions.specs.PhysicalLines.{numbers_of}
use Rattle.review_cautions.specs.Cautions.{caution_at}
use Rattle.review_cautions.specs.Body.Signs.{cautions_on}
use Rattle.review_cautions.proofs.LineSteps.{line_step}
use Rattle.review_cautions.proofs.signs.push_signed_lines.Goals as goal

pub loop-rest-preserved : goal.loop-rest-preserved
loop-rest-preserved c =
    let old = c.loop-rest in
    record {
      cautions = λ class.
          rw (c.in_ok-push_signed.ensures class, c.is_continued-continuing.ensures)
          (line_step class c.args.file old.number old.continuing c.cut_first.result.0.now
          (cut c.cut_first.result.1.now) (cautions_on class old.lines.items)
          ∙ ap (λ (lines : List (List ℕ)). cautions_on class old.lines.items ++ map (λ (n : ℕ). caution_at class (place c.args.file n))
          (numbers_of class old.continuing old.number lines)) (sym c.cut_first.ensures.cut) ∙ old.invariant.cautions class);
      within = omega arith;
      numbers = omega arith;
    }
