use Rattle.std.proofs.Common.{◌∙◌, ◌++◌, ◌∷◌, ◌*◌, ◌≡◌, [], ap, append_assoc, length, List, subst, sym}
use Rattle.review_compare.specs.declared.host_marks.HostMarks.{HostMarks}
use Rattle.review_compare.specs.Body.HostMarks.{HaveHostMarks}
use Rattle.review_compare.proofs.HostMarksLemmas.{parts-more}
use Rattle.review_compare.proofs.host_marks.joined_marks.Goals as goal

pub loop-part-preserved : goal.loop-part-preserved
loop-part-preserved c =
    let yielded = c.loop-part.yielded in
    let whole = append_assoc yielded (c.in-Some.part ∷ []) _ ∙ ap (λ xs. yielded ++ xs) (sym c.in-Some.ensures.steps.0)
    ∙ c.loop-part.invariant.rest in
    let more =
    parts-more c.args.count c.args.old.now c.args.new.now c.args.directory.now.machines c.loop-part.marks.items c.in_ok-part.field-0
    c.args.parts.items yielded c.in-Some.part _ c.requires whole c.in_ok-part.was c.loop-part.invariant.long
    c.loop-part.invariant.are in
    let items = sym c.in_ok-append.ensures.items in
    record {
      can_next = tt;
      is_finite = tt;
      rest = whole;
      long = subst (λ (ks : List HostMarks). length ks ≡ length (yielded ++ c.in-Some.part ∷ []) * c.args.count) items more.0;
      are = subst (λ (ks : List HostMarks). HaveHostMarks c.args.old.now c.args.new.now c.args.directory.now.machines ks) items more.1;
    }
