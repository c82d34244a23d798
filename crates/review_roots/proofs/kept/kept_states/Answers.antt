use Rattle.std.proofs.Common.{◌∙◌, List, ap, length, ℕ}
use Rattle.std.proofs.lemmas.Result.{IfOk-weaker}
use Rattle.review_roots.specs.Body.Unnamed.{named_indices, unnamed_indices}
use Rattle.review_roots.proofs.KeptLemmas.{kept-split}
use Rattle.review_roots.proofs.kept.kept_states.Goals as goal

pub returns : goal.returns
returns c =
    let groups = c.args.groups.now in
    let own = c.in_ok-own.ensures in
    let others = c.in_ok-others.ensures in
    IfOk-weaker c.kept_by.result _ _
    (λ states is. is
    ∙ kept-split c.args.directory.now groups c.args.cut.now c.in_ok-own.own c.in_ok-others.others
    (own.named ∙ ap (λ (is : List ℕ). named_indices is groups (length groups)) c.deref.ensures.value)
    (own.unnamed ∙ ap (λ (is : List ℕ). unnamed_indices is groups (length groups)) c.deref.ensures.value)
    (others.named ∙ ap (λ (is : List ℕ). named_indices is groups (length groups)) c.deref-2.ensures.value)
    (others.unnamed ∙ ap (λ (is : List ℕ). unnamed_indices is groups (length groups)) c.deref-2.ensures.value))
    c.kept_by.ensures
