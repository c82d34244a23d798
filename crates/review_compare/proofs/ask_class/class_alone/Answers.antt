use Rattle.std.proofs.Common.{List, refl, subst}
use Rattle.review_compare.specs.declared.ask_class.AskedWith.{AskedWith}
use Rattle.review_compare.specs.Body.AskClasses.{AddsAsked}
use Rattle.review_compare.proofs.ask_class.class_alone.Goals as goal

pub returns : goal.returns
returns c = (
  refl,
  subst (λ (ws : List AskedWith). AddsAsked c.args.pair.now ws c.args.ask c.push_asked.new.asked.items) c.new-asked.ensures.items
      c.in_ok-push_asked.ensures,
)
