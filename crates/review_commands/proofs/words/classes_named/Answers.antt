use Rattle.std.proofs.Common.{◌≡◌, ◌∙◌, None, Some, sym}
use Rattle.review_commands.proofs.Refusals.{no_classes}
use Rattle.review_commands.proofs.words.classes_named.Goals as goal

pub returns-in-None-clause-bad : goal.returns-in-None-clause-bad
returns-in-None-clause-bad c other = no_classes c.args.words.now c.loop-word.word-index c.loop-word-test.true
    (λ class same.
    let found = (c.class_named.ensures class).1 (c.as_bytes.ensures.value ∙ same) in
    let never : None ≡ Some class = sym c.in-None.is ∙ found in
    absurd cc)
