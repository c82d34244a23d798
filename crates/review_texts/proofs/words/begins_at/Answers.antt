use Rattle.std.proofs.Common.{◌∙◌, sym}
use Rattle.review_texts.proofs.Beginnings.{no_word_at}
use Rattle.review_texts.proofs.words.begins_at.Goals as goal

pub returns-else-begin_word : goal.returns-else-begin_word
returns-else-begin_word c =
    let none = sym c.begin_word.ensures ∙ c.if-begin_word.false in
    c.if-begin_word.false ∙ sym (no_word_at c.args.first c.args.rest.now c.args.text.now c.requires none)
