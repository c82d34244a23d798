use Rattle.sudo_text.proofs.Endings.{words_end_at_quotes}
use Rattle.sudo_text.proofs.laws.quotes_end_words.Goals as goal

pub returns : goal.returns
returns c = words_end_at_quotes
