use Rattle.sudo_text.proofs.Quotes.{quotes_closed}
use Rattle.sudo_text.proofs.laws.quotes_close.Goals as goal

pub returns : goal.returns
returns c = quotes_closed
