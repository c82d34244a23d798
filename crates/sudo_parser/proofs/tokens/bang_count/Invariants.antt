use Rattle.std.proofs.Common.{◌≡◌, drop}
use Rattle.sudo_parser.specs.Body.Lists.{ReadsBangs}
use Rattle.sudo_parser.proofs.tokens.bang_count.Given as goal

abbrev pub invariant-loop-token : goal.invariant-loop-token
invariant-loop-token l = (l.count ≡ l.token-index) × ReadsBangs l.tokens l.count (drop l.count l.tokens)
