use Rattle.std.proofs.Common.{◌-◌, ◌≤◌, ◌<◌, length}
use Rattle.std.specs.Prelude.{All}
use Rattle.sudo_text.specs.declared.token.Token.{Token}
use Rattle.sudo_text.proofs.TokenFronts.{Scanned}
use Rattle.sudo_text.proofs.scan.all_tokens.Given as goal

abbrev pub invariant-tokens : goal.invariant-tokens
invariant-tokens l = record {
  scanned : Scanned l.kind l.line.text l.line.joins l.tokens.items l.from l.before;
  few : length l.tokens.items ≤ l.from;
  inside : All (λ (t : Token). t.start < length l.line.text) l.tokens.items;
  within : l.from ≤ length l.line.text;
}

abbrev pub decreases-tokens : goal.decreases-tokens
decreases-tokens l = length l.line.text - l.from
