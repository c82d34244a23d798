use Rattle.std.proofs.Common.{sym, ◌∙◌, arith}
use Rattle.sudo_match.specs.Pattern.{is_plain}
use Rattle.sudo_match.specs.Reading.{seen}
use Rattle.sudo_match.proofs.CharsLemmas.{seen-short, has-within}
use Rattle.sudo_match.proofs.ClosingLemmas.{open_complement, open_plain}
use Rattle.sudo_match.proofs.patterns.Chars.items_start.Goals as goal

pub overflow_add-result : goal.overflow_add-result
overflow_add-result c = omega (arith, seen-short c.args.self.now, c.requires)

pub returns-then-is_plain_at-clause-within : goal.returns-then-is_plain_at-clause-within
returns-then-is_plain_at-clause-within c =
    let within = has-within (is_plain 33) c.args.at (seen c.args.self.now) (sym c.is_plain_at.ensures ∙ c.if-is_plain_at.true) in
    omega (arith, within)

pub returns-then-is_plain_at-clause-open : goal.returns-then-is_plain_at-clause-open
returns-then-is_plain_at-clause-open c = open_complement (seen c.args.self.now) c.args.at (sym c.is_plain_at.ensures
    ∙ c.if-is_plain_at.true)

pub returns-else-is_plain_at-clause-open : goal.returns-else-is_plain_at-clause-open
returns-else-is_plain_at-clause-open c = open_plain (seen c.args.self.now) c.args.at (sym c.is_plain_at.ensures ∙ c.if-is_plain_at.false)
