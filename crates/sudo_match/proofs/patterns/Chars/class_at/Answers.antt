use Rattle.std.proofs.Common.{sym, ◌∙◌}
use Rattle.sudo_match.specs.Reading.{seen}
use Rattle.sudo_match.proofs.ItemLemmas.{class_at_start-none}
use Rattle.sudo_match.proofs.patterns.Chars.class_at.Goals as goal

pub returns-then-not-is_plain_at : goal.returns-then-not-is_plain_at
returns-then-not-is_plain_at c =
    sym (class_at_start-none (seen c.args.self.now) c.args.at (sym c.is_plain_at.ensures ∙ c.if-not-is_plain_at.true))
