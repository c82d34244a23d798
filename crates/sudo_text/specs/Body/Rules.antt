-- The rule that reads the text at an offset of a line. Only proofs of bodies use these.
use Rattle.std.specs.Prelude.{ℕ, ◌≤◌}
use Rattle.sudo_text.specs.declared.rules.LineKind.{LineKind}
use Rattle.sudo_text.specs.declared.rules.LineKind.TheVariants as lines
use Rattle.sudo_text.specs.declared.rules.Rule.{Rule}
use Rattle.sudo_text.specs.declared.rules.Rule.TheVariants as rules
use Rattle.sudo_text.specs.Rules.{mark_len, directive_len}

-- a text of this length is long enough for the word or directive that begins a line of this kind
abbrev pub KindFits : LineKind → ℕ → Type 0
KindFits lines.General len = Unit {0}
KindFits lines.Defaults len = 8 ≤ len
KindFits (lines.Include folder hash) len = directive_len folder ≤ len

-- `len` bytes are long enough for the token of this rule
abbrev pub RuleFits : Rule → ℕ → Type 0
RuleFits (rules.Include folder hash) len = directive_len folder ≤ len
RuleFits rules.Keyword len = 8 ≤ len
RuleFits rules.Comment len = Unit {0}
RuleFits rules.Quoted len = Unit {0}
RuleFits rules.Value len = Unit {0}
RuleFits rules.Command len = Unit {0}
RuleFits (rules.Mark mark) len = mark_len mark ≤ len
RuleFits rules.Word len = Unit {0}
