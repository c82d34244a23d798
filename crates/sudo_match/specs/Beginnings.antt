-- A cheap test that most hosts' names fail: their first characters differ from the name before any special one. It is
-- about time alone: what a pattern fits does not depend on it.
use Rattle.std.specs.Prelude.{Bool, ◌||◌}
use Rattle.sudo_text.specs.declared.token.Ch.{Ch}
use Rattle.sudo_match.specs.Pattern.{is_plain}

-- an unescaped `*`, `?` or `[`
abbrev pub is_special : Ch → Bool
is_special c = is_plain 42 c || (is_plain 63 c || is_plain 91 c)
