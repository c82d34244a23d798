-- The characters of host names in a policy, as in sudoers(5), "Host_List" and "Wildcards": they are compared without
-- regard to case.
use Rattle.std.specs.Prelude.{Bool, true, false, ◌&&◌, if◌then◌else◌, List, [], ◌∷◌, map}
use Rattle.sudo_text.specs.declared.token.Ch.{Ch}
use Rattle.sudo_match.specs.Class.{lower}
use Rattle.sudo_match.specs.Pattern.{is_plain, is_byte}

-- in lower case
abbrev pub lower_char : Ch → Ch
lower_char c = record { byte = lower c.byte; escaped = c.escaped }

-- in lower case, and escaped, so that it stands only for itself
abbrev pub literal_char : Ch → Ch
literal_char c = record { byte = lower c.byte; escaped = true }

-- an escaped `!` directly after an unescaped `[` counts as unescaped; `is_after`: the first character is directly after
-- one
abbrev pub free_bang : Bool → Ch → Ch
free_bang is_after c = if is_after && is_byte 33 c then record { byte = 33; escaped = false } else c

unfoldable pub free_bangs : Bool → List Ch → List Ch
free_bangs is_after [] = []
free_bangs is_after (c ∷ cs) = free_bang is_after c ∷ free_bangs (is_plain 91 c) cs

-- the characters of a host pattern: in lower case; quoted ones have no special bytes
unfoldable pub host_chars : List Ch → List Ch
host_chars cs = map lower_char (free_bangs false cs)

unfoldable pub quoted_chars : List Ch → List Ch
quoted_chars cs = map literal_char cs
