-- The code's views of the characters of a pattern and the bytes of a text. Only proofs of bodies use these.
use Rattle.std.specs.Prelude.{ℕ, zero, suc, slice_get, Bool, false, if◌then◌else◌, List, Option, Some, None}
use Rattle.sudo_text.specs.declared.token.Ch.{Ch}
use Rattle.sudo_match.specs.declared.patterns.Slash.{Slash}
use Rattle.sudo_match.specs.declared.patterns.Reading.{Reading}
use Rattle.sudo_match.specs.declared.patterns.Reading.TheVariants.{Exact, Host, Quoted}
use Rattle.sudo_match.specs.declared.patterns.Text.{Text}
use Rattle.sudo_match.specs.Class.{lower_text}
use Rattle.sudo_match.specs.Pattern.{is_plain, has, is_free}
use Rattle.sudo_match.specs.HostNames.{lower_char, literal_char, free_bang}

-- the character at this index is directly after an unescaped `[`
abbrev pub follows_bracket : List Ch → ℕ → Bool
follows_bracket cs zero = false
follows_bracket cs (suc n) = has (is_plain 91) (slice_get cs n)

-- one character, as it is read
abbrev pub read_one : Reading → Bool → Ch → Ch
read_one Exact is_after c = c
read_one Host is_after c = lower_char (free_bang is_after c)
read_one Quoted is_after c = literal_char c

-- the bytes of a text, as they are read
abbrev pub text_of : Text → List ℕ
text_of t = if t.lower then lower_text t.bytes.now else t.bytes.now

-- there is a next byte, and a star may fit it
abbrev pub is_free_byte : Slash → Option ℕ → Bool
is_free_byte s None = false
is_free_byte s (Some b) = is_free s b
