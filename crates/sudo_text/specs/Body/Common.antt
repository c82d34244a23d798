-- Definitions for proofs of bodies alone: bytes that are plain characters in each run but a word of a Defaults line.
use Rattle.std.specs.Prelude.{ℕ, Bool, true, false, not, ◌&&◌, ◌||◌, ◌==◌, nat_le, if◌then◌else◌, List, [], drop}
use Rattle.std.specs.List.{take_while}
use Rattle.sudo_text.specs.declared.piece.Style.{Style}
use Rattle.sudo_text.specs.declared.piece.Style.TheVariants as styles

-- a byte from `>` on but no backslash and not 127, one from `-` to `9`, `*` or `%`
abbrev pub is_common : ℕ → Bool
is_common b =
    (nat_le 62 b && not (b == 92) && not (b == 127)) || (nat_le 45 b && nat_le b 57) || (b == 42) || (b == 37)

-- in a word of a Defaults line `+` and `-` may end the word
abbrev pub is_defaults_word : Style → Bool
is_defaults_word styles.Quoted = false
is_defaults_word styles.Word = false
is_defaults_word styles.DefaultsWord = true
is_defaults_word styles.Value = false
is_defaults_word styles.Path = false
is_defaults_word styles.Arguments = false
is_defaults_word styles.Include = false

-- the common bytes from an offset on
abbrev pub common_bytes : Style → List ℕ → ℕ → List ℕ
common_bytes style text at = if is_defaults_word style then [] else take_while is_common (drop at text)
