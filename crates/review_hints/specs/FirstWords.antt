-- The words that begin a line: keywords and directives. sudoers(5), "Aliases", "Defaults", "Including other files from
-- within sudoers".
use Rattle.std.specs.Prelude.{ℕ, Bool, ◌||◌, ◌==◌, if◌then◌else◌, List, ◌∷◌, [], codes, Option, None, length}
use Rattle.std.specs.List.{list_any}
use Rattle.std.specs.Option.{option_or}
use Rattle.std.specs.Str.{bytes_eq}
use Rattle.sudo_text.specs.Bytes.{is_blank}
use Rattle.review_hints.specs.Names.{meant, meant_hint}
use Rattle.review_hints.specs.Stretches.{after_word, before_blank, first_byte, first_word}

-- the keywords that begin a line
unfoldable pub keywords : List (List ℕ)
keywords =
    codes "Defaults" ∷ codes "User_Alias" ∷ codes "Runas_Alias" ∷ codes "Host_Alias" ∷ codes "Cmnd_Alias"
    ∷ codes "Cmd_Alias" ∷ []

-- the directives; a misspelled `#include` is a comment, and so has no fault
unfoldable pub directives : List (List ℕ)
directives = codes "@include" ∷ codes "@includedir" ∷ []

-- the line is no rule: a keyword begins it
abbrev pub begins_with_keyword : List ℕ → Bool
begins_with_keyword line = list_any (bytes_eq (first_word line)) keywords

-- the end of the line, a blank, or a mark that binds a Defaults line: `@`, `:`, `!` or `>`
abbrev pub ends_keyword : List ℕ → Bool
ends_keyword rest =
    (length rest == 0) || is_blank (first_byte rest)
    || (first_byte rest == 64) || (first_byte rest == 58) || (first_byte rest == 33) || (first_byte rest == 62)

-- the hint at the keyword that the first word may mean
abbrev pub keyword_hint : List ℕ → Option (List ℕ)
keyword_hint line = if ends_keyword (after_word line) then meant_hint (meant keywords (first_word line)) else None

-- the hint at the directive that the bytes before the first blank may mean
abbrev pub directive_hint : List ℕ → Option (List ℕ)
directive_hint line = meant_hint (meant directives (before_blank line))

-- the hint at the beginning of a line
abbrev pub beginning_hint : List ℕ → Option (List ℕ)
beginning_hint line = option_or (keyword_hint line) (directive_hint line)
