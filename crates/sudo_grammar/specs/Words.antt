-- What a word spells: names of aliases, keywords, tags, options of a command and names of digests, as sudoers(5) lists
-- them. All of these are unquoted words without escapes.
use Rattle.std.specs.Prelude.{ℕ, Bool, true, false, not, ◌&&◌, ◌||◌, ◌==◌, nat_le, List, [], ◌∷◌, map, find, Option}
use Rattle.std.specs.Prelude.{None, Some, if◌then◌else◌, codes}
use Rattle.std.specs.List.{list_all, list_any}
use Rattle.std.specs.Option.{option_or}
use Rattle.std.specs.Str.{bytes_eq}
use Rattle.sudo_text.specs.Bytes.{is_digit}
use Rattle.sudo_text.specs.declared.token.Ch.{Ch}
use Rattle.sudo_text.specs.declared.token.TokenKind.{TokenKind}
use Rattle.sudo_text.specs.declared.token.TokenKind.TheVariants as tokens
use Rattle.sudo_grammar.specs.declared.kind.Kind.{Kind}
use Rattle.sudo_grammar.specs.declared.kind.Kind.TheVariants as kinds
use Rattle.sudo_grammar.specs.declared.tag.Tag.{Tag}
use Rattle.sudo_grammar.specs.Tags.{pairs, tag_name}

-- the bytes of characters, escaped or not
abbrev pub bytes_of : List Ch → List ℕ
bytes_of = map (λ c. c.byte)

-- no character is escaped
abbrev pub has_no_escape : List Ch → Bool
has_no_escape = list_all (λ c. not c.escaped)

-- the word that an unquoted token without escapes spells
abbrev pub plain_word : TokenKind → Option (List ℕ)
plain_word (tokens.Word quoted chars) = if not quoted && has_no_escape chars then Some (bytes_of chars) else None
plain_word _ = None

abbrev pub is_upper : ℕ → Bool
is_upper b = nat_le 65 b && nat_le b 90

-- an upper-case letter, a digit or an underscore
abbrev pub is_name_byte : ℕ → Bool
is_name_byte b = is_upper b || (is_digit b || (b == 95))

abbrev pub begins_upper : List ℕ → Bool
begins_upper [] = false
begins_upper (b ∷ bs) = is_upper b

-- an upper-case letter, followed by upper-case letters, digits and underscores; `ALL` is not a name
abbrev pub is_name : List ℕ → Bool
is_name w = (begins_upper w && list_all is_name_byte w) && not (bytes_eq w (codes "ALL"))

-- the name of an alias that a token spells
abbrev pub name_of : TokenKind → Option (List ℕ)
name_of kind = elim (plain_word kind) [ Some w ↦ (if is_name w then Some w else None) | None ↦ None ]

-- the kind of the aliases that a keyword defines
abbrev pub kind_of_keyword : List ℕ → Option Kind
kind_of_keyword w =
    if bytes_eq w (codes "User_Alias") then Some kinds.User
    else if bytes_eq w (codes "Runas_Alias") then Some kinds.Runas
    else if bytes_eq w (codes "Host_Alias") then Some kinds.Host
    else if bytes_eq w (codes "Cmnd_Alias") || bytes_eq w (codes "Cmd_Alias") then Some kinds.Cmnd
    else None

-- the tag that a name spells, among the pairs' tags if on, and else among their opposites
abbrev pub tag_switched : List ℕ → Bool → Option Tag
tag_switched w on = find (λ tag. bytes_eq w (tag_name tag)) (map (λ p. record { pair = p; on = on }) pairs)

-- the tag that a name spells
abbrev pub tag_of_name : List ℕ → Option Tag
tag_of_name w = option_or (tag_switched w true) (tag_switched w false)

-- the tag that a token spells
abbrev pub tag_in : Option (List ℕ) → Option Tag
tag_in None = None
tag_in (Some w) = tag_of_name w

abbrev pub tag_of : TokenKind → Option Tag
tag_of kind = tag_in (name_of kind)

-- the options of a command, which this reader refuses
abbrev pub is_option_name : List ℕ → Bool
is_option_name w = list_any (bytes_eq w) (codes "ROLE" ∷ codes "TYPE" ∷ codes "APPARMOR_PROFILE" ∷ codes "CWD"
    ∷ codes "CHROOT" ∷ codes "TIMEOUT" ∷ codes "NOTBEFORE" ∷ codes "NOTAFTER" ∷ codes "PRIVS" ∷ codes "LIMITPRIVS" ∷ [])

abbrev pub is_digest_name : List ℕ → Bool
is_digest_name w = list_any (bytes_eq w) (codes "sha224" ∷ codes "sha256" ∷ codes "sha384" ∷ codes "sha512" ∷ [])
