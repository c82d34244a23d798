-- The parameters of `Defaults` lines that change for sudo what a rule grants. sudoers(5), "SUDOERS OPTIONS".
use Rattle.std.specs.Prelude.{ℕ, Bool, true, false, not, ◌&&◌, ◌||◌, ◌==◌, ◌%◌, List, [], ◌∷◌, codes}
use Rattle.std.specs.List.{list_all, list_any}
use Rattle.std.specs.Str.{bytes_eq}
use Rattle.sudo_text.specs.declared.token.Ch.{Ch}
use Rattle.sudo_text.specs.declared.token.TokenKind.{TokenKind}
use Rattle.sudo_text.specs.declared.token.TokenKind.TheVariants as tokens
use Rattle.sudo_grammar.specs.declared.policy.Parameter.{Parameter}
use Rattle.sudo_grammar.specs.declared.policy.Parameter.TheVariants.{Switch, Assign}
use Rattle.sudo_grammar.specs.declared.policy.Operator.{Operator}
use Rattle.sudo_grammar.specs.declared.policy.Operator.TheVariants.{Set}
use Rattle.sudo_grammar.specs.Words.{bytes_of}

-- flags that are on by default; without `case_insensitive_user` and `case_insensitive_group` sudo judges as the reader does
abbrev pub is_on_flag : List ℕ → Bool
is_on_flag name = list_any (bytes_eq name) (codes "authenticate" ∷ codes "root_sudo" ∷ codes "use_netgroups" ∷ [])

-- flags that are off by default
abbrev pub is_off_flag : List ℕ → Bool
is_off_flag name = list_any (bytes_eq name) (codes "targetpw" ∷ codes "rootpw" ∷ codes "runaspw"
    ∷ codes "match_group_by_gid" ∷ codes "setenv" ∷ codes "noexec" ∷ codes "intercept" ∷ codes "requiretty"
    ∷ codes "runas_allow_unknown_id" ∷ codes "runas_check_shell" ∷ codes "fast_glob" ∷ codes "netgroup_tuple" ∷ [])

-- the flag that is on or off by default, as sudo was built
abbrev pub is_either_flag : List ℕ → Bool
is_either_flag name = bytes_eq name (codes "fqdn")

-- parameters with a value
abbrev pub has_value : List ℕ → Bool
has_value name = list_any (bytes_eq name) (codes "runas_default" ∷ codes "exempt_group" ∷ codes "group_plugin"
    ∷ codes "sudoers_locale" ∷ codes "runchroot" ∷ [])

-- a switch that departs from the default: `true` turns the flag on, `false` turns it off
abbrev pub switch_decides : Bool → List ℕ → Bool
switch_decides true name = is_off_flag name || is_either_flag name
switch_decides false name = is_on_flag name || is_either_flag name

-- the token is a word without an escape, of this text
abbrev pub is_plainly : List ℕ → TokenKind → Bool
is_plainly text (tokens.Word quoted chars) = bytes_eq (bytes_of chars) text && list_all (λ (c : Ch). not c.escaped) chars
is_plainly text _ = false

-- the value that the parameter has by default
abbrev pub is_default_value : List ℕ → TokenKind → Bool
is_default_value name value = (bytes_eq name (codes "runas_default") && is_plainly (codes "root") value)
    || (bytes_eq name (codes "sudoers_locale") && is_plainly (codes "C") value)

-- `=`; sudo refuses `+=` and `-=` for these parameters
abbrev pub is_set : Operator → Bool
is_set Set = true
is_set _ = false

-- an assignment of another value than the default; sudo refuses a value of a flag
abbrev pub assignment_decides : List ℕ → Operator → TokenKind → Bool
assignment_decides name operator value = has_value name && is_set operator && not (is_default_value name value)

-- the bytes of a word, and none for another token
abbrev pub word_bytes : TokenKind → List ℕ
word_bytes (tokens.Word quoted chars) = bytes_of chars
word_bytes _ = []

-- the name of a parameter
abbrev pub name_of : Parameter → List ℕ
name_of (Switch bangs name) = word_bytes name.kind
name_of (Assign name operator value) = word_bytes name.kind

-- the parameter changes for sudo what a rule grants; an odd number of `!` turns it off
abbrev pub decides : Parameter → Bool
decides (Switch bangs name) = switch_decides (not (bangs % 2 == 1)) (word_bytes name.kind)
decides (Assign name operator value) = assignment_decides (word_bytes name.kind) operator value.kind
