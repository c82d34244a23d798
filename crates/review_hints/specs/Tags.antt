-- Misspelled tags. The parser takes an unknown upper-case word before a colon for an alias of commands, and so the fault
-- lies behind the colon, where it expects the hosts of a further section; a word in lower case is no command. sudoers(5),
-- "Tag_Spec".
use Rattle.std.specs.Prelude.{ℕ, Bool, ◌||◌, ◌==◌, if◌then◌else◌, List, ◌++◌, [], codes, length, map, take, drop, Option, None, Some}
use Rattle.sudo_grammar.specs.Tags.{pair_name, pairs}
use Rattle.sudo_grammar.specs.declared.fault.Expected.{Expected}
use Rattle.sudo_grammar.specs.declared.fault.Expected.TheVariants as expecteds
use Rattle.sudo_text.specs.Bytes.{is_blank}
use Rattle.review_hints.specs.FirstWords.{begins_with_keyword}
use Rattle.review_hints.specs.Names.{meant, meant_hint}
use Rattle.review_hints.specs.Stretches.{after_word, before_end, before_name, first_byte, first_word, last_byte, last_name}
use Rattle.review_hints.specs.Stretches.{without_indent}

-- the tags
unfoldable pub tag_names : List (List ℕ)
tag_names = map pair_name pairs ++ map (λ pair. codes "NO" ++ pair_name pair) pairs

-- a tag may stand behind this text of a line: behind a blank, `=`, `,`, `)` or `:`, or at the front of a line
abbrev pub lets_tag_follow : List ℕ → Bool
lets_tag_follow text =
    (length text == 0) || is_blank (last_byte text)
    || (last_byte text == 61) || (last_byte text == 44) || (last_byte text == 41) || (last_byte text == 58)

-- the name that ends the text, if a tag may stand there
abbrev pub tag_at_end : List ℕ → List ℕ
tag_at_end text = if lets_tag_follow (before_name text) then last_name text else []

-- the word in place of a tag, given the text before the fault: before a colon, if the fault is at what follows that colon,
-- or if `ALL` follows it and the fault is behind that; `NAME: /bin/ls`, `NAME: ALL`
abbrev pub word_before : List ℕ → Expected → List ℕ
word_before text expecteds.AliasName = []
word_before text expecteds.Equals = tag_at_end (before_end (before_end text (codes "ALL")) (codes ":"))
word_before text expecteds.Member = tag_at_end (before_end text (codes ":"))
word_before text expecteds.Command = []
word_before text expecteds.RightParen = []
word_before text expecteds.Parameter = []
word_before text expecteds.Value = []
word_before text expecteds.Path = []
word_before text expecteds.EndOfLine = []

-- the word in place of a tag, given the text from the fault on: the word that begins it, if a colon follows
abbrev pub word_behind : List ℕ → List ℕ
word_behind text = if first_byte (without_indent (after_word text)) == 58 then first_word text else []

-- the word in place of a tag: before a syntax error at this offset, or at a word that is no command
abbrev pub word_near : List ℕ → ℕ → Option Expected → List ℕ
word_near line at (Some expected) = word_before (take at line) expected
word_near line at None = word_behind (drop at line)

-- the hint at the tag that this word may mean, in a rule
abbrev pub tag_hint : List ℕ → List ℕ → ℕ → Option Expected → Option (List ℕ)
tag_hint first line at expected =
    if begins_with_keyword first then None else meant_hint (meant tag_names (word_near line at expected))
