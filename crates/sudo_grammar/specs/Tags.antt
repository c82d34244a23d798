-- The pairs of tags, and their names. sudoers(5), "Tag_Spec".
use Rattle.std.specs.Prelude.{ℕ, Bool, if◌then◌else◌, List, [], ◌∷◌, ◌++◌, codes}
use Rattle.std.specs.Str.{bytes_eq}
use Rattle.sudo_grammar.specs.declared.tag.Tag.{Tag}
use Rattle.sudo_grammar.specs.declared.tag.TagPair.{TagPair}
use Rattle.sudo_grammar.specs.declared.tag.TagPair.TheVariants as pair

-- the pairs, in the order in which a report has them
abbrev pub pairs : List TagPair
pairs = pair.Exec ∷ pair.Follow ∷ pair.Intercept ∷ pair.LogInput ∷ pair.LogOutput ∷ pair.Mail ∷ pair.Passwd ∷ pair.SetEnv ∷ []

-- the name of a pair's tag
abbrev pub pair_name : TagPair → List ℕ
pair_name pair.Exec = codes "EXEC"
pair_name pair.Follow = codes "FOLLOW"
pair_name pair.Intercept = codes "INTERCEPT"
pair_name pair.LogInput = codes "LOG_INPUT"
pair_name pair.LogOutput = codes "LOG_OUTPUT"
pair_name pair.Mail = codes "MAIL"
pair_name pair.Passwd = codes "PASSWD"
pair_name pair.SetEnv = codes "SETENV"

-- the name of a tag: its pair's, and after NO for the opposite
abbrev pub tag_name : Tag → List ℕ
tag_name tag = if tag.on then pair_name tag.pair else codes "NO" ++ pair_name tag.pair

-- two pairs are one where their names are
abbrev pub same_pair : TagPair → TagPair → Bool
same_pair p q = bytes_eq (pair_name p) (pair_name q)
