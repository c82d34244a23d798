-- The code's views of the characters of a pattern and the bytes of a text; only proofs of bodies need these
-- definitions.
use Rattle.std.specs.Prelude.{◌++◌, List}
use Rattle.sudo_text.specs.declared.token.Ch.{Ch}
use Rattle.sudo_match.specs.declared.patterns.Reading.{Reading}
use Rattle.sudo_match.specs.declared.patterns.Reading.TheVariants.{Exact, Host, Quoted}
use Rattle.sudo_match.specs.declared.patterns.Chars.{Chars}
use Rattle.sudo_match.specs.Pattern.{any_name}
use Rattle.sudo_match.specs.HostNames.{host_chars, quoted_chars}

-- all characters, as they are read
abbrev pub read : Reading → List Ch → List Ch
read Exact cs = cs
read Host cs = host_chars cs
read Quoted cs = quoted_chars cs

-- the characters of a pattern, as they are read
abbrev pub seen : Chars → List Ch
seen c = read c.reading c.chars.now ++ any_name c.is_folder
