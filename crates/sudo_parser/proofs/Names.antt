-- The bytes of a name, tested at its characters.
use Rattle.std.proofs.Common.{◌≡◌, List}
use Rattle.std.specs.List.{list_all}
use Rattle.std.proofs.lemmas.List.Folds.{list_all-map}
use Rattle.sudo_text.specs.declared.token.Ch.{Ch}
use Rattle.sudo_grammar.specs.Words.{bytes_of, is_name_byte}

pub name_bytes : (cs : List Ch) → list_all is_name_byte (bytes_of cs) ≡ list_all (λ c. is_name_byte c.byte) cs
name_bytes cs = list_all-map is_name_byte (λ c. c.byte) cs
