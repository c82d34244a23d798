-- The kinds of aliases. sudoers(5), "Aliases".
use Rattle.std.specs.Prelude.{Bool, true, false}
use Rattle.sudo_grammar.specs.declared.kind.Kind.{Kind}
use Rattle.sudo_grammar.specs.declared.kind.Kind.TheVariants as kinds

abbrev pub same_kind : Kind → Kind → Bool
same_kind kinds.User kinds.User = true
same_kind kinds.Runas kinds.Runas = true
same_kind kinds.Host kinds.Host = true
same_kind kinds.Cmnd kinds.Cmnd = true
same_kind _ _ = false
