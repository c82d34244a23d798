-- Include lines among the lines of a file. sudoers(5), "Including other files from within sudoers". Only proofs of bodies use these.
use Rattle.std.specs.Prelude.{Bool, true, false}
use Rattle.sudo_grammar.specs.declared.policy.EntryBody.{EntryBody}
use Rattle.sudo_grammar.specs.declared.policy.EntryBody.TheVariants as bodies

abbrev pub is_include_entry : EntryBody → Bool
is_include_entry (bodies.Aliases kind definitions) = false
is_include_entry (bodies.Defaults binding parameters) = false
is_include_entry (bodies.Rule users sections) = false
is_include_entry (bodies.Include folder hash path) = true
