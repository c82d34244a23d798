-- The runas and the tags in force at a command, and the rows of one command; only proofs of bodies need these definitions.
use Rattle.std.specs.Prelude.{◌≡◌, Bool, ◌&&◌, ◌||◌, List, is_some, option_copied}
use Rattle.sudo_grammar.specs.declared.kind.Kind.TheVariants as kind
use Rattle.sudo_grammar.specs.declared.kind.Signed.{Signed}
use Rattle.sudo_grammar.specs.declared.policy.CommandSpec.{CommandSpec}
use Rattle.sudo_grammar.specs.declared.policy.Policy.{Policy}
use Rattle.sudo_policy.specs.Resolving.{resolves, runas_resolves}
use Rattle.sudo_verdict.specs.Values.{is_all}
use Rattle.sudo_verdict.specs.Tagged.{tags_before, runas_before}
use Rattle.review_texts.specs.Notes.{note_in}
use Rattle.review_roots.specs.declared.blocks.Head.{Head}
use Rattle.review_roots.specs.declared.blocks.InForce.{InForce}
use Rattle.review_roots.specs.Blocks.{Row}

-- what these commands of a section name last
abbrev pub IsInForce : List CommandSpec → InForce → Type 0
IsInForce commands f = (option_copied f.runas ≡ runas_before commands) × (f.tags ≡ tags_before commands)

-- the row of an atom of a command
abbrev pub signed_row : Head → InForce → Signed → Row
signed_row h f w = record {
  place = h.place;
  users = h.users.now;
  hosts = h.hosts.now;
  runas = option_copied f.runas;
  tags = f.tags;
  marks = h.marks;
  negated = w.negated || is_some (note_in w.atom);
  all = is_all w.atom;
}

abbrev pub head_resolves : Policy → Head → InForce → Bool
head_resolves p h f =
    (resolves kind.User p h.users.now && resolves kind.Host p h.hosts.now) && runas_resolves p (option_copied f.runas)
