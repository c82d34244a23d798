-- The runas and the tags in force at a command, and the rows of one command; only proofs of bodies need these definitions.
use Rattle.std.specs.Prelude.{◌≡◌, Bool, ◌&&◌, if◌then◌else◌, List, [], Option, Some, None, option_copied}
use Rattle.sudo_grammar.specs.declared.kind.Atom.{Atom}
use Rattle.sudo_grammar.specs.declared.kind.Kind.TheVariants as kind
use Rattle.sudo_grammar.specs.declared.kind.Signed.{Signed}
use Rattle.sudo_grammar.specs.declared.policy.CommandSpec.{CommandSpec}
use Rattle.sudo_grammar.specs.declared.policy.Policy.{Policy}
use Rattle.sudo_match.specs.declared.request.Tags.{Tags}
use Rattle.sudo_policy.specs.Resolving.{resolves, runas_resolves}
use Rattle.sudo_verdict.specs.Values.{is_all}
use Rattle.sudo_verdict.specs.Tagged.{tags_before, runas_before, tags_given}
use Rattle.review_compare.specs.declared.block.BlockRow.{BlockRow}
use Rattle.review_compare.specs.declared.block.Head.{Head}
use Rattle.review_compare.specs.declared.block.InForce.{InForce}
use Rattle.review_compare.specs.Cells.{Wide}

-- what these commands of a section name last
abbrev pub IsInForce : List CommandSpec → InForce → Type 0
IsInForce commands f = (option_copied f.runas ≡ runas_before commands) × (f.tags ≡ tags_before commands)

-- an answer and the atom that it is given to, with what is said to stand before it
pub record Answered : Type 0 where
  pub answer : Option Tags
  pub before : List Atom
  pub atom : Atom

abbrev pub row_answered : BlockRow → Answered
row_answered r = record { answer = r.answer; before = r.before.now; atom = r.shape.atom }

abbrev pub signed_answered : Tags → Signed → Answered
signed_answered t w = record {
  answer = if w.negated then None else Some (tags_given (is_all w.atom) t);
  before = [];
  atom = w.atom;
}

abbrev pub answered_wide : Head → InForce → Answered → Wide
answered_wide h f a = record {
  users = h.users.now;
  hosts = h.hosts.now;
  runas = option_copied f.runas;
  decider = record { place = h.place; answer = a.answer; before = a.before; atom = a.atom };
}

-- the row of an atom of a command
abbrev pub signed_wide : Head → InForce → Signed → Wide
signed_wide h f w = answered_wide h f (signed_answered f.tags w)

abbrev pub head_resolves : Policy → Head → InForce → Bool
head_resolves p h f =
    (resolves kind.User p h.users.now && resolves kind.Host p h.hosts.now) && runas_resolves p (option_copied f.runas)
