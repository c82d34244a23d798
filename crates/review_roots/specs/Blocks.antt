-- The rows of a policy without their commands, in the order of the file, and the blocks in which a program has them.
-- sudoers(5), "User Specification".
use Rattle.std.specs.Prelude.{◌≡◌, Bool, ◌&&◌, ◌||◌, if◌then◌else◌, is_some, List, [], fold, map, flat_map}
use Rattle.std.specs.Prelude.{Option, Some, option_copied}
use Rattle.sudo_text.specs.declared.line.Place.{Place}
use Rattle.sudo_grammar.specs.declared.kind.Kind.TheVariants as kind
use Rattle.sudo_grammar.specs.declared.kind.Member.{Member}
use Rattle.sudo_grammar.specs.declared.kind.Signed.{Signed}
use Rattle.sudo_grammar.specs.declared.policy.Policy.{Policy}
use Rattle.sudo_grammar.specs.declared.policy.Runas.{Runas}
use Rattle.sudo_match.specs.declared.people.Machine.{Machine}
use Rattle.sudo_match.specs.declared.people.Person.{Person}
use Rattle.sudo_match.specs.declared.request.Tags.{Tags}
use Rattle.sudo_policy.specs.Resolving.{resolves, runas_resolves}
use Rattle.sudo_verdict.specs.Values.{is_all, user_allowed, host_allowed}
use Rattle.sudo_verdict.specs.RunasForms.{runas_allows}
use Rattle.sudo_verdict.specs.Questions.{Question}
use Rattle.sudo_verdict.specs.Grants.{Grant, grants}
use Rattle.review_roots.specs.declared.block.Block.{Block}
use Rattle.review_roots.specs.declared.block.Sign.{Sign}
use Rattle.review_roots.specs.declared.given.Given.{Given}
use Rattle.review_texts.specs.Notes.{note_in}
use Rattle.review_grants.specs.declared.marks.Marks.{Marks}
use Rattle.review_grants.specs.Depends.{marks_at}
use Rattle.review_roots.specs.Levels.{after_row, denies, marks_after}
use Rattle.review_roots.specs.Passwords.{free_row, unasked_row}

-- a grant, of whose command is known only whether it is ALL, with the notes of its rule
pub record Row : Type 0 where
  pub place : Place
  pub users : List Member
  pub hosts : List Member
  pub runas : Option Runas
  pub tags : Tags
  pub marks : Marks
  pub negated : Bool
  pub all : Bool

abbrev pub row_of : Policy → Grant → Row
row_of p g = record {
  place = g.place;
  users = g.users;
  hosts = g.hosts;
  runas = g.runas;
  tags = g.tags;
  marks = marks_at p g.place;
  negated = denies g;
  all = is_all g.atom;
}

-- the sign of an atom, where one that stands for a note allows nothing, and whether it is ALL
abbrev pub sign_of : Signed → Sign
sign_of w = record { negated = w.negated || is_some (note_in w.atom); all = is_all w.atom }

abbrev pub block_row : Block → Sign → Row
block_row b s = record {
  place = b.place;
  users = b.users.now;
  hosts = b.hosts.now;
  runas = option_copied b.runas;
  tags = b.tags;
  marks = b.marks;
  negated = s.negated;
  all = s.all;
}

-- the rows of a block: one for each sign
abbrev pub block_rows : Block → List Row
block_rows b = map (block_row b) b.signs.items

-- the blocks are the rows of the policy
abbrev pub AreBlocks : Policy → List Block → Type 0
AreBlocks p blocks = flat_map block_rows blocks ≡ map (row_of p) (grants p)

-- the lists of a block resolve
abbrev pub block_resolves : Policy → Block → Bool
block_resolves p b =
    (resolves kind.User p b.users.now && resolves kind.Host p b.hosts.now) && runas_resolves p (option_copied b.runas)

-- what is given with a further row
abbrev pub with_row : Given → Row → Given
with_row a r = record {
  level = after_row r.marks a.level r.negated r.all;
  free = free_row r.marks a.free r.negated r.tags r.all;
  unasked = unasked_row r.marks a.unasked r.negated r.tags r.all;
  by = if r.negated then a.by else Some (record { place = r.place; tags = r.tags });
  marks = marks_after a.marks r.marks r.all;
}

-- what is given with further rows, in their order
abbrev pub with_rows : Given → List Row → Given
with_rows a rs = fold with_row a rs

-- the user list of the block allows the user
abbrev pub lists : Policy → Person → Block → Bool
lists p u b = user_allowed p b.users.now u

-- the host list of the block allows the host
abbrev pub is_for : Policy → Machine → Block → Bool
is_for p m b = host_allowed p b.hosts.now m

-- the block's user list allows the user, its host list the host, and its runas the question
abbrev pub stands : Policy → Question → Block → Bool
stands p q b = lists p q.user b && (is_for p q.host b && runas_allows p q (option_copied b.runas))

-- the rows of the block, if it stands
abbrev pub standing_rows : Policy → Question → Block → List Row
standing_rows p q b = if stands p q b then block_rows b else []
