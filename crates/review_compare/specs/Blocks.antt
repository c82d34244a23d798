-- The grants of a policy as rows with whom they are for, and the blocks in which a program has them. sudoers(5), "User
-- Specification".
use Rattle.std.specs.Prelude.{◌≡◌, Bool, ◌&&◌, if◌then◌else◌, List, [], map, flat_map, option_copied}
use Rattle.sudo_grammar.specs.declared.kind.Kind.TheVariants as kind
use Rattle.sudo_grammar.specs.declared.policy.Policy.{Policy}
use Rattle.sudo_policy.specs.Resolving.{resolves, runas_resolves}
use Rattle.sudo_verdict.specs.Values.{user_allowed, host_allowed}
use Rattle.sudo_verdict.specs.RunasForms.{runas_allows}
use Rattle.sudo_verdict.specs.Questions.{Question}
use Rattle.sudo_verdict.specs.Grants.{grants}
use Rattle.review_compare.specs.declared.block.Block.{Block}
use Rattle.review_compare.specs.declared.block.BlockRow.{BlockRow}
use Rattle.review_compare.specs.Cells.{Decider, Wide, policy_rows, wide_of}

abbrev pub block_decider : Block → BlockRow → Decider
block_decider b r = record { place = b.place; answer = r.answer; before = r.before.now; atom = r.shape.atom }

abbrev pub block_wide : Block → BlockRow → Wide
block_wide b r = record { users = b.users.now; hosts = b.hosts.now; runas = option_copied b.runas; decider = block_decider b r }

-- the rows of a block: one for each atom
abbrev pub block_wides : Block → List Wide
block_wides b = map (block_wide b) b.rows.items

-- the blocks are the grants of the policy, as far as they are without what stands before them
abbrev pub AreGrants : Policy → List Block → Type 0
AreGrants p blocks = flat_map block_wides blocks ≡ map wide_of (grants p)

-- the blocks are the rows of the policy
abbrev pub AreBlocks : Policy → List Block → Type 0
AreBlocks p blocks = flat_map block_wides blocks ≡ policy_rows p

-- the lists of a block resolve
abbrev pub block_resolves : Policy → Block → Bool
block_resolves p b = (resolves kind.User p b.users.now && resolves kind.Host p b.hosts.now) && runas_resolves p (option_copied b.runas)

-- the block's lists allow the user and the host, and its runas the target and the group
abbrev pub block_stands : Policy → Question → Block → Bool
block_stands p q b =
    (user_allowed p b.users.now q.user && host_allowed p b.hosts.now q.host) && runas_allows p q (option_copied b.runas)

-- what the block answers, if it stands
abbrev pub standing : Policy → Question → Block → List Decider
standing p q b = if block_stands p q b then map (block_decider b) b.rows.items else []
