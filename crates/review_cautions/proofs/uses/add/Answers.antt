use Rattle.std.proofs.Common.{rules, ◌≡◌, None}
use Rattle.sudo_base.specs.NameIndices.{index_of}
use Rattle.review_cautions.proofs.UseLaws.{added}
use Rattle.review_cautions.proofs.uses.add.Goals as goal

pub returns-in_ok-insert : goal.returns-in_ok-insert
returns-in_ok-insert c other =
    let new : index_of c.args.names.now c.args.name.now ≡ None = search rules in
    added c.args.names.now c.insert.new.self c.args.name.now other new c.in_ok-insert.ensures.ok
