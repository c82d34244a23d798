use Rattle.std.proofs.Common.{◌<◌, length, refl, sym}
use Rattle.std.proofs.lemmas.Option.{slice_get_read}
use Rattle.sudo_base.proofs.Options.{on_ok}
use Rattle.sudo_verdict.proofs.Misses.{row-within, posted_set, grows-set}
use Rattle.sudo_verdict.proofs.index.rows.Rows.post.Goals as goal

pub returns-clause-grows : goal.returns-clause-grows
returns-clause-grows c =
    let within : c.row_index-index.result < length c.args.self.now.rows.items =
    row-within c.args.self.now.rows.items c.args.number c.row_index-index.result c.row_index-index.ensures c.requires in
    grows-set c.args.self.now.rows.items c.row_index-index.result c.index_mut.result.now c.post_in.new.row within
    (slice_get_read c.args.self.now.rows.items (length c.args.self.now.rows.items) c.row_index-index.result
    c.index_mut.result.now refl within c.index_mut.ensures.value)
    c.post_in.ensures.keeps

pub returns-clause-posted : goal.returns-clause-posted
returns-clause-posted c =
    let within : c.row_index-index.result < length c.args.self.now.rows.items =
    row-within c.args.self.now.rows.items c.args.number c.row_index-index.result c.row_index-index.ensures c.requires in
    on_ok c.post_in.result
    (λ there. posted_set c.args.self.now.rows.items c.row_index-index.result c.post_in.new.row c.args.number
    c.args.rule within (sym c.row_index-index.ensures) there)
    c.post_in.ensures.sets
