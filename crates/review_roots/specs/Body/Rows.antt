-- The last row that allows, behind a block; only proofs of bodies need this definition.
use Rattle.std.specs.Prelude.{if◌then◌else◌, Option, Some}
use Rattle.review_roots.specs.declared.block.Block.{Block}
use Rattle.review_roots.specs.declared.given.AllowingRow.{AllowingRow}

abbrev pub by_behind : Block → Option AllowingRow → Option AllowingRow
by_behind b by = if b.effect.allows then Some (record { place = b.place; tags = b.tags }) else by
