use Rattle.std.proofs.Common.{◌≡◌, drop, fold}
use Rattle.review_roots.specs.Body.Firsts.{with_blocks, with_user}
use Rattle.review_roots.proofs.firsts.Firsts.note_aims.Given as goal

abbrev pub invariant-loop-aimed : goal.invariant-loop-aimed
invariant-loop-aimed l = record {
  users : fold (with_user l.start) l.self.users.items (drop l.aimed-index l.aims)
      ≡ fold (with_user l.start) l.initial.self.users.items l.aims;
  blocks : fold (with_blocks l.start) l.self.blocks.items (drop l.aimed-index l.aims)
      ≡ fold (with_blocks l.start) l.initial.self.blocks.items l.aims;
}
