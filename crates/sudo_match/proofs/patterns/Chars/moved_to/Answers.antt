use Rattle.sudo_match.proofs.patterns.Chars.moved_to.Goals as goal

pub loop-known-init : goal.loop-known-init
loop-known-init c = c.requires.knows

pub moved_on-known-requires-clause-knows : goal.moved_on-known-requires-clause-knows
moved_on-known-requires-clause-knows c = c.loop-known.invariant

pub loop-known-preserved : goal.loop-known-preserved
loop-known-preserved c = c.moved_on-known.ensures.knows

pub returns : goal.returns
returns c = record { knows = c.loop-known.invariant }
