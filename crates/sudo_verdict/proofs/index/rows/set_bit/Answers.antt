use Rattle.sudo_verdict.proofs.Bits.{bit-set_same, bit-set_other}
use Rattle.sudo_verdict.proofs.index.rows.set_bit.Goals as goal

pub returns-clause-sets : goal.returns-clause-sets
returns-clause-sets c = bit-set_same c.args.words.now c.args.rule c.requires

pub returns-clause-keeps : goal.returns-clause-keeps
returns-clause-keeps c other had = bit-set_other c.args.words.now c.args.rule other c.requires had
