use Rattle.sudo_load.proofs.EntryPlaces.{start-fine, start-refused, refusal-placed}
use Rattle.sudo_load.proofs.loading.load.Goals as goal

pub policy_of-requires : goal.policy_of-requires
policy_of-requires c = start-fine 128 c.in-Ok.path c.args.text.now c.args.supplies.now c.nothing_loaded.result
    c.in-Ok-load_text.loaded c.nothing_loaded.ensures c.in-Ok-load_text.ensures

pub returns-in-Err-clause-load : goal.returns-in-Err-clause-load
returns-in-Err-clause-load c = λ no_memory.
    start-refused c.args.path.now c.in-Ok.path c.args.text.now c.args.supplies.now c.nothing_loaded.result
    c.in-Err.refusal c.nothing_loaded.ensures c.in-Ok.ensures (c.in-Err.ensures.0 no_memory)

pub returns-in-Err-clause-placed : goal.returns-in-Err-clause-placed
returns-in-Err-clause-placed c =
    refusal-placed c.in-Ok.path c.args.text.now c.args.supplies.now c.nothing_loaded.result c.in-Err.refusal
    c.nothing_loaded.ensures c.in-Err.ensures.0
