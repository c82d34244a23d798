use Rattle.std.proofs.Common.{◌∙◌, ap, sym, []}
use Rattle.sudo_parser.specs.Parsed.{over_limit, room_after}
use Rattle.sudo_load.proofs.EntryPlaces.{over_limit_placed}
use Rattle.sudo_load.proofs.loading.policy_of.Goals as goal

pub returns-in-Some-clause-placed : goal.returns-in-Some-clause-placed
returns-in-Some-clause-placed c = over_limit_placed _ (room_after []) c.args.loaded.entries c.in-Some.place c.requires.placed
    (sym (c.first_over_limit.ensures ∙ ap over_limit c.as_slice.ensures) ∙ c.in-Some.is)
