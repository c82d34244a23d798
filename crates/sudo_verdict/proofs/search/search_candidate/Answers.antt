use Rattle.sudo_verdict.proofs.search.search_candidate.Goals as goal

pub search_sections-requires-clause-keys : goal.search_sections-requires-clause-keys
search_sections-requires-clause-keys c =
    rw c.as_slice-sections.ensures (c.rule_keys-keys.ensures c.args.entry.now c.in-Rule.users c.in-Rule.sections
    c.requires.there c.in-Rule.is).1

pub user_listed-requires-clause-keys : goal.user_listed-requires-clause-keys
user_listed-requires-clause-keys c =
    rw c.as_slice.ensures (c.rule_keys-keys.ensures c.args.entry.now c.in-Rule.users c.in-Rule.sections c.requires.there c.in-Rule.is).0
