-- The lists of the rules of a checked policy resolve.
use Rattle.std.proofs.Common.{◌≡◌, true, refl}
use Rattle.std.specs.List.{list_all}
use Rattle.sudo_text.specs.declared.line.Place.{Place}
use Rattle.sudo_grammar.specs.declared.policy.Entry.{Entry}
use Rattle.sudo_grammar.specs.declared.policy.EntryBody.{EntryBody}
use Rattle.sudo_grammar.specs.declared.policy.EntryBody.TheVariants.{Rule}
use Rattle.sudo_grammar.specs.declared.policy.Policy.{Policy}
use Rattle.sudo_policy.specs.Definitions.{lists_of, lists_of_body}
use Rattle.sudo_policy.specs.Resolving.{IsSound}
use Rattle.sudo_policy.proofs.SoundLemmas.{holds, entries-resolve, rule_holds, all_weaker}
use Rattle.sudo_verdict.specs.Body.Resolved.{body_resolves}

body-holds : (p : Policy) (place : Place) (body : EntryBody) → list_all (holds p) (lists_of_body place body) ≡ true
    → body_resolves p body ≡ true
body-holds p place (Rule users sections) h = rule_holds p place users sections h
body-holds p place _ h = refl

pub bodies_resolve : (p : Policy) → IsSound p → list_all (λ (e : Entry). body_resolves p e.body) p.entries ≡ true
bodies_resolve p sound =
    all_weaker (λ (e : Entry). list_all (holds p) (lists_of e)) (λ (e : Entry). body_resolves p e.body)
    (λ e h. body-holds p e.place e.body h) p.entries (entries-resolve p sound)
