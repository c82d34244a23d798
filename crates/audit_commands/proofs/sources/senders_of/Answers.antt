use Rattle.std.proofs.Common.{◌≡◌, ◌+◌, ◌<◌, ℕ, List, [], ◌∷◌, ◌++◌, length, get_or, take, map, sym, ◌∙◌, arith, subst, Bor}
use Rattle.std.proofs.Math.ListN.{get_or-map}
use Rattle.std.proofs.lemmas.List.{map_push, length-map}
use Rattle.audit_commands.specs.Opening.{AreSenders, Pair, word_of}
use Rattle.audit_commands.proofs.Openings.{senders_more}
use Rattle.audit_commands.proofs.sources.senders_of.Goals as goal

pub loop-word-preserved : goal.loop-word-preserved
loop-word-preserved c =
    let at : ℕ = c.loop-word.word-index in
    let text : Bor (List ℕ) → List ℕ = λ w. w.now in
    let cut : Bor (List ℕ) × Bor (List ℕ) → Pair = λ p. (p.0.now, p.1.now) in
    let words : List (List ℕ) = map text c.args.words.now in
    let pair : Pair = (c.in-Some.sender.0.now, c.in-Some.sender.1.now) in
    let none : Bor (List ℕ) = record { ref_ptr = (0, 0); now = [] } in
    let long = length-map c.args.words.now text in
    let within : at < length words = omega (arith, long, c.loop-word-test.true) in
    let is : get_or words at [] ≡ word_of pair = get_or-map text c.args.words.now at none ∙ c.in-Some.ensures.parts in
    let more : AreSenders (take (at + 1) words) (map cut c.loop-word.senders.items ++ pair ∷ []) =
    senders_more words (map cut c.loop-word.senders.items) at pair c.loop-word.invariant within is c.in-Some.ensures.name in
    subst (λ l. AreSenders (take (at + 1) words) (map cut l)) (sym c.in_ok-push-in-Some.ensures.items)
    (subst (AreSenders (take (at + 1) words)) (sym (map_push cut c.loop-word.senders.items c.in-Some.sender)) more)
