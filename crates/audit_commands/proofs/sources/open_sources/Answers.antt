use Rattle.std.proofs.Common.{◌≡◌, ◌+◌, ◌<◌, ℕ, List, [], ◌∷◌, ◌++◌, length, get_or, take, map, sym, arith, subst, Bor}
use Rattle.std.proofs.lemmas.List.{get_or-map, length-map}
use Rattle.audit_commands.specs.Opening.{AreOpened, Pair}
use Rattle.audit_commands.proofs.Openings.{no_source, opened_more}
use Rattle.audit_commands.proofs.sources.open_sources.Goals as goal

pub loop-name-preserved : goal.loop-name-preserved
loop-name-preserved g c =
    let at : ℕ = c.loop-name.name-index in
    let cut : Bor (List ℕ) × Bor (List ℕ) → Pair = λ p. (p.0.now, p.1.now) in
    let none : Bor (List ℕ) = record { ref_ptr = (0, 0); now = [] } in
    let here : Bor (List ℕ) × Bor (List ℕ) = get_or c.args.senders.now at (none, none) in
    let pair : Pair = cut here in
    let pairs : List Pair = map cut c.args.senders.now in
    let long = length-map c.args.senders.now cut in
    let inside : at < length c.args.senders.now = c.loop-name-test.true in
    let within : at < length pairs = omega (arith, long, inside) in
    let is : get_or pairs at pair ≡ pair = get_or-map cut c.args.senders.now at (none, none) pair inside in
    let opened = c.in-Ok.ensures.opened in
    let more : AreOpened (g.O.Opener.opens c.args.opener.now) (take (at + 1) pairs) (c.loop-name.sources.items ++ c.in-Ok.source ∷ []) =
    opened_more (g.O.Opener.opens c.args.opener.now) pairs c.loop-name.sources.items at pair c.in-Ok.source
    c.loop-name.invariant within is opened.0 opened.1 in
    subst (λ l. AreOpened (g.O.Opener.opens c.args.opener.now) (take (at + 1) pairs) l) (sym c.in_ok-push-in-Ok.ensures.items) more

pub returns-in-Err-clause-fault : goal.returns-in-Err-clause-fault
returns-in-Err-clause-fault g c =
    let at : ℕ = c.loop-name.name-index in
    let cut : Bor (List ℕ) × Bor (List ℕ) → Pair = λ p. (p.0.now, p.1.now) in
    let none : Bor (List ℕ) = record { ref_ptr = (0, 0); now = [] } in
    let here : Bor (List ℕ) × Bor (List ℕ) = get_or c.args.senders.now at (none, none) in
    let pair : Pair = cut here in
    let pairs : List Pair = map cut c.args.senders.now in
    let long = length-map c.args.senders.now cut in
    let inside : at < length c.args.senders.now = c.loop-name-test.true in
    let within : at < length pairs = omega (arith, long, inside) in
    let is : get_or pairs at pair ≡ pair = get_or-map cut c.args.senders.now at (none, none) pair inside in
    no_source (g.O.Opener.opens c.args.opener.now) (g.O.Opener.closed c.args.opener.now) pairs
    c.loop-name.sources.items at pair c.in-Err.fault c.loop-name.invariant within is c.in-Err.ensures.fault
