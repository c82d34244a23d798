use Rattle.std.proofs.Common.{◌≡◌, ◌<◌, ◌++◌, ◌∙◌, List, ap, get_or, length, refl, subst, sym}
use Rattle.review_compare.specs.declared.host_class.FoundHosts.{FoundHosts}
use Rattle.review_compare.specs.Body.Classes.{AddsFoundOn}
use Rattle.review_compare.proofs.FoundLemmas.{hosts-pushed, hosts-wider}
use Rattle.review_compare.proofs.host_class.add_hosts.Goals as goal

pub returns-in_ok-extend_from_slice-in-Some : goal.returns-in_ok-extend_from_slice-in-Some
returns-in_ok-extend_from_slice-in-Some c =
    let gs = c.args.groups.now.items in
    let i = c.in-Some.index in
    let r = c.index_mut.result.now in
    let v : FoundHosts = record { found = r.found; hosts = c.extend_from_slice.new.self } in
    let own = c.index_mut.ensures.value in
    hosts-wider c.args.found.now c.args.hosts.now v gs i r
    (subst (λ (hs : List FoundHosts). i < length hs) c.deref.ensures.value c.in-Some.ensures.0)
    (subst (λ (hs : List FoundHosts). (get_or hs i r).found.now ≡ c.args.found.now) c.deref.ensures.value (c.in-Some.ensures.1 r))
    (ap (λ (g : FoundHosts). g.found.now) own)
    (c.in_ok-extend_from_slice-in-Some.ensures.items ∙ ap (λ (g : FoundHosts). g.hosts.items ++ c.args.hosts.now) own)

pub returns-in_ok-push-in-None : goal.returns-in_ok-push-in-None
returns-in_ok-push-in-None c =
    let gs = c.args.groups.now.items in
    let v : FoundHosts = record { found = c.args.found; hosts = c.in_ok-hosts-in-None.hosts } in
    subst (λ (hs : List FoundHosts). AddsFoundOn gs c.args.found.now c.args.hosts.now hs) (sym c.in_ok-push-in-None.ensures.items)
    (hosts-pushed gs v c.args.found.now c.args.hosts.now refl c.in_ok-hosts-in-None.ensures.items)
