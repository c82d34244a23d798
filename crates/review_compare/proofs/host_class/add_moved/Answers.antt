use Rattle.std.proofs.Common.{◌∷◌, [], subst, sym}
use Rattle.std.proofs.lemmas.List.Elements.{All-get_or, All-set}
use Rattle.sudo_base.proofs.Options.{on_ok}
use Rattle.review_compare.specs.declared.host_class.HostClass.{HostClass}
use Rattle.review_compare.specs.Body.Classes.{AreSameBlocks, IsClass}
use Rattle.review_compare.proofs.ClassLemmas.{class-with, have-set, right-there}
use Rattle.review_compare.proofs.host_class.add_moved.Goals as goal

pub returns-clause-added : goal.returns-clause-added
returns-clause-added c =
    on_ok c.add.result
    (have-set c.args.classes.now.items c.args.index c.index_mut.result.now c.add.new.self (c.args.spot.host ∷ []) c.requires.within
    (sym c.index_mut.ensures.value))
    c.add.ensures

pub returns-clause-classes : goal.returns-clause-classes
returns-clause-classes c =
    let p = c.args.pair.now in
    let s = c.args.spot in
    let asked = c.args.asked.now in
    let ks = c.args.classes.now.items in
    let k = c.index_mut.result.now in
    let own = sym c.index_mut.ensures.value in
    let same = subst (λ (j : HostClass). AreSameBlocks j.listed c.args.listed.now) own (c.requires.same k) in
    let class = subst (IsClass p s.user s.person.now asked) own
    (All-get_or (IsClass p s.user s.person.now asked) ks c.args.index k c.requires.within c.requires.classes) in
    on_ok c.add.result
    (λ is. All-set (IsClass p s.user s.person.now asked) ks c.args.index c.add.new.self
    (class-with p s.user s.person.now asked k c.add.new.self (s.host ∷ []) class
    (right-there p s c.args.listed.now asked k c.requires.spot c.requires.listed same class) is) c.requires.classes)
    c.add.ensures
