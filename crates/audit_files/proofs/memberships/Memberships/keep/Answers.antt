use Rattle.std.proofs.Common.{◌≡◌, ◌∙◌, ◌++◌, ◌∷◌, [], true, false, List, ap, sym, rules}
use Rattle.std.specs.Prelude.{bytes_eq}
use Rattle.sudo_match.specs.declared.people.Group.{Group}
use Rattle.sudo_match.specs.declared.people.Person.{Person}
use Rattle.audit_files.proofs.Members.{same_user, other_user}
use Rattle.audit_files.proofs.memberships.Memberships.keep.Goals as goal

pub returns-then-eq : goal.returns-then-eq
returns-then-eq c =
    let same : bytes_eq c.in-Some.last.name c.args.row.name ≡ true = search rules in
    let joined = same_user c.args.self.now.list.items c.pop.new.self.items c.in-Some.last c.args.row c.in-Some.ensures.items same in
    c.in_ok-push-2.ensures.items ∙ ap (λ (gs : List Group). c.pop.new.self.items
    ++ record c.in-Some.last { groups = gs } ∷ []) c.in_ok-append.ensures.ok ∙ sym joined

pub returns : goal.returns
returns c =
    let other : bytes_eq c.in-Some.last.name c.args.row.name ≡ false = search rules in
    let further = other_user c.args.self.now.list.items c.pop.new.self.items c.in-Some.last c.args.row c.in-Some.ensures.items other in
    c.in_ok-push-4.ensures.items ∙ ap (λ (l : List Person). l ++ c.args.row ∷ []) c.in_ok-push-3.ensures.items ∙ sym further
