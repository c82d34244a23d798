use Rattle.std.proofs.Common.{◌≡◌, ◌∙◌, ◌/◌, ◌≤◌, List, ℕ, Vec, Global, ap, arith, false, length, map, subst, sym}
use Rattle.std.specs.Prelude.{◌*◌, drop, nat_lt}
use Rattle.std.proofs.lemmas.List.{length-map}
use Rattle.std.proofs.lemmas.Result.{IfOk-weaker}
use Rattle.review_compare.specs.Table.{missing}
use Rattle.review_compare.proofs.TextLemmas.{few-listed, names-joined}
use Rattle.review_compare.proofs.text.names_text.Goals as goal

pub returns : goal.returns
returns c =
    let names : List (List ℕ) = map (λ v. v.items) c.args.names.now in
    let numbers = c.args.numbers.now in
    let long : length names ≡ length c.args.names.now = length-map c.args.names.now (λ v. v.items) in
    let few : nat_lt (4 * length (missing (length names) numbers)) (length numbers) ≡ false =
    ap (λ k. nat_lt (4 * length (missing k numbers)) (length numbers)) long
    ∙ ap (λ (xs : List ℕ). nat_lt (4 * length xs) (length numbers)) (sym c.in_ok-missing.ensures)
    ∙ ap (λ (xs : List ℕ). nat_lt (4 * length xs) (length numbers)) (sym c.deref.ensures.value)
    ∙ sym c.is_brief.ensures ∙ c.if-is_brief.false in
    IfOk-weaker c.listed_names-2.result _ _ (λ (text : Vec ℕ Global) is. is ∙ names-joined names numbers few) c.listed_names-2.ensures

pub returns-then-numbers-names : goal.returns-then-numbers-names
returns-then-numbers-names c =
    let names : List (List ℕ) = map (λ v. v.items) c.args.names.now in
    let numbers = c.args.numbers.now in
    let long : length names ≡ length c.args.names.now = length-map c.args.names.now (λ v. v.items) in
    let half : length numbers ≤ length names / 2 =
    subst (λ k. length numbers ≤ k / 2) (sym long) c.if-numbers-names.true in
    IfOk-weaker c.listed_names.result _ _
    (λ (text : Vec ℕ Global) is. is ∙ names-joined names numbers (few-listed numbers (length names) half)) c.listed_names.ensures
