use Rattle.std.proofs.Common.{◌≡◌, ◌+◌, ◌-◌, ◌*◌, ◌/◌, ◌++◌, ℕ, List, [], ◌∷◌, take, drop, length, sym, ap, subst, ◌∙◌, arith}
use Rattle.std.proofs.Math.Seq.{take-append_seam}
use Rattle.std.proofs.lemmas.List.{length-take-le}
use Rattle.sudo_verdict.specs.Body.Queries.{question}
use Rattle.sudo_verdict.specs.Body.Blocks.{IsMissed, both_have}
use Rattle.sudo_verdict.specs.Postings.{Index}
use Rattle.sudo_verdict.proofs.Silent.{block-silent}
use Rattle.sudo_verdict.proofs.index.rule_index.search_block.Goals as goal

pub search_candidates-requires-clause-silent : goal.search_candidates-requires-clause-silent
search_candidates-requires-clause-silent c i e before there none =
    let words : ℕ = (c.args.end - 1) / 64 + 1 - c.args.first in
    let rule : ℕ = 64 * c.args.first + i in
    let users = c.add_to.new.block in
    let commands = c.add_to-2.new.block in
    let begins = c.requires.begins in
    let block = c.requires.block in
    let within = c.requires.within in
    let user_words : length users ≡ words = c.add_to.ensures.count ∙ length-take-le words _ (omega (arith, begins, block)) in
    let command_words : length commands ≡ words = c.add_to-2.ensures.count ∙ length-take-le words _ (omega (arith, begins, block)) in
    let user_rows : c.index.inside.users.rows.items ≡ c.args.index.now.0 = ap (λ (v : Index). v.0) c.index.view_is in
    let command_rows : c.index.inside.commands.rows.items ≡ c.args.index.now.1.0 = ap (λ (v : Index). v.1.0) c.index.view_is in
    let rest : List ℕ = drop words (0 ∷ 0 ∷ 0 ∷ 0 ∷ 0 ∷ 0 ∷ 0 ∷ 0 ∷ []) in
    let one : take words (users ++ rest) ≡ users = ap (λ k. take k (users ++ rest)) (sym user_words) ∙ take-append_seam users rest in
    let two : take words (commands ++ rest) ≡ commands = ap (λ k. take k (commands ++ rest)) (sym command_words)
    ∙ take-append_seam commands rest in
    block-silent c.args.lists.checked.now c.args.index.now (question c.args.query.now) rule i e users commands
    c.requires.index (omega (arith, before, within)) there
    (λ zero. c.requires.users rule
    (subst (λ rows. IsMissed rows c.args.users.now rule) user_rows
    (c.add_to.ensures.has i (omega (arith, before, begins, user_words)) zero)))
    (λ zero. c.requires.commands rule
    (subst (λ rows. IsMissed rows c.args.commands.now rule) command_rows
    (c.add_to-2.ensures.has i (omega (arith, before, begins, command_words)) zero)))
    (sym (ap (λ u. both_have u (take words (commands ++ rest)) i) one ∙ ap (λ w. both_have users w i) two) ∙ none)
