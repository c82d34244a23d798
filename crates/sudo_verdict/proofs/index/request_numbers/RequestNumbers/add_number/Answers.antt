use Rattle.sudo_verdict.proofs.index.request_numbers.RequestNumbers.add_number.Goals as goal

pub returns-clause-keeps : goal.returns-clause-keeps
returns-clause-keeps c other noted =
    (c.add.ensures.keeps other noted.0, λ rule missed. noted.1 rule (c.add-2.ensures.keeps rule missed))
