use Rattle.std.proofs.Common.{◌≡◌, ◌∙◌, ◌++◌, [], ℕ, take, Ok, Option, refl, sym, ap}
use Rattle.audit_files.specs.Faults.{unless}
use Rattle.audit_files.specs.Files.{stated_by}
use Rattle.audit_files.specs.Requests.{request_fault, requests_in, requests_of}
use Rattle.audit_files.specs.declared.fault.FileFault.{FileFault}
use Rattle.audit_files.proofs.requests.requests_of_text.Goals as goal

pub gather_requests-requires : goal.gather_requests-requires
gather_requests-requires c = c.behind-table.ensures.holds [] refl refl refl

pub returns-clause-stated : goal.returns-clause-stated
returns-clause-stated c =
    let (rest, header, faultless, holds) = c.in_ok-gather_requests.ensures.ok in
    let (list, close) = c.into_requests.ensures rest holds in
    let none : c.gather_requests.new.table.earlier ≡ 0 = c.gather_requests.ensures.earlier ∙ c.behind-table.ensures.earlier in
    let all : requests_in rest ≡ c.into_requests.result.list = sym list
    ∙ ap (λ (n : ℕ). take n (requests_in rest) ++ c.into_requests.result.list) none in
    ap (stated_by request_fault requests_of) header ∙ ap (λ (o : Option FileFault). unless o (requests_of rest)) faultless
    ∙ (λ i. Ok (record { list = all i; close = sym close i }))
