use Rattle.std.proofs.Common.{◌≡◌, fold, zip}
use Rattle.std.specs.Iterator.Adapters.{zip_first, zip_second}
use Rattle.std.specs.Slice.Iter.{iter_rest}
use Rattle.audit_files.specs.Report.{tags_text, with_tag}
use Rattle.audit_files.proofs.report.put_tags.Given as goal

-- with the tags of the pairs that are left, the text is the whole
abbrev pub invariant-loop-pair : goal.invariant-loop-pair
invariant-loop-pair l = tags_text l.tags
    ≡ fold with_tag l.text.items (zip (iter_rest (zip_first l.pair-iterator)) (iter_rest (zip_second l.pair-iterator)))
