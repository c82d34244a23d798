use Rattle.std.proofs.Common.{◌≡◌, ◌+◌, ◌≤◌, ◌∙◌, ℕ, List, ◌++◌, take, drop, length, ◌-◌, sym, ap, arith, append_assoc, Option, Some, None}
use Rattle.std.proofs.lemmas.List.{length-drop, take_all}
use Rattle.std.proofs.Math.Seq.{take-add}
use Rattle.std.specs.Io.KnownBytes.{Appends}
use Rattle.audit_files.proofs.sink.write_all_of.Goals as goal

-- two writes, one after the other
appends_more : (a b c : Option (List ℕ)) (x y z : List ℕ) → z ≡ x ++ y → Appends a b x → Appends b c y → Appends a c z
appends_more None b c x y z e p q = tt
appends_more (Some a) None c x y z e p q = absurd p
appends_more (Some a) (Some b) None x y z e p q = absurd q
appends_more (Some a) (Some b) (Some c) x y z e p q = q ∙ ap (λ xs. xs ++ y) p ∙ append_assoc a x y ∙ ap (λ xs. a ++ xs) (sym e)

pub loop-written-preserved : goal.loop-written-preserved
loop-written-preserved g c =
    let inv = c.loop-written.invariant in
    let n = c.in-Ok.n in
    let at = c.loop-written.written in
    let bytes = c.args.bytes.now in
    let more : Appends (g.W.Sink.taken c.loop-written.writer) (g.W.Sink.taken c.write.new.self)
    (take n (take (length bytes - at) (drop at bytes))) = c.in-Ok.ensures.bytes in
    let rest : take (length bytes - at) (drop at bytes) ≡ drop at bytes =
    take_all (length bytes - at) (drop at bytes) (rw length-drop (omega arith)) in
    let bound : n ≤ length (take (length bytes - at) (drop at bytes)) = c.in-Ok.ensures.bound in
    let within : n ≤ length bytes - at = rw (rest, length-drop) at bound in
    let stalls : g.W.Sink.stalled_writes c.write.new.self ≡ g.W.Sink.stalled_writes c.loop-written.writer =
    grind (arith, c.in-Ok.ensures.stalls) in (
      omega arith,
      appends_more (g.W.Sink.taken c.args.writer.now) (g.W.Sink.taken c.loop-written.writer)
          (g.W.Sink.taken c.write.new.self) (take at bytes) (take n (drop at bytes)) (take (at + n) bytes)
          (take-add at n bytes) inv.1 (rw rest at more),
      stalls ∙ inv.2,
    )
