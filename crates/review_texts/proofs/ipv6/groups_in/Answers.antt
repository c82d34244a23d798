use Rattle.std.proofs.Common.{arith}
use Rattle.review_texts.proofs.Groups.{digit_room}
use Rattle.review_texts.proofs.ipv6.groups_in.Goals as goal

pub overflow_mul-value : goal.overflow_mul-value
overflow_mul-value c =
    let room = digit_room c.loop-byte.count c.loop-byte.value (omega arith) c.loop-byte.invariant.low in
    omega (arith, room)

pub overflow_add-value : goal.overflow_add-value
overflow_add-value c =
    let room = digit_room c.loop-byte.count c.loop-byte.value (omega arith) c.loop-byte.invariant.low in
    omega (arith, room)
