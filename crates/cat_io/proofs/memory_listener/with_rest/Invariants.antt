use Rattle.std.proofs.Common.{◌≡◌, ◌+◌, ◌++◌, ◌≤◌, vec_capacity, vec_len}
use Rattle.std.specs.VecDeque.{deque_len}
use Rattle.cat_io.proofs.memory_listener.with_rest.Given as goal

abbrev pub invariant-loop-connection : goal.invariant-loop-connection
invariant-loop-connection l =
    (l.returned.items ++ l.waiting.items ≡ l.fn.returned.items ++ l.fn.waiting.items) × (deque_len l.waiting + vec_len l.returned ≤ vec_capacity l.returned)

abbrev pub decreases-loop-connection : goal.decreases-loop-connection
decreases-loop-connection l = deque_len l.waiting
