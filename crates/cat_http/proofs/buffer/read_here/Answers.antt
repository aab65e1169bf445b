use Rattle.std.proofs.Common.{arith, sym, ap, ◌∙◌, take, length, length-drop, subst}
use Rattle.std.specs.Prelude.{slice_range}
use Rattle.cat_http.specs.Next.{HoldsRequest}
use Rattle.cat_http.specs.Window.{window}
use Rattle.cat_http.proofs.WindowLemmas.{to_end, window_room, window_full, window_left, outcome_in, fits_in}
use Rattle.cat_http.proofs.buffer.read_here.Goals as goal

pub read_next-requires-clause-room : goal.read_next-requires-clause-room
read_next-requires-clause-room g c =
    let all = c.as_mut_slice.result.now in
    let same = ap length c.as_mut_slice.ensures.value in
    omega (arith, ap length (to_end all c.args.base c.len-len.result (omega (arith, same))), length-drop c.args.base all, same)

pub read_next-requires-clause-filled : goal.read_next-requires-clause-filled
read_next-requires-clause-filled g c =
    let all = c.as_mut_slice.result.now in
    let same = ap length c.as_mut_slice.ensures.value in
    omega (arith, ap length (to_end all c.args.base c.len-len.result (omega (arith, same))), length-drop c.args.base all, same)

pub returns-clause-room : goal.returns-clause-room
returns-clause-room g c =
    let bytes = c.args.bytes.now in
    window_room bytes.items c.as_mut_slice.result.now c.read_next.new.bytes c.args.base c.len-len.result bytes.len (omega arith) (omega arith) (omega arith) c.as_mut_slice.ensures.value c.read_next.auto.bytes

pub returns-clause-within : goal.returns-clause-within
returns-clause-within g c =
    let bytes = c.args.bytes.now in
    let room = window_room bytes.items c.as_mut_slice.result.now c.read_next.new.bytes c.args.base c.len-len.result bytes.len (omega arith) (omega arith) (omega arith) c.as_mut_slice.ensures.value c.read_next.auto.bytes in
    let full = window_full bytes.items c.as_mut_slice.result.now c.read_next.new.bytes c.args.base c.len-len.result bytes.len (omega arith) (omega arith) (omega arith) c.as_mut_slice.ensures.value c.read_next.auto.bytes in
    omega (arith, room, full, c.read_next.ensures.within)

pub returns-clause-few : goal.returns-clause-few
returns-clause-few g c is =
    let all = c.as_mut_slice.result.now in
    let same = ap length c.as_mut_slice.ensures.value in
    omega (arith, c.read_next.ensures.room is, ap length (to_end all c.args.base c.len-len.result (omega (arith, same))), length-drop c.args.base all, same)

pub returns-clause-fits : goal.returns-clause-fits
returns-clause-fits g c =
    let bytes = c.args.bytes.now in
    let left = window_left bytes.items c.as_mut_slice.result.now c.read_next.new.bytes c.args.base c.len-len.result bytes.len (omega arith) (omega arith) (omega arith) c.as_mut_slice.ensures.value c.read_next.auto.bytes in
    fits_in c.read_next.result c.read_next.new.bytes _ c.read_next.new.headers c.read_next.new.end (sym left) c.read_next.ensures.fits

pub returns-clause-is : goal.returns-clause-is
returns-clause-is g c =
    let bytes = c.args.bytes.now in
    let all = c.as_mut_slice.result.now in
    let left = window_left bytes.items all c.read_next.new.bytes c.args.base c.len-len.result bytes.len (omega arith) (omega arith) (omega arith) c.as_mut_slice.ensures.value c.read_next.auto.bytes in
    let seen = to_end all c.args.base c.len-len.result (omega (arith, ap length c.as_mut_slice.ensures.value)) ∙ ap (λ xs. window xs c.args.base) c.as_mut_slice.ensures.value in
    outcome_in c.read_next.result _ _ (take c.args.end.now (slice_range all c.args.base c.len-len.result)) (take c.args.end.now (window bytes.items c.args.base))
    c.read_next.new.bytes _ c.read_next.new.headers c.read_next.new.end (ap (take c.args.end.now) seen) (sym left) c.read_next.ensures.is

pub returns-clause-still : goal.returns-clause-still
returns-clause-still g c is held =
    let bytes = c.args.bytes.now in
    let all = c.as_mut_slice.result.now in
    let left = window_left bytes.items all c.read_next.new.bytes c.args.base c.len-len.result bytes.len (omega arith) (omega arith) (omega arith) c.as_mut_slice.ensures.value c.read_next.auto.bytes in
    let seen = ap (take c.args.end.now) (to_end all c.args.base c.len-len.result (omega (arith, ap length c.as_mut_slice.ensures.value)) ∙ ap (λ xs. window xs c.args.base) c.as_mut_slice.ensures.value) in
    ap (take c.read_next.new.end) left ∙ c.read_next.ensures.still is (subst HoldsRequest (sym seen) held) ∙ seen

pub returns-clause-waits : goal.returns-clause-waits
returns-clause-waits g c held =
    let all = c.as_mut_slice.result.now in
    let seen = ap (take c.args.end.now) (to_end all c.args.base c.len-len.result (omega (arith, ap length c.as_mut_slice.ensures.value)) ∙ ap (λ xs. window xs c.args.base) c.as_mut_slice.ensures.value) in
    c.read_next.ensures.waits (subst HoldsRequest (sym seen) held)
