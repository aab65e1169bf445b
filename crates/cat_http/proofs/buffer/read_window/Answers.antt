use Rattle.std.proofs.Common.{arith, refl, sym, ◌∙◌, take, subst}
use Rattle.cat_http.specs.Next.{HoldsRequest}
use Rattle.cat_http.specs.Window.{window}
use Rattle.cat_http.proofs.NextLemmas.{kept_stream, outcome_behind}
use Rattle.cat_http.proofs.WindowLemmas.{window_grows, outcome_in}
use Rattle.cat_http.proofs.buffer.read_window.Goals as goal

pub returns-clause-is : goal.returns-clause-is
returns-clause-is g c =
    let was = c.read_here.new.bytes.items in
    let now = window c.read_here-2.new.bytes.items c.args.base in
    let same = window_grows was c.widen.new.bytes.items c.args.base c.read_here.new.end c.in-NoRoom.ensures.within c.widen.ensures.front in
    outcome_behind c.read_here-2.result _ _ _ (take c.args.end.now (window c.args.bytes.now.items c.args.base)) (take c.read_here.new.end (window was c.args.base)) now c.read_here-2.new.headers c.read_here-2.new.end
    (kept_stream _ _ _ (window was c.args.base) c.read_here.new.headers c.read_here.new.end c.in-NoRoom.ensures.is)
    (outcome_in c.read_here-2.result _ _ (take c.read_here.new.end (window c.widen.new.bytes.items c.args.base)) _ now now c.read_here-2.new.headers c.read_here-2.new.end same refl c.read_here-2.ensures.is)

pub returns-clause-waits : goal.returns-clause-waits
returns-clause-waits g c held =
    let same = window_grows c.read_here.new.bytes.items c.widen.new.bytes.items c.args.base c.read_here.new.end c.in-NoRoom.ensures.within c.widen.ensures.front in
    c.read_here-2.ensures.waits (subst HoldsRequest (sym (same ∙ c.in-NoRoom.ensures.still refl held)) held) ∙ c.in-NoRoom.ensures.waits held

pub returns-clause-answers : goal.returns-clause-answers
returns-clause-answers g c is = omega (arith, c.read_here-2.ensures.few is, c.widen.ensures.room)
