use Rattle.std.proofs.Common.{◌==◌, ◌||◌, [], refl, sym, ◌∙◌, inl}
use Rattle.cat_serve.specs.Replies.{is_head, said_bytes}
use Rattle.cat_serve.specs.Sessions.{asks_to_close}
use Rattle.cat_serve.proofs.Answering.{closed, cut, goes_on, untold}
use Rattle.cat_serve.proofs.Told.{appends_nothing}
use Rattle.cat_serve.proofs.Visiting.{is_visit, visit_as}
use Rattle.cat_serve.proofs.answer.answer.Goals as goal

pub returns-else-closes-clause-on : goal.returns-else-closes-clause-on
returns-else-closes-clause-on g c =
    let says = c.said_to-said.ensures.says in
    let replies = rw (c.is_last.ensures, c.closes-closes.ensures, c.is_head.ensures) at c.in-Ok.ensures.reply in (
      says.0,
      says.1,
      λ k p begins rest asked. goes_on c.args.desk.now says.0 k p c.args.left c.args.request.now rest _ c.args.pass.now _ _ _ _ asked begins says.2 replies
          (sym c.closes-closes.ensures ∙ c.if-closes.false) c.in-Ok-send.ensures.ok,
    )

pub returns-then-closes-clause-ends : goal.returns-then-closes-clause-ends
returns-then-closes-clause-ends g c =
    let says = c.said_to-said.ensures.says in
    let replies = rw (c.is_last.ensures, c.closes-closes.ensures, c.is_head.ensures) at c.in-Ok.ensures.reply in (
      says.0,
      says.1,
      λ k p begins rest asked. closed c.args.desk.now says.0 k p c.args.left c.args.request.now rest _ c.args.pass.now _ _ _ _ asked begins says.2 replies
          (sym c.closes-closes.ensures ∙ c.if-closes.true) c.in-Ok-send.ensures.ok,
    )

pub returns-in-Err-send-clause-ends : goal.returns-in-Err-send-clause-ends
returns-in-Err-send-clause-ends g c =
    let says = c.said_to-said.ensures.says in
    let replies = rw (c.is_last.ensures, c.closes-closes.ensures, c.is_head.ensures) at c.in-Ok.ensures.reply in (
      says.0,
      says.1,
      λ k p begins rest asked. cut c.args.desk.now says.0 k p c.args.left c.args.request.now rest _ c.args.pass.now _ _ _ _ asked begins says.2 replies c.in-Err-send.ensures.front,
    )

pub returns-in-Err-clause-ends : goal.returns-in-Err-clause-ends
returns-in-Err-clause-ends g c =
    let says = c.said_to-said.ensures.says in (
      says.0,
      says.1,
      λ k p begins rest asked. untold c.args.desk.now says.0 k p c.args.left c.args.request.now rest c.args.pass.now _ _ _ asked begins says.2 c.in-Err.ensures.untold,
    )

pub returns-else-closes-clause-visit : goal.returns-else-closes-clause-visit
returns-else-closes-clause-visit g c =
    let replies = rw (c.is_last.ensures, c.closes-closes.ensures, c.is_head.ensures) at c.in-Ok.ensures.reply in
    let said = c.said_to-said.ensures in (
      visit_as c.args.desk.now c.args.settings.attempts c.args.pass.now _ _ _ c.args.request.now _ _ said.comes,
      refl,
      is_visit c.args.desk.now c.args.settings.attempts c.args.left c.args.pass.now _ _ _ c.args.request.now _ _ said.comes said.kept.number replies,
      sym c.closes-closes.ensures ∙ c.if-closes.false,
      c.in-Ok-send.ensures.ok,
    )

pub returns-then-closes-clause-last : goal.returns-then-closes-clause-last
returns-then-closes-clause-last g c =
    let replies = rw (c.is_last.ensures, c.closes-closes.ensures, c.is_head.ensures) at c.in-Ok.ensures.reply in
    let said = c.said_to-said.ensures in (
      visit_as c.args.desk.now c.args.settings.attempts c.args.pass.now _ _ _ c.args.request.now _ _ said.comes,
      refl,
      is_visit c.args.desk.now c.args.settings.attempts c.args.left c.args.pass.now _ _ _ c.args.request.now _ _ said.comes said.kept.number replies,
      _,
      c.in-Ok-send.ensures.ok,
      (sym c.closes-closes.ensures ∙ c.if-closes.true, refl),
    )

pub returns-in-Err-send-clause-last : goal.returns-in-Err-send-clause-last
returns-in-Err-send-clause-last g c =
    let replies = rw (c.is_last.ensures, c.closes-closes.ensures, c.is_head.ensures) at c.in-Ok.ensures.reply in
    let said = c.said_to-said.ensures in
    let front = c.in-Err-send.ensures.front in (
      visit_as c.args.desk.now c.args.settings.attempts c.args.pass.now _ _ _ c.args.request.now _ _ said.comes,
      refl,
      is_visit c.args.desk.now c.args.settings.attempts c.args.left c.args.pass.now _ _ _ c.args.request.now _ _ said.comes said.kept.number replies,
      _,
      front.1,
      (front.0, refl),
    )

-- no memory is left for the text of the reply
pub returns-in-Err-clause-last : goal.returns-in-Err-clause-last
returns-in-Err-clause-last g c =
    let said = c.said_to-said.ensures in
    let untold = said_bytes (asks_to_close c.args.request.now || c.args.left == 0) (is_head c.args.request.now) c.said_to-said.result in (
      visit_as c.args.desk.now c.args.settings.attempts c.args.pass.now _ _ _ c.args.request.now _ untold said.comes,
      refl,
      is_visit c.args.desk.now c.args.settings.attempts c.args.left c.args.pass.now _ _ _ c.args.request.now _ untold said.comes said.kept.number (inl refl),
      [],
      appends_nothing _,
      (c.in-Err.ensures.untold, refl),
    )
