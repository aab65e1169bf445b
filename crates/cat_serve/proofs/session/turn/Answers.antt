use Rattle.std.proofs.Common.{[], ◌∷◌, take, refl, ◌∙◌, inl, inr}
use Rattle.std.specs.Io.KnownBytes.{prepend_known}
use Rattle.cat_http.specs.declared.buffer.Incoming.TheVariants as incoming
use Rattle.cat_serve.specs.declared.ending.Session.TheVariants as ends
use Rattle.cat_serve.proofs.Reading.{asked, at_end, cut_short, goes_to, map_none, map_some, read_is, some_left, told_front, told_refused}
use Rattle.cat_model.specs.declared.refusal.Reason.TheVariants.{BadHead}
use Rattle.cat_model.specs.declared.refusal.Refusal.TheVariants.{BadRequest, TooLarge}
use Rattle.cat_serve.proofs.Visiting.{ends_so, ends_telling, ends_without, malformed_so, too_large_so, visited}
use Rattle.cat_serve.proofs.session.turn.Goals as goal

pub returns-in-Request-clause-on : goal.returns-in-Request-clause-on
returns-in-Request-clause-on g c = map_none c.answer.result c.answer.ensures.on (λ on. (
  on.0,
  on.1,
  λ k p begins one stands.
      let r = read_is _ _ _ c.args.buffer.now c.read_request.new.buffer p.bytes c.in-Request.ensures.is stands.bytes_are in
      let t = on.2 k p begins r.0 (asked c.args.desk.now p c.args.left c.request.result _ c.read_request.new.buffer _ r.0 _ _ _ c.request.ensures r.1 one stands) in
      (t.0, goes_to c.args.desk.now on.0 k p c.args.left r.0 t.0 _ _ _ t.1 r.1.rest_is),
))

pub returns-in-Request-clause-ends : goal.returns-in-Request-clause-ends
returns-in-Request-clause-ends g c = map_some _ _ c.answer.result c.answer.ensures.ends (λ end ends. (
  ends.0,
  ends.1,
  λ k p begins one stands.
      let r = read_is _ _ _ c.args.buffer.now c.read_request.new.buffer p.bytes c.in-Request.ensures.is stands.bytes_are in
      ends.2 k p begins r.0 (asked c.args.desk.now p c.args.left c.request.result _ c.read_request.new.buffer _ r.0 _ _ _ c.request.ensures r.1 one stands),
))

pub returns-in-End-clause-ends : goal.returns-in-End-clause-ends
returns-in-End-clause-ends g c = (
  [],
  refl,
  λ k p begins one stands.
      let r = read_is incoming.End (g.S.Source.left c.args.source.now) (g.S.Source.left c.read_request.new.source) c.args.buffer.now c.read_request.new.buffer p.bytes c.in-End.ensures.is stands.bytes_are in
      at_end c.args.desk.now k p c.args.left _ _ _ one r.1.is_so stands,
)

pub returns-in-Ok-clause-ends : goal.returns-in-Ok-clause-ends
returns-in-Ok-clause-ends g c = (
  [],
  refl,
  λ k p begins one stands.
      let r = read_is incoming.BadHead (g.S.Source.left c.args.source.now) (g.S.Source.left c.read_request.new.source) c.args.buffer.now c.read_request.new.buffer p.bytes c.in-BadHead.ensures.is stands.bytes_are in
      told_refused c.args.desk.now k p c.args.left _ _ ends.BadHead _ _ _ _ (λ h last x. x) one r.1.is_so stands c.in-Ok.ensures.written,
)

pub returns-in-Err-clause-ends : goal.returns-in-Err-clause-ends
returns-in-Err-clause-ends g c = (
  [],
  refl,
  λ k p begins one stands.
      let r = read_is incoming.BadHead (g.S.Source.left c.args.source.now) (g.S.Source.left c.read_request.new.source) c.args.buffer.now c.read_request.new.buffer p.bytes c.in-BadHead.ensures.is stands.bytes_are in
      let cut = c.in-Err.ensures.cut in
      told_front c.args.desk.now k p cut.0 _ _ _ _ (inr (inl (some_left c.args.left p.left one, r.1.is_so, cut.1, refl))) stands cut.2,
)

pub returns-in-Ok-refuse-clause-ends : goal.returns-in-Ok-refuse-clause-ends
returns-in-Ok-refuse-clause-ends g c = (
  [],
  refl,
  λ k p begins one stands.
      let r = read_is incoming.TooLarge (g.S.Source.left c.args.source.now) (g.S.Source.left c.read_request.new.source) c.args.buffer.now c.read_request.new.buffer p.bytes c.in-TooLarge.ensures.is stands.bytes_are in
      told_refused c.args.desk.now k p c.args.left _ _ ends.TooLarge _ _ _ _ (λ h last x. x) one r.1.is_so stands c.in-Ok-refuse.ensures.written,
)

pub returns-in-Err-refuse-clause-ends : goal.returns-in-Err-refuse-clause-ends
returns-in-Err-refuse-clause-ends g c = (
  [],
  refl,
  λ k p begins one stands.
      let r = read_is incoming.TooLarge (g.S.Source.left c.args.source.now) (g.S.Source.left c.read_request.new.source) c.args.buffer.now c.read_request.new.buffer p.bytes c.in-TooLarge.ensures.is stands.bytes_are in
      let cut = c.in-Err-refuse.ensures.cut in
      told_front c.args.desk.now k p cut.0 _ _ _ _ (inr (inr (some_left c.args.left p.left one, r.1.is_so, cut.1, refl))) stands cut.2,
)

pub returns-in-ReadFault-clause-cut : goal.returns-in-ReadFault-clause-cut
returns-in-ReadFault-clause-cut g c is b e =
    let r = read_is incoming.ReadFault (g.S.Source.left c.args.source.now) (g.S.Source.left c.read_request.new.source) c.args.buffer.now c.read_request.new.buffer b c.in-ReadFault.ensures.is e in
    (r.1.after, r.1.left_is, r.1.is_so)

pub returns-in-ReadFault-clause-ends : goal.returns-in-ReadFault-clause-ends
returns-in-ReadFault-clause-ends g c = ([], refl, λ k p begins one stands. cut_short c.args.desk.now k p c.args.left _ _ _ one stands)

-- ---- on any pass

pub returns-in-Request-clause-visit : goal.returns-in-Request-clause-visit
returns-in-Request-clause-visit g c = map_none c.answer.result c.answer.ensures.visit (λ x. (
  x.0,
  visited c.args.desk.now c.args.settings.attempts c.args.left c.args.pass.now _ _ _ _ _ _ _ c.args.buffer.now c.read_request.new.buffer x.0 c.in-Request.ensures.is (x.1 ∙ c.request.ensures) x.2,
  x.3,
  x.4,
))

pub returns-in-Request-clause-last : goal.returns-in-Request-clause-last
returns-in-Request-clause-last g c = map_some _ _ c.answer.result c.answer.ensures.last (λ end x. record {
  left = c.args.left;
  rest = prepend_known c.read_request.new.buffer.unread (g.S.Source.left c.read_request.new.source);
  last = x.0 ∷ [];
  tail = x.3;
  ends = (visited c.args.desk.now c.args.settings.attempts c.args.left c.args.pass.now _ _ _ _ _ _ _ c.args.buffer.now c.read_request.new.buffer x.0 c.in-Request.ensures.is (x.1 ∙ c.request.ensures) x.2, x.5);
  written = x.4;
})

pub returns-in-End-clause-last : goal.returns-in-End-clause-last
returns-in-End-clause-last g c = ends_without c.args.desk.now c.args.settings.attempts _ ends.Closed _ (some_left c.args.left _ refl, ends_so _ _ c.args.buffer.now c.read_request.new.buffer c.in-End.ensures.is, refl)

pub returns-in-Ok-clause-last : goal.returns-in-Ok-clause-last
returns-in-Ok-clause-last g c =
    let told = c.in-Ok.ensures.written in
    ends_telling c.args.desk.now c.args.settings.attempts _ ends.BadHead _ told.0 _ (some_left c.args.left _ refl, malformed_so _ _ c.args.buffer.now c.read_request.new.buffer c.in-BadHead.ensures.is, told.1) told.2

pub returns-in-Err-clause-last : goal.returns-in-Err-clause-last
returns-in-Err-clause-last g c =
    let cut = c.in-Err.ensures.cut in
    ends_telling c.args.desk.now c.args.settings.attempts _ ends.WriteFault _ (take cut.2.0 cut.0) _
    (some_left c.args.left _ refl, BadRequest BadHead, malformed_so _ _ c.args.buffer.now c.read_request.new.buffer c.in-BadHead.ensures.is, cut.0, cut.1, cut.2.0, refl) cut.2.1

pub returns-in-Ok-refuse-clause-last : goal.returns-in-Ok-refuse-clause-last
returns-in-Ok-refuse-clause-last g c =
    let told = c.in-Ok-refuse.ensures.written in
    ends_telling c.args.desk.now c.args.settings.attempts _ ends.TooLarge _ told.0 _ (some_left c.args.left _ refl, too_large_so _ _ c.args.buffer.now c.read_request.new.buffer c.in-TooLarge.ensures.is, told.1) told.2

pub returns-in-Err-refuse-clause-last : goal.returns-in-Err-refuse-clause-last
returns-in-Err-refuse-clause-last g c =
    let cut = c.in-Err-refuse.ensures.cut in
    ends_telling c.args.desk.now c.args.settings.attempts _ ends.WriteFault _ (take cut.2.0 cut.0) _
    (some_left c.args.left _ refl, TooLarge, too_large_so _ _ c.args.buffer.now c.read_request.new.buffer c.in-TooLarge.ensures.is, cut.0, cut.1, cut.2.0, refl) cut.2.1

pub returns-in-ReadFault-clause-last : goal.returns-in-ReadFault-clause-last
returns-in-ReadFault-clause-last g c = ends_without c.args.desk.now c.args.settings.attempts _ ends.ReadFault _ (
  some_left c.args.left _ refl,
  λ b e.
      let r = read_is incoming.ReadFault (g.S.Source.left c.args.source.now) (g.S.Source.left c.read_request.new.source) c.args.buffer.now c.read_request.new.buffer b c.in-ReadFault.ensures.is e in
      (r.1.after, r.1.left_is, r.1.is_so),
  refl,
)
