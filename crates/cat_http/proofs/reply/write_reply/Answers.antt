use Rattle.std.proofs.Common.{refl, ap, ◌≡◌, ◌∙◌}
use Rattle.std.specs.Prelude.{decimal}
use Rattle.cat_http.proofs.PutLemmas.{wrote_same}
use Rattle.cat_http.proofs.reply.write_reply.Goals as goal

pub returns : goal.returns
returns g c =
    let start = g.K.Sink.held c.args.sink.now in
    let from = g.K.Sink.faults c.args.sink.now in
    let code : c.as_bytes.result.now ≡ decimal c.args.reply.now.status = c.as_bytes.ensures.value ∙ c.format.ensures.text ∙ ap decimal c.as_u16.ensures.value in
    wrote_same _ _ _ _ _ _ _ (rw (code, c.phrase.ensures, c.place_number.ensures, c.body_length.ensures, c.close_line.ensures, c.body_part.ensures) refl)
    (c.finish.ensures start from _ (c.put-9.ensures start from _ (c.put-8.ensures start from _ (c.put-7.ensures start from _
    (c.put_number_line-2.ensures start from _ (c.put_number_line.ensures start from _ (c.put_text_line.ensures start from _
    (c.put-6.ensures start from _ (c.put-5.ensures start from _ (c.put-4.ensures start from _ (c.put-3.ensures start from _
    (c.put-2.ensures start from _ (c.put.ensures start from _ (c.new-gathered.ensures start from))))))))))))))
