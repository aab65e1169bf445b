use Rattle.std.proofs.lemmas.Result.{on_ok_weaker}
use Rattle.sha2.specs.Sha256.{sha256}
use Rattle.cat_frames.specs.Requests.{request_code}
use Rattle.cat_frames.proofs.Written.{logged_is}
use Rattle.cat_frames.proofs.request_fields.write_request.Goals as goal

pub write_asked-requires : goal.write_asked-requires
write_asked-requires c = (logged_is sha256 c.args.draft c.args.request.now c.requires).whole

pub returns-clause-fits : goal.returns-clause-fits
unfolding request_code
returns-clause-fits c =
    let logged = logged_is sha256 c.args.draft c.args.request.now c.requires in
    on_ok_weaker c.write_asked.result (λ fits. ((c.in_ok-write.ensures.fits, (c.in_ok-write-2.ensures.fits, (c.in_ok-write-3.ensures.fits, fits c.args.draft logged.logged))), logged.back)) c.write_asked.ensures.fits
