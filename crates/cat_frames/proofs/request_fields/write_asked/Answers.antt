use Rattle.std.proofs.Common.{true, ◌≡◌, ◌++◌, List, subst}
use Rattle.std.proofs.lemmas.Result.{on_ok_weaker}
use Rattle.sha2.specs.Sha256.{sha256}
use Rattle.cat_codes.specs.Code.{PlacedFit, placed_spelling}
use Rattle.cat_frames.specs.Requests.{Both, are_logged}
use Rattle.cat_frames.proofs.Written.{code_at, counted, few, same_both, then}
use Rattle.cat_frames.proofs.request_fields.write_asked.Goals as goal

pub returns-clause-spelled : goal.returns-clause-spelled
returns-clause-spelled c =
    let same = same_both c.as_slice.ensures c.as_slice-2.ensures in
    on_ok_weaker c.write_ops.result
    (λ spelled draft. then c.args.out.now c.u32.new.self _ _ _ (counted c.args.out.now c.u32.new.self c.args.ops.now c.args.contents.now c.len.result c.len.ensures c.in_ok-u32.ensures.ok) (subst (λ (b : List Both). c.write_ops.new.out ≡ c.u32.new.self ++ placed_spelling (code_at sha256 draft) 0 b) same (spelled draft)))
    c.write_ops.ensures.spelled

pub returns-clause-fits : goal.returns-clause-fits
returns-clause-fits c =
    let same = same_both c.as_slice.ensures c.as_slice-2.ensures in
    on_ok_weaker c.write_ops.result
    (λ fits draft logged. (few c.args.ops.now c.args.contents.now c.known.ensures, subst (λ (b : List Both). are_logged sha256 draft 0 b ≡ true → PlacedFit (code_at sha256 draft) 0 b) same (fits draft) logged))
    c.write_ops.ensures.fits
