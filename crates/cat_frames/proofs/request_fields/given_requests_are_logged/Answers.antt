use Rattle.sha2.specs.Sha256.{sha256}
use Rattle.cat_frames.specs.RequestLaws.{given_is_logged}
use Rattle.cat_frames.proofs.request_fields.given_requests_are_logged.Goals as goal

pub returns : goal.returns
returns c = given_is_logged sha256
