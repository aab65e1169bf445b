use Rattle.std.proofs.Common.{◌≡◌, ◌+◌, ◌∙◌, ℕ, ap, length, rules, sym}
use Rattle.cat_model.specs.Formats.{commit_code}
use Rattle.cat_frames.specs.Sizes.{capped}
use Rattle.cat_frames.proofs.Sizes.{behind_four}
use Rattle.cat_frames.proofs.checkpoint_size.commit_size.Goals as goal

pub returns : goal.returns
returns c =
    let spelled : length c.in_ok-bytes.bytes.items ≡ length (commit_code.spell c.args.commit.now.1) = ap length c.in_ok-bytes.ensures.spelled in
    let all : c.len.result ≡ length c.in_ok-bytes.bytes.items = search rules in
    c.sum.ensures ∙ ap (λ (n : ℕ). capped (4 + n)) (all ∙ spelled) ∙ ap capped (sym (behind_four _ _))
