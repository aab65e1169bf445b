use Rattle.std.proofs.Common.{◌≡◌, Ok, subst}
use Rattle.sha2.specs.Sha256.{sha256}
use Rattle.cat_model.specs.Records.{with_contents}
use Rattle.cat_model.specs.State.{State}
use Rattle.cat_state.specs.Changing.{with_additions}
use Rattle.cat_state.proofs.Added.{added_held}
use Rattle.cat_state.proofs.Held.{all_there, map_there}
use Rattle.cat_state.proofs.catalogue.Catalogue.additions_of.Goals as goal

pub returns-clause-held : goal.returns-clause-held
returns-clause-held c =
    let more = with_additions c.args.self.now c.add_contents.new.more in
    let step = subst (λ (s : State). with_contents sha256 s c.args.contents.now ≡ Ok more) c.no_additions-more.ensures.none c.in_ok-add_contents.ensures.step in
    let there = map_there (c.args.self.now).present more.present c.args.hashes.now c.args.made.map (all_there c.args.self.now more c.args.contents.now c.args.hashes.now c.requires.hashes step) c.requires.held in
    added_held c.args.self.now c.add_contents.new.more c.add_commit.new.more c.args.made.written.hash c.args.made.map c.in_ok-add_commit.ensures.added there
