use Rattle.std.proofs.Common.{ap, Option}
use Rattle.std.specs.Option.{option_map}
use Rattle.cat_model.specs.declared.commit.Commit.{Commit}
use Rattle.cat_names.specs.declared.hash.Hash.{Hash}
use Rattle.cat_pages.proofs.Walks.{behind}
use Rattle.cat_pages.specs.declared.token.Token.TheVariants.{History}
use Rattle.cat_pages.proofs.history.following.Goals as goal

pub returns-in-Some : goal.returns-in-Some
returns-in-Some c =
    ap (λ (o : Option (Hash × Commit)). option_map (λ x. History x.0) o) (behind c.args.shown c.args.commits.now c.in-Some.field-0.now c.in-Some.ensures.lookup.3.0 c.in-Some.ensures.lookup.1)
