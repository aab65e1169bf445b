use Rattle.std.proofs.Common.{ap, Option}
use Rattle.std.specs.Option.{option_map}
use Rattle.cat_model.specs.declared.commit.Commit.{Commit}
use Rattle.cat_names.specs.declared.hash.Hash.{Hash}
use Rattle.cat_pages.proofs.Walks.{cut_shown, cut_next}
use Rattle.cat_pages.specs.declared.token.Token.TheVariants.{History}
use Rattle.cat_pages.proofs.history.history_page.Goals as goal

pub returns-clause-items : goal.returns-clause-items
returns-clause-items c =
    rw (c.in_ok-from_vec.ensures.list, c.truncate-2.ensures.items, c.truncate.ensures.items, c.len_until-len.ensures, c.as_slice.ensures.value)
    (cut_shown c.in_ok-commits.commits.items _ _ _ c.args.limit c.in_ok-commits.ensures)

pub returns-clause-token : goal.returns-clause-token
returns-clause-token c =
    rw (c.following-token.ensures, c.as_slice-2.ensures.value, c.truncate.ensures.items, c.len_until-len.ensures, c.as_slice.ensures.value)
    (ap (λ (o : Option (Hash × Commit)). option_map (λ x. History x.0) o) (cut_next c.in_ok-commits.commits.items _ _ _ c.args.limit c.in_ok-commits.ensures))
