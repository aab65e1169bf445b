use Rattle.std.proofs.Common.{List, ◌∷◌, ◌∙◌, ap}
use Rattle.cat_names.specs.declared.hash.Hash.{Hash}
use Rattle.cat_model.specs.declared.content.Content.{Content}
use Rattle.cat_state.proofs.Added.{content_more}
use Rattle.cat_state.proofs.catalogue.Catalogue.add_content.Goals as goal

pub returns-clause-new : goal.returns-clause-new
returns-clause-new c =
    content_more c.args.self.now c.args.more.now c.push.new.self c.args.hash c.in_ok-copy_content.field-0 c.requires.new (c.in_ok-is_new_content.ensures.absent c.if-not-branch.false) (c.push.ensures.list ∙ ap (λ (l : List (Hash × Content)). (c.args.hash, c.in_ok-copy_content.field-0) ∷ l) c.in_ok-reserve.ensures.list)
