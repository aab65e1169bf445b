use Rattle.std.proofs.Common.{rules, ◌≡◌, ◌&&◌, [], length, max, nat_le, reverse, false, true, sym, ap, ◌∙◌}
use Rattle.cat_model.specs.Chain.{Commits}
use Rattle.cat_state.specs.Starting.{may_be_added, may_be_references}
use Rattle.cat_state.proofs.Founding.{catalogue_found, refused_references, same_references, starts_all}
use Rattle.cat_state.proofs.catalogue.Catalogue.from_checkpoint.Goals as goal

pub returns-then-not-branch : goal.returns-then-not-branch
returns-then-not-branch c =
    let commits : c.in-Some.founded ≡ reverse c.args.checkpoint.commits = search (rules, c.in_ok-founded.ensures.some, c.in-Some.is, c.into_vec-2.ensures) in
    let contents = c.in_ok-contents.ensures ∙ ap reverse c.into_vec.ensures in
    let no : may_be_references c.in-Some.founded c.in_ok-contents.contents c.in_ok-references.references ≡ false = search (rules, c.in_ok-may_be_references.ensures, c.if-not-branch.true) in
    refused_references c.args.limits c.args.checkpoint (sym (same_references c.args.checkpoint c.in_ok-references.references c.in-Some.founded c.in_ok-contents.contents c.in_ok-references.ensures commits contents) ∙ no)

pub invariant_of-result : goal.invariant_of-result
invariant_of-result c =
    let commits : c.in-Some.founded ≡ reverse c.args.checkpoint.commits = search (rules, c.in_ok-founded.ensures.some, c.in-Some.is, c.into_vec-2.ensures) in
    let contents = c.in_ok-contents.ensures ∙ ap reverse c.into_vec.ensures in
    let may : may_be_references c.in-Some.founded c.in_ok-contents.contents c.in_ok-references.references ≡ true = search (rules, c.in_ok-may_be_references.ensures, c.if-not-branch.false) in
    let added : may_be_added c.args.limits [] c.args.checkpoint.commits ≡ true = search (rules, c.in_ok-founded.ensures.some, c.in-Some.is, c.into_vec-2.ensures) in
    let limits = c.args.limits in
    let few : (nat_le (length c.args.checkpoint.references) (max 1 limits.references) && nat_le c.args.checkpoint.place limits.log && nat_le (length c.args.checkpoint.commits) limits.commits && nat_le (length c.args.checkpoint.contents) limits.contents) ≡ true = search (rules, c.is_within.ensures, c.if-not-is_within.false, c.if-not-is_within.ensures) in
    catalogue_found limits c.args.checkpoint c.in_ok-references.references c.founded.inside.commits c.founded.inside.maps c.in_ok-contents.contents c.requires.log c.requires.commits c.founded.invariant
    c.in_ok-references.ensures (c.founded.view_is ∙ commits) contents few added (ap (λ (l : Commits). may_be_references l c.in_ok-contents.contents c.in_ok-references.references) c.founded.view_is ∙ may)

pub returns : goal.returns
returns c =
    let commits : c.in-Some.founded ≡ reverse c.args.checkpoint.commits = search (rules, c.in_ok-founded.ensures.some, c.in-Some.is, c.into_vec-2.ensures) in
    let contents = c.in_ok-contents.ensures ∙ ap reverse c.into_vec.ensures in
    let may : may_be_references c.in-Some.founded c.in_ok-contents.contents c.in_ok-references.references ≡ true = search (rules, c.in_ok-may_be_references.ensures, c.if-not-branch.false) in
    let added : may_be_added c.args.limits [] c.args.checkpoint.commits ≡ true = search (rules, c.in_ok-founded.ensures.some, c.in-Some.is, c.into_vec-2.ensures) in
    let limits = c.args.limits in
    let few : (nat_le (length c.args.checkpoint.references) (max 1 limits.references) && nat_le c.args.checkpoint.place limits.log && nat_le (length c.args.checkpoint.commits) limits.commits && nat_le (length c.args.checkpoint.contents) limits.contents) ≡ true = search (rules, c.is_within.ensures, c.if-not-is_within.false, c.if-not-is_within.ensures) in (
      starts_all limits c.args.checkpoint few added (sym (same_references c.args.checkpoint c.in_ok-references.references c.in-Some.founded c.in_ok-contents.contents c.in_ok-references.ensures commits contents) ∙ may),
      λ i. record {
        place = c.args.checkpoint.place;
        references = c.in_ok-references.ensures i;
        commits = (c.founded.view_is ∙ commits) i;
        present = contents i;
        limits = limits;
      },
    )
