use Rattle.std.proofs.Common.{sym, subst, ◌∙◌, ◌∷◌}
use Rattle.std.specs.Prelude.{IsPermutation}
use Rattle.cat_graph.specs.declared.front.Reached.{Reached}
use Rattle.cat_graph.proofs.Alike.{nearest_is}
use Rattle.cat_graph.proofs.Meeting.{goes_on_twice, goes_up_end, goes_up_one, goes_up_two}
use Rattle.cat_graph.proofs.Walks.{nothing_there}
use Rattle.cat_graph.proofs.graph.Graph.go_on.Goals as goal

pub returns-then-eq : goal.returns-then-eq
returns-then-eq c =
    let again = sym c.nearest.ensures.first ∙ nearest_is c.nearest.result c.in-Some.at (sym c.if-eq.ensures) in
    goes_on_twice _ _ _ c.in-Some.at (sym c.in-Some.ensures.first) c.in-Some.ensures.others c.requires.generations again

pub returns-in_default-get : goal.returns-in_default-get
returns-in_default-get c =
    let none = nothing_there c.get.result _ c.get.ensures c.in_default-get.is in
    goes_up_end _ _ _ c.in-Some.at (sym c.in-Some.ensures.first) c.in-Some.ensures.others c.requires.generations none

pub returns-in_default-merge_parent : goal.returns-in_default-merge_parent
returns-in_default-merge_parent c =
    let put = subst (λ (r : Reached). IsPermutation (r ∷ c.take.new.self) c.put.new.self) c.reached.ensures c.in_ok-put.ensures in
    goes_up_one c.args.self.now _ _ _ c.in-Some.at c.in-Some-get.commit.now c.known.ensures (sym c.in-Some.ensures.first) c.in-Some.ensures.others c.requires.generations
    (sym c.in-Some-get.ensures) c.in_default-merge_parent.is put

pub returns-in_ok-put-2 : goal.returns-in_ok-put-2
returns-in_ok-put-2 c =
    let put = subst (λ (r : Reached). IsPermutation (r ∷ c.take.new.self) c.put.new.self) c.reached.ensures c.in_ok-put.ensures in
    let put_both = subst (λ (r : Reached). IsPermutation (r ∷ c.put.new.self) c.put-in-Some-merge_parent.new.self) c.reached-in-Some-merge_parent.ensures c.in_ok-put-2.ensures in
    goes_up_two c.args.self.now _ _ _ _ c.in-Some.at c.in-Some-get.commit.now c.in-Some-merge_parent.merge_parent c.known.ensures (sym c.in-Some.ensures.first) c.in-Some.ensures.others c.requires.generations
    (sym c.in-Some-get.ensures) c.in-Some-merge_parent.is put put_both
