use Rattle.std.proofs.Common.{arith, ◌≡◌, ◌∷◌, ◌++◌, List, [], Option, Some, None, refl}
use Rattle.std.proofs.lemmas.Grind.{common_steps}
use Rattle.std.specs.Vec.Iter.{into_iter_items}
use Rattle.cat_model.specs.declared.content.Content.{Content}
use Rattle.cat_model.specs.declared.op.Op.{Op}
use Rattle.cat_rest.specs.Bodies.{contents_of}
use Rattle.cat_rest.proofs.commit.body_of.Goals as goal

one_more : (one : Op × Option Content) (rest : List (Op × Option Content)) → contents_of (one ∷ []) ++ contents_of rest ≡ contents_of (one ∷ rest)
one_more (op, None) rest = refl
one_more (op, Some content) rest = refl

pub loop-one-preserved : goal.loop-one-preserved
loop-one-preserved c =
    let more = one_more c.in-Some.one (into_iter_items c.next.new.self) in
    record {
      ops_so_far = grind (arith, common_steps);
      contents_so_far = grind (arith, common_steps, more);
    }
