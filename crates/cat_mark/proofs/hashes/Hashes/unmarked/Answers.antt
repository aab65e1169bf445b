use Rattle.std.proofs.Common.{◌≡◌, List, false, rules, sym, subst}
use Rattle.cat_names.specs.declared.hash.Hash.{Hash}
use Rattle.cat_mark.specs.Marks.{is_marked}
use Rattle.cat_mark.proofs.Unmarked.{IsFound, finds_one}
use Rattle.cat_mark.proofs.hashes.Hashes.unmarked.Goals as goal

pub loop-hash-preserved-in-Continue-1 : goal.loop-hash-preserved-in-Continue-1
loop-hash-preserved-in-Continue-1 g c =
    let un : is_marked c.args.self.now c.in-Some.hash.now ≡ false = search rules in
    subst (λ (l : List Hash). IsFound c.args.self.now l c.next.new.self c.args.contents.now) (sym c.in_ok-push.ensures.items)
    (finds_one c.args.self.now c.loop-hash.out.items c.loop-hash.rest c.next.new.self c.args.contents.now c.in-Some.hash.now c.loop-hash.invariant c.in-Some.ensures.found c.in-Some.ensures.left un)
