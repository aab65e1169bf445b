use Rattle.std.proofs.Common.{◌≡◌, ◌++◌, drop, map, filter_map}
use Rattle.sha2.specs.Sha256.{sha256}
use Rattle.cat_model.specs.Commits.{given_from, with_their_contents}
use Rattle.cat_model.specs.State.{content_hash}
use Rattle.cat_decisions.specs.KeyLaws.{Both}
use Rattle.cat_decisions.proofs.given.with_ids.Given as goal

abbrev pub invariant-loop-index : goal.invariant-loop-index
invariant-loop-index l = record {
  ops : l.given.ops ++ map (λ (b : Both). b.0) (given_from sha256 l.draft l.index (with_their_contents (drop l.index l.request.ops) l.left)) ≡ map (λ (b : Both). b.0) (given_from sha256 l.draft 0 (with_their_contents l.request.ops l.request.contents));
  contents : l.given.contents ++ filter_map (λ (b : Both). b.1) (given_from sha256 l.draft l.index (with_their_contents (drop l.index l.request.ops) l.left)) ≡ filter_map (λ (b : Both). b.1) (given_from sha256 l.draft 0 (with_their_contents l.request.ops l.request.contents));
  hashes : l.given.hashes.items ≡ map (content_hash sha256) l.given.contents;
}
