use Rattle.std.proofs.Common.{length, arith}
use Rattle.cat_names.proofs.KeyParts.{few_of}
use Rattle.cat_names.proofs.key.ContentKey.count.Goals as goal

pub overflow_cast-result : goal.overflow_cast-result
overflow_cast-result c = omega (arith, few_of (length c.self.inside.elements) c.self.invariant.count)
